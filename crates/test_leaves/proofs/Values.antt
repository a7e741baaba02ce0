-- The value of a row's expression: there is one to look for in an accepted table, at its rows.
use mathlib.Core.Path.{◌≡◌, refl}
use mathlib.Core.Bool.{Bool, true, false}
use mathlib.Core.List.{List}
use mathlib.Core.Option.{none, some}
use Prim.Native.Nat.{ℕ, ◌≤◌}
use lib.IntN.{ℤ}
use Rattle.meaning.specs.Basics.{if_else, is_some}
use Rattle.meaning.specs.Rows.{row_count}
use Rattle.meaning.specs.Tree.{content_at}
use Rattle.meaning.specs.Values.{Message, value}
use Rattle.meaning.specs.Answers.{check}
use Rattle.meaning.specs.declared.Value.TheVariants.{Missing}
use Rattle.meaning.specs.Refusals.{Refusal}
use Rattle.agreement.proofs.TableTree.{part-past}
use Rattle.test_leaves.specs.Leaves.{value_at}

module _ (rows : List ℤ) (cells : List Message) (r : ℕ) where
  pub past-rows : row_count rows ≤ r → Missing 0 ≡ value_at rows cells r
  unfolding value_at value
  past-rows h = rw (part-past rows r h) (go (is_some (check rows)))
    where
      go : (t : Bool) → Missing 0 ≡ if_else t (Missing 0) (Missing 0)
      go true = refl
      go false = refl

  pub refused-rows : (f : Refusal) → check rows ≡ some f → Missing 0 ≡ value_at rows cells r
  unfolding value_at
  refused-rows f e = rw e

  pub value_found : check rows ≡ none → value cells (content_at rows r).expr ≡ value_at rows cells r
  unfolding value_at
  value_found e = rw e
