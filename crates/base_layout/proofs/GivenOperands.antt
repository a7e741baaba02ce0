-- In rows that stage 4 refuses nothing in, a row that GIVEN refers to is an element.
use mathlib.Core.Path.{◌≡◌, refl, ap}
use mathlib.Core.Bool.{Bool, true, false}
use mathlib.Core.List.{List}
use mathlib.Core.Option.{none}
use Prim.Native.Nat.{ℕ, ◌<◌, ◌≤◌}
use native.Mathlib.Omega.{arith}
use lib.IntN.{ℤ, pos, negsuc}
use lib.ListN.{length}
use lib.Dec.{ltb}
use Rattle.meaning.specs.Basics.{if_else}
use Rattle.meaning.specs.Rows.{natural_of, row_count, field_at, natural_at, kind_at}
use Rattle.meaning.specs.Kinds.{operator, shapes, shape_in, shape_of}
use Rattle.meaning.specs.Verdict.{form_fault}
use Rattle.meaning.specs.Faults.{MayHold}
use Rattle.meaning.proofs.FaultLaws.{holds-a}
use Rattle.meaning.proofs.Decides.{Decides, holding, failing, decides_eq}
use Rattle.meaning.proofs.StageLaws.{form-none}
use Rattle.base_layout.specs.Operands.{operand_at, GivenElements}

-- a number whose row number is small is that number
is-natural : (z : ℤ) (n : ℕ) → natural_of z ≡ n → n < 1024 → z ≡ pos n
is-natural (pos k) n e h = ap pos e
is-natural (negsuc k) n e h = absurd (omega arith)

module _ (rows : List ℤ) (few : row_count rows ≤ 1024) (form : form_fault rows ≡ none) where
  -- what field a of a monadic operation may hold
  operator-held : (r : ℕ) → r < row_count rows → kind_at rows r ≡ 12 → MayHold rows r operator (field_at rows r 1)
  unfolding shape_of shape_in shapes
  operator-held r h e = holds-a rows r _ ((form-none rows).0 form r h) (ap shape_of e)

  named-element : (r t : ℕ) → r < row_count rows → kind_at rows r ≡ 12 → natural_at rows r 1 ≡ 2 → natural_at rows r 2 ≡ t → t < row_count rows → kind_at rows t ≡ 11
  unfolding MayHold
  named-element r t h e i q l = go (decides_eq (kind_at rows t) 11)
    where
      go : {b : Bool} → Decides (kind_at rows t ≡ 11) b → kind_at rows t ≡ 11
      go (holding k) = k
      go (failing k) = absurd ((operator-held r h e).1 (is-natural (field_at rows r 1) 2 i (omega arith), (t, (is-natural (field_at rows r 2) t q (omega arith), l, k))))

  pub given-elements : GivenElements rows
  unfolding operand_at
  given-elements r h e i = go (ltb r (natural_at rows r 2))
    where
      go : (b : Bool) → if_else b (natural_at rows r 2) (length rows) < row_count rows → kind_at rows (if_else b (natural_at rows r 2) (length rows)) ≡ 11
      go true l = named-element r (natural_at rows r 2) h e i refl l
      go false l = absurd (omega arith)
