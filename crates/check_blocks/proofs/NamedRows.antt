-- Rows that name a variable and blocks are no declarations, and what they name is one of at most 1,024.
use mathlib.Core.Path.{◌≡◌, refl, sym, ap, ◌∙◌}
use mathlib.Core.Logic.{inl, inr, ⊎_elim}
use mathlib.Core.List.{List}
use mathlib.Core.Option.{some}
use Prim.Native.Nat.{ℕ, ◌≤◌, ◌<◌}
use native.Mathlib.Decide.{dec_lt}
use native.Mathlib.Omega.{arith}
use lib.IntN.{ℤ}
use Rattle.meaning.specs.Rows.{natural_of, row_count, field_at, natural_at, kind_at}
use Rattle.meaning.specs.Kinds.{Shape, variable, shapes, shape_in, shape_of}
use Rattle.meaning.specs.Declarations.{declarations}
use Rattle.meaning.specs.Faults.{MayHold}
use Rattle.meaning.proofs.FaultLaws.{holds-a}
use Rattle.meaning.proofs.StageLaws.{form-none}
use Rattle.meaning.proofs.OneTreeLaw.{declared}
use Rattle.base_rows.proofs.Leading.{declarations-at-most}
use Rattle.base_top_down.specs.New.{FormPassed}
use Rattle.check_blocks.specs.Blocks.{NamesVariable}

module _ (rows : List ℤ) where
  -- a row of another kind than a declaration's is none
  from-root : (r k : ℕ) → kind_at rows r ≡ k → ¬ (k ≡ 1) → ¬ (k ≡ 2) → declarations rows ≤ r
  from-root r k e a b = go (dec_lt r (declarations rows))
    where
      go : Dec (r < declarations rows) → declarations rows ≤ r
      go (yes l) = absurd (⊎_elim (λ i. a (sym e ∙ i)) (λ i. b (sym e ∙ i)) (declared rows r l))
      go (no l) = omega arith

  pub block-from-root : (r : ℕ) → kind_at rows r ≡ 35 → declarations rows ≤ r
  block-from-root r e = from-root r 35 e (λ i. omega arith) (λ i. omega arith)

  pub name-from-root : (r : ℕ) → NamesVariable rows r → declarations rows ≤ r
  name-from-root r (inl e) = from-root r 11 e (λ i. omega arith) (λ i. omega arith)
  name-from-root r (inr e) = from-root r 22 e (λ i. omega arith) (λ i. omega arith)

  module _ (passed : FormPassed rows) (r : ℕ) (l : r < row_count rows) where
    -- a field a that names a variable names one of at most 1,024
    named-below : MayHold rows r variable (field_at rows r 1) → natural_at rows r 1 < 1024
    unfolding MayHold
    named-below (q, (e, d, k)) = let f = passed.few in let m = declarations-at-most rows in rw (ap natural_of e) (omega arith)

    held : (k : ℕ) (s : Shape) → shape_of k ≡ some s → kind_at rows r ≡ k → MayHold rows r s.a (field_at rows r 1)
    held k s e i = holds-a rows r s ((form-none rows).0 passed.form r l) (ap shape_of i ∙ e)

    pub block-below : kind_at rows r ≡ 35 → natural_at rows r 1 < 1024
    unfolding shape_of shapes shape_in
    block-below i = named-below (held 35 _ refl i)

    pub name_below : NamesVariable rows r → natural_at rows r 1 < 1024
    unfolding shape_of shapes shape_in
    name_below (inl i) = named-below (held 11 _ refl i)
    name_below (inr i) = named-below (held 22 _ refl i)
