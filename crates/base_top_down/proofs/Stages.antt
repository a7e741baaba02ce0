-- What the stages 4 and 5 find nothing in is right at every row, and the other way round; references of declarations.
use mathlib.Core.Path.{◌≡◌, refl, ap, ◌∙◌}
use mathlib.Core.Logic.{◌⊎◌, inl, inr}
use mathlib.Core.List.{List, [], ◌++◌}
use mathlib.Core.Option.{none}
use Prim.Native.Nat.{ℕ, zero, suc, ◌≤◌, ◌<◌}
use native.Mathlib.Omega.{arith}
use lib.IntN.{ℤ}
use Rattle.meaning.specs.Rows.{row_count, kind_at}
use Rattle.meaning.specs.Kinds.{shapes, shape_in, shape_of}
use Rattle.meaning.specs.Declarations.{declarations}
use Rattle.meaning.specs.Verdict.{form_fault, tree_fault, target, targets_by, targets, targets_below}
use Rattle.meaning.specs.Faults.{WellFormed, WellPlaced}
use Rattle.meaning.proofs.StageLaws.{form-none, tree-none}
use Rattle.meaning.proofs.OneTreeLaw.{declared}

pub well-formed : (rows : List ℤ) → form_fault rows ≡ none → (r : ℕ) → r < row_count rows → WellFormed rows r
well-formed rows = (form-none rows).0

pub well-placed : (rows : List ℤ) → tree_fault rows ≡ none → (r : ℕ) → r < suc (row_count rows) → WellPlaced rows r
well-placed rows = (tree-none rows).0

pub form-nothing : (rows : List ℤ) → ((r : ℕ) → r < row_count rows → WellFormed rows r) → form_fault rows ≡ none
form-nothing rows = (form-none rows).1

pub tree-nothing : (rows : List ℤ) → ((r : ℕ) → r < suc (row_count rows) → WellPlaced rows r) → tree_fault rows ≡ none
tree-nothing rows = (tree-none rows).1

-- a declaration refers to no row
pub no_targets : (rows : List ℤ) (q : ℕ) → (kind_at rows q ≡ 1) ⊎ (kind_at rows q ≡ 2) → targets rows q ≡ []
unfolding shape_of shape_in shapes target
no_targets rows q (inl e) = ap (λ (k : ℕ). targets_by rows q (shape_of k)) e
no_targets rows q (inr e) = ap (λ (k : ℕ). targets_by rows q (shape_of k)) e

pub no-targets-below : (rows : List ℤ) (n : ℕ) → n ≤ declarations rows → targets_below rows n ≡ []
unfolding targets_below
no-targets-below rows zero h = refl
no-targets-below rows (suc n) h =
    ap (λ (l : List ℕ). l ++ targets rows n) (no-targets-below rows n (omega arith)) ∙ no_targets rows n (declared rows n (omega arith))
