-- The stages 4, 5, 6 and 14 find nothing exactly if every place is right.
use mathlib.Core.Path.{◌≡◌, sym, ◌∙◌}
use mathlib.Core.Logic.{◌⊎◌, inl, inr, ◌↔◌}
use mathlib.Core.Bool.{Bool}
use mathlib.Core.List.{List}
use mathlib.Core.Option.{Option, none, some, map, some-ne-none}
use Prim.Native.Nat.{ℕ, suc, ◌<◌}
use lib.IntN.{ℤ}
use Rattle.meaning.specs.Basics.{Lowest}
use Rattle.meaning.specs.Refusals.{Refusal}
use Rattle.meaning.specs.Rows.{row_count}
use Rattle.meaning.specs.Declarations.{declarations}
use Rattle.meaning.specs.Verdict.{form_fault, tree_fault, limit_fault, block_fault}
use Rattle.meaning.specs.Faults.{WellFormed, WellPlaced, WithinLimits, WellBlocked}
use Rattle.meaning.specs.StageClaims.{Finds, FormStage, TreeStage, LimitStage, BlockStage, PlacesDecided}
use Rattle.meaning.proofs.Decides.{Faults, right, wrong, not-wrong}
use Rattle.meaning.proofs.FaultLaws.{well-formed, form-stage, within-limits, limit-stage}
use Rattle.meaning.proofs.TreeLaws.{well-placed, tree-stage}
use Rattle.meaning.proofs.BlockLaws.{well-blocked, block-stage}

-- a stage that finds nothing: all places are right
finds-none : (number : ℕ) (Right : ℕ → Type 0) → ((i : ℕ) → ¬ (¬ Right i) → Right i) → (n : ℕ) (found : Option Refusal) → Finds number Right n found → (found ≡ none) ↔ ((i : ℕ) → i < n → Right i)
finds-none number Right stable n found h = go h.0 h.1 h.2
  where
    go : (o : Option ℕ) → found ≡ map (λ r. (number, r)) o → Lowest (λ i. ¬ Right i) n o → (found ≡ none) ↔ ((i : ℕ) → i < n → Right i)
    go none e w = (λ z i l. stable i (w i l), λ z. e)
    go (some i) e w = (λ z. absurd (some-ne-none (number, i) (sym e ∙ z)), λ z. absurd (w.1 (z i w.0)))

module _ (rows : List ℤ) where
  pub form-none : (form_fault rows ≡ none) ↔ ((r : ℕ) → r < row_count rows → WellFormed rows r)
  unfolding FormStage
  form-none = finds-none 4 (WellFormed rows) (λ r. not-wrong (well-formed rows r)) (row_count rows) (form_fault rows) (form-stage rows)

  pub tree-none : (tree_fault rows ≡ none) ↔ ((r : ℕ) → r < suc (row_count rows) → WellPlaced rows r)
  unfolding TreeStage
  tree-none = finds-none 5 (WellPlaced rows) (λ r. not-wrong (well-placed rows r)) (suc (row_count rows)) (tree_fault rows) (tree-stage rows)

  pub limit-none : (limit_fault rows ≡ none) ↔ ((r : ℕ) → r < declarations rows → WithinLimits rows r)
  unfolding LimitStage
  limit-none = finds-none 6 (WithinLimits rows) (λ r. not-wrong (within-limits rows r)) (declarations rows) (limit_fault rows) (limit-stage rows)

  pub block_none : (block_fault rows ≡ none) ↔ ((r : ℕ) → r < row_count rows → WellBlocked rows r)
  unfolding BlockStage
  block_none = finds-none 14 (WellBlocked rows) (λ r. not-wrong (well-blocked rows r)) (row_count rows) (block_fault rows) (block-stage rows)

pub places-decided : PlacesDecided
unfolding PlacesDecided
places-decided rows r = (either (well-formed rows r), either (well-placed rows r), either (within-limits rows r), either (well-blocked rows r))
  where
    either : {A : Type 0} {t : Bool} → Faults A t → A ⊎ (¬ A)
    either (right a) = inl a
    either (wrong a) = inr a
