-- What is claimed of the stages 4, 5, 6 and 14: each answers with the lowest place at fault; the rows that stage 5 passes are one tree.
use Rattle.std.specs.Prelude.{◌≡◌, ◌⊎◌, List, ℕ, suc, ◌<◌, ℤ}
use Rattle.std.proofs.Math.Option.{Option, none, map}
use Rattle.meaning.specs.Basics.{Lowest}
use Rattle.meaning.specs.Refusals.{Refusal}
use Rattle.meaning.specs.Rows.{row_count}
use Rattle.meaning.specs.Declarations.{declarations}
use Rattle.meaning.specs.References.{Beneath}
use Rattle.meaning.specs.Faults.{WellFormed, WellPlaced, WithinLimits, WellBlocked}
use Rattle.meaning.specs.Verdict.{form_fault, tree_fault, limit_fault, block_fault}

-- a stage answers with the lowest of n places that is not right, under its number; with nothing if each is
abbrev pub Finds : ℕ → (ℕ → Type 0) → ℕ → Option Refusal → Type 0
Finds number Right n found = (o : Option ℕ) × (found ≡ map (λ r. (number, r)) o) × Lowest (λ r. ¬ Right r) n o

unfoldable pub FormStage : Type 0
FormStage = (rows : List ℤ) → Finds 4 (WellFormed rows) (row_count rows) (form_fault rows)

unfoldable pub TreeStage : Type 0
TreeStage = (rows : List ℤ) → Finds 5 (WellPlaced rows) (suc (row_count rows)) (tree_fault rows)

unfoldable pub LimitStage : Type 0
LimitStage = (rows : List ℤ) → Finds 6 (WithinLimits rows) (declarations rows) (limit_fault rows)

unfoldable pub BlockStage : Type 0
BlockStage = (rows : List ℤ) → Finds 14 (WellBlocked rows) (row_count rows) (block_fault rows)

-- of every place it is decided whether it is right; so all places below the lowest that is not are right
unfoldable pub PlacesDecided : Type 0
PlacesDecided =
    (rows : List ℤ) (r : ℕ)
    → (WellFormed rows r ⊎ (¬ WellFormed rows r))
    × (WellPlaced rows r ⊎ (¬ WellPlaced rows r))
    × (WithinLimits rows r ⊎ (¬ WithinLimits rows r))
    × (WellBlocked rows r ⊎ (¬ WellBlocked rows r))

-- the rows that stage 5 passes are one tree from the root: all after it are beneath it, and by one way (`Once`)
unfoldable pub OneTree : Type 0
OneTree =
    (rows : List ℤ)
    → tree_fault rows ≡ none
    → (r : ℕ) → declarations rows < r → r < row_count rows → Beneath rows (declarations rows) r
