-- Each stage on rows before usage finds nothing exactly if all places are right, and else the lowest place that is not.
use mathlib.Core.Path.{◌≡◌, refl, sym, ap, ◌∙◌, subst}
use mathlib.Core.Logic.{◌↔◌}
use mathlib.Core.Bool.{Bool, ◌&&◌}
use mathlib.Core.List.{List}
use mathlib.Core.Option.{Option, none, some, map, none-ne-some, some-ne-none, some-injective}
use Prim.Native.Nat.{ℕ, suc, ◌%◌, min}
use lib.IntN.{ℤ}
use lib.ListN.{length}
use lib.Dec.{leb, eqb}
use Rattle.meaning.specs.Basics.{if_else, Lowest}
use Rattle.meaning.specs.Limits.{max_rows}
use Rattle.meaning.specs.Refusals.{Refusal}
use Rattle.meaning.specs.Rows.{row_count}
use Rattle.meaning.specs.TableBytes.{numbers_fault}
use Rattle.meaning.specs.Declarations.{declarations}
use Rattle.meaning.specs.Verdict.{form_fault, tree_fault, limit_fault, block_fault}
use Rattle.meaning.specs.Faults.{WellFormed, WellPlaced, WithinLimits, WellBlocked}
use Rattle.meaning.specs.StageClaims.{Finds, FormStage, TreeStage, LimitStage, BlockStage}
use Rattle.meaning.proofs.Decides.{Decides, holding, failing, decides_and, decides_eq, decides-le}
use Rattle.meaning.proofs.FaultLaws.{form-stage, limit-stage}
use Rattle.meaning.proofs.TreeLaws.{tree-stage}
use Rattle.meaning.proofs.BlockLaws.{block-stage}
use Rattle.meaning.proofs.StageLaws.{form-none, tree-none, limit-none, block_none}
use Rattle.meaning.proofs.LowestLaws.{lowest-one}
use Rattle.agreement.specs.VerdictClaims.{WholeRows, EachFormed, EachPlaced, EachLimited, EachBlocked, LowestWrong}

-- a stage that finds a fault: its number, and the lowest place that is not right
finds-some : (number : ℕ) (Right : ℕ → Type 0) (n : ℕ) (found : Option Refusal) → Finds number Right n found → (f : Refusal) → (found ≡ some f) ↔ ((f.0 ≡ number) × LowestWrong Right n f.1)
finds-some number Right n found h f = go h.0 h.1 h.2
  where
    go : (o : Option ℕ) → found ≡ map (λ r. (number, r)) o → Lowest (λ q. ¬ Right q) n o → (found ≡ some f) ↔ ((f.0 ≡ number) × LowestWrong Right n f.1)
    go none e w = (λ z. absurd (none-ne-some f (sym e ∙ z)), λ z. absurd (w f.1 z.1.0 z.1.1))
    go (some i) e w = (
      λ z. let g = some-injective (number, i) f (sym e ∙ z) in (sym (ap (λ (x : Refusal). x.0) g), subst (λ (x : Refusal). LowestWrong Right n x.1) g w),
      λ z. e ∙ ap some (λ j. (sym z.0 j, lowest-one (λ q. ¬ Right q) n i f.1 w z.1 j)),
    )

module _ (rows : List ℤ) where
  decides-whole : Decides (WholeRows rows) (eqb (length rows % 4) 0 && leb (row_count rows) max_rows)
  decides-whole = decides_and (decides_eq (length rows % 4) 0) (decides-le (row_count rows) max_rows)

  -- the refusal of rows that are not whole
  abbrev pub not_whole : Refusal
  not_whole = (3, min (row_count rows) max_rows)

  pub whole-passes : (numbers_fault rows ≡ none) ↔ WholeRows rows
  unfolding numbers_fault
  whole-passes = go decides-whole
    where
      go : {t : Bool} → Decides (WholeRows rows) t → (if_else t none (some not_whole) ≡ none) ↔ WholeRows rows
      go (holding h) = (λ e. h, λ i. refl)
      go (failing h) = (λ e. absurd (some-ne-none not_whole e), λ i. absurd (h i))

  pub whole-faults : (f : Refusal) → (numbers_fault rows ≡ some f) ↔ ((¬ WholeRows rows) × (f ≡ not_whole))
  unfolding numbers_fault
  whole-faults f = go decides-whole
    where
      go : {t : Bool} → Decides (WholeRows rows) t → (if_else t none (some not_whole) ≡ some f) ↔ ((¬ WholeRows rows) × (f ≡ not_whole))
      go (holding h) = (λ e. absurd (none-ne-some f e), λ i. absurd (i.0 h))
      go (failing h) = (λ e. (h, sym (some-injective not_whole f e)), λ i. ap some (sym i.1))

  pub form-passes : (form_fault rows ≡ none) ↔ EachFormed rows
  form-passes = form-none rows

  pub form-faults : (f : Refusal) → (form_fault rows ≡ some f) ↔ ((f.0 ≡ 4) × LowestWrong (WellFormed rows) (row_count rows) f.1)
  unfolding FormStage
  form-faults = finds-some 4 (WellFormed rows) (row_count rows) (form_fault rows) (form-stage rows)

  pub tree-passes : (tree_fault rows ≡ none) ↔ EachPlaced rows
  tree-passes = tree-none rows

  pub tree-faults : (f : Refusal) → (tree_fault rows ≡ some f) ↔ ((f.0 ≡ 5) × LowestWrong (WellPlaced rows) (suc (row_count rows)) f.1)
  unfolding TreeStage
  tree-faults = finds-some 5 (WellPlaced rows) (suc (row_count rows)) (tree_fault rows) (tree-stage rows)

  pub limit-passes : (limit_fault rows ≡ none) ↔ EachLimited rows
  limit-passes = limit-none rows

  pub limit-faults : (f : Refusal) → (limit_fault rows ≡ some f) ↔ ((f.0 ≡ 6) × LowestWrong (WithinLimits rows) (declarations rows) f.1)
  unfolding LimitStage
  limit-faults = finds-some 6 (WithinLimits rows) (declarations rows) (limit_fault rows) (limit-stage rows)

  pub block-passes : (block_fault rows ≡ none) ↔ EachBlocked rows
  block-passes = block_none rows

  pub block-faults : (f : Refusal) → (block_fault rows ≡ some f) ↔ ((f.0 ≡ 14) × LowestWrong (WellBlocked rows) (row_count rows) f.1)
  unfolding BlockStage
  block-faults = finds-some 14 (WellBlocked rows) (row_count rows) (block_fault rows) (block-stage rows)
