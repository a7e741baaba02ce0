-- The verdict by the first stage that finds a fault, from the places that the stages find.
use mathlib.Core.Path.{◌≡◌, ap, subst}
use mathlib.Core.Bool.{Bool}
use mathlib.Core.List.{List, [], ◌∷◌}
use mathlib.Core.Option.{Option, none, some, map}
use Prim.Native.Nat.{ℕ, suc, ◌/◌, ◌%◌, ◌≤◌, ◌<◌, min}
use native.Mathlib.Omega.{arith}
use lib.IntN.{ℤ}
use lib.ListN.{length}
use lib.Dec.{T, eqb}
use borrow.Author.Tests.{eq-eqb, ne_eqb, le-leb, lt-leb}
use Rattle.meaning.specs.Refusals.{Refusal, either, first_fault}
use Rattle.meaning.specs.Answers.{verdict_of}
use Rattle.meaning.specs.Basics.{lowest, Lowest}
use Rattle.meaning.specs.Rows.{row_count}
use Rattle.meaning.specs.TableBytes.{numbers_fault}
use Rattle.meaning.specs.Verdict.{form_fault_at, form_fault, targets_below, tree_fault_at, tree_fault, over_limit, limit_fault}
use Rattle.meaning.specs.declared.Verdict.{Verdict}
use Rattle.meaning.specs.Declarations.{declarations}
use Rattle.meaning.proofs.LowestLaws.{lowest-is}
use Rattle.std.specs.Prelude.{Some}
use Rattle.base_rows.specs.Places.{place_of}
use Rattle.base_rows.proofs.LowestFound.{place-some}
use Rattle.base_kinds.proofs.Truth.{and-false}

-- what a place says of the lowest number
pub place-below : (p : ℕ → Bool) (n r : ℕ) → Some r ≡ place_of (lowest p n) → r < n
place-below p n r e = (subst (Lowest (λ i. T (p i)) n) (place-some (lowest p n) r e) (lowest-is p n)).0

module _ (rows : List ℤ) where
  -- 3
  pub too_many : 1024 < row_count rows → numbers_fault rows ≡ some (3, 1024)
  unfolding numbers_fault
  too_many h =
      let m : min (length rows / 4) 1024 ≡ 1024 = omega arith in
      simp (lt-leb (length rows / 4) 1024 h, and-false (eqb (length rows % 4) 0), m)

  pub not-four : row_count rows ≤ 1024 → (length rows % 4 ≡ 0 → ⊥) → numbers_fault rows ≡ some (3, row_count rows)
  unfolding numbers_fault
  not-four h e =
      let m : min (length rows / 4) 1024 ≡ length rows / 4 = omega arith in
      simp (ne_eqb (length rows % 4) 0 e, m)

  pub numbers-right : row_count rows ≤ 1024 → length rows % 4 ≡ 0 → numbers_fault rows ≡ none
  unfolding numbers_fault
  numbers-right h e = simp (eq-eqb (length rows % 4) 0 e, le-leb (length rows / 4) 1024 h)

  -- 4, 5, 6, by the place found
  pub form-found : (o : Option ℕ) → lowest (form_fault_at rows (declarations rows)) (row_count rows) ≡ o → form_fault rows ≡ map (λ r. (4, r)) o
  unfolding form_fault
  form-found o e = ap (map (λ (r : ℕ). (4, r))) e

  pub tree-found : (o : Option ℕ) → lowest (tree_fault_at rows (declarations rows) (targets_below rows (row_count rows))) (suc (row_count rows)) ≡ o → tree_fault rows ≡ map (λ r. (5, r)) o
  unfolding tree_fault
  tree-found o e = ap (map (λ (r : ℕ). (5, r))) e

  pub limit-found : (o : Option ℕ) → lowest (over_limit rows) (declarations rows) ≡ o → limit_fault rows ≡ map (λ r. (6, r)) o
  unfolding limit_fault
  limit-found o e = ap (map (λ (r : ℕ). (6, r))) e

-- the first of four stages that finds a fault answers
abbrev pub answer : List ℤ → Verdict
answer rows = verdict_of (first_fault (numbers_fault ∷ form_fault ∷ tree_fault ∷ limit_fault ∷ []) rows)

module _ (rows : List ℤ) where
  pub first-of-four : (a b c d : Option Refusal) → numbers_fault rows ≡ a → form_fault rows ≡ b → tree_fault rows ≡ c → limit_fault rows ≡ d → verdict_of (either a (either b (either c (either d none)))) ≡ answer rows
  unfolding first_fault
  first-of-four a b c d i j k l = simp (i, j, k, l)
