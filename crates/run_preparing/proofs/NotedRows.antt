-- The lists that are made of a table note of each row its parent, its next link and its ALT.
use mathlib.Core.Path.{◌≡◌, ap, ◌∙◌}
use mathlib.Core.List.{List}
use Prim.Native.Nat.{ℕ, ◌<◌, ◌≤◌}
use native.Mathlib.Omega.{arith}
use lib.IntN.{ℤ}
use lib.ListN.{length, get_or, replicate, length-replicate}
use Rattle.meaning.specs.Rows.{row_count}
use Rattle.meaning.specs.State.{program}
use Rattle.meaning.proofs.LentLaws.{defaults-at}
use Rattle.machine.specs.Upward.{parent_of}
use Rattle.run_parents.specs.Marks.{row_note, owner_notes}
use Rattle.run_parents.proofs.ByRow.{at-row, owner-noted}
use Rattle.run_parents.specs.Parents.{next_link, if_parent, parent_notes, next_notes}
use Rattle.run_code.specs.Prepared.{next_note}
use Rattle.run_preparing.specs.Notes.{Noted}

module _ (rows : List ℤ) (few : row_count rows ≤ 1024) where
  parent_in : (r : ℕ) → r < 1024 → get_or (parent_notes rows 1024) r 0 ≡ row_note (parent_of (program rows) r)
  unfolding parent_notes
  parent_in r l = at-row (λ r. row_note (parent_of (program rows) r)) 1024 r l

  -- in place of zeros
  module _ (zeros : List ℕ) (e : length zeros ≡ 1024) (z : (j : ℕ) → get_or zeros j 0 ≡ 0) where
    next-in : (r : ℕ) → r < 1024 → get_or (next_notes rows zeros) r 0 ≡ next_note rows r
    unfolding next_notes next_note
    next-in r l =
        at-row (λ r. if_parent (parent_of (program rows) r) (next_link rows r) (get_or zeros r 0)) (length zeros) r (omega arith)
        ∙ ap (if_parent (parent_of (program rows) r) (next_link rows r)) (z r)

    pub noted : (parents nexts owners : List ℕ) → parents ≡ parent_notes rows 1024 → nexts ≡ next_notes rows zeros → owners ≡ owner_notes rows 1024 → Noted rows parents nexts owners
    noted parents nexts owners p n o =
        record {
          parent = λ r l. ap (λ (m : List ℕ). get_or m r 0) p ∙ parent_in r (omega arith);
          next = λ r l. ap (λ (m : List ℕ). get_or m r 0) n ∙ next-in r (omega arith);
          owner = λ r l. owner-noted rows 1024 owners o r (omega arith);
        }

-- the list of 1,024 zeros
pub noted-rows : (rows : List ℤ) → row_count rows ≤ 1024 → (parents nexts owners : List ℕ) → parents ≡ parent_notes rows 1024 → nexts ≡ next_notes rows (replicate 1024 0) → owners ≡ owner_notes rows 1024
    → Noted rows parents nexts owners
noted-rows rows few = noted rows few (replicate 1024 0) (length-replicate {A = ℕ} 1024 0) (defaults-at 0 1024)
