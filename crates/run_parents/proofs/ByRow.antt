-- A list that has f j at each place j is the list of f over the places.
use mathlib.Core.Path.{◌≡◌, refl, sym, ap, ◌∙◌}
use mathlib.Core.List.{List, map}
use Prim.Native.Nat.{ℕ, zero, suc, ◌+◌, ◌<◌}
use native.Mathlib.Omega.{arith}
use lib.IntN.{ℤ}
use lib.ListN.{length, get_or, length-map}
use lib.Seq.{ext_get_or}
use Rattle.meaning.specs.Usage.{numbers_from}
use Rattle.meaning.specs.State.{program}
use Rattle.machine.specs.RowSteps.{alt_of}
use Rattle.run_parents.specs.Marks.{row_note, owner_notes}

length-range : (first n : ℕ) → length (numbers_from first n) ≡ n
unfolding numbers_from
length-range first zero = refl
length-range first (suc n) = ap suc (length-range (suc first) n)

module _ (f : ℕ → ℕ) where
  -- f over n places has n numbers, and f j at place j
  pub length-by-row : (n : ℕ) → length (map f (numbers_from 0 n)) ≡ n
  length-by-row n = length-map (numbers_from 0 n) f ∙ length-range 0 n

  from_row : (first n j : ℕ) → j < n → get_or (map f (numbers_from first n)) j 0 ≡ f (first + j)
  unfolding numbers_from
  from_row first zero j l = absurd (omega arith)
  from_row first (suc n) zero l = let e : first ≡ first + 0 = omega arith in ap f e
  from_row first (suc n) (suc j) l = let e : suc first + j ≡ first + suc j = omega arith in from_row (suc first) n j (omega arith) ∙ ap f e

  pub at-row : (n j : ℕ) → j < n → get_or (map f (numbers_from 0 n)) j 0 ≡ f j
  at-row n j l = let e : 0 + j ≡ j = omega arith in from_row 0 n j l ∙ ap f e

  pub by_row : (n : ℕ) (l : List ℕ) → length l ≡ n → ((j : ℕ) → j < n → get_or l j 0 ≡ f j) → l ≡ map f (numbers_from 0 n)
  by_row n l e h = ext_get_or 0 l (map f (numbers_from 0 n)) (e ∙ sym (length-by-row n)) (λ j m. let k : j < n = omega arith in h j k ∙ sym (at-row n j k))

-- the note of row j
pub owner-noted : (rows : List ℤ) (n : ℕ) (owners : List ℕ) → owners ≡ owner_notes rows n → (j : ℕ) → j < n → get_or owners j 0 ≡ row_note (alt_of (program rows) j)
unfolding owner_notes
owner-noted rows n owners e j l = ap (λ (o : List ℕ). get_or o j 0) e ∙ at-row (λ j. row_note (alt_of (program rows) j)) n j l
