-- The numbers of rows put into the list one after another: those of all rows, and then zeros, are the table prepared.
use mathlib.Core.Path.{◌≡◌, sym, ap, ap₂, ◌∙◌}
use mathlib.Core.List.{List, [], ◌++◌}
use Prim.Native.Nat.{ℕ, zero, suc, ◌+◌, ◌-◌, ◌*◌, ◌<◌, ◌≤◌}
use native.Mathlib.Numerals.{add-one}
use native.Mathlib.Omega.{arith}
use lib.IntN.{ℤ}
use lib.ListN.{get_or, set, replicate, length-replicate, length-set}
use lib.Seq.{ext_get_or}
use Rattle.meaning.specs.Rows.{row_count}
use Rattle.run_code.specs.declared.Row.{Row}
use Rattle.run_code.specs.Prepared.{row_at, numbers_of, prepared_to, prepared, place_at}
use Rattle.run_code.proofs.Entries.{prepared-length, number-to}
use Rattle.run_code.proofs.RowKinds.{nothing-past}
use Rattle.run_preparing.specs.Notes.{row_put, Filled}
use Rattle.run_preparing.proofs.Lists.{put_all, zeros-after}

module _ (rows : List ℤ) where
  one-more-row : (n : ℕ) (w : Row) → w ≡ row_at rows n → prepared_to rows n ++ numbers_of w ≡ prepared_to rows (n + 1)
  unfolding prepared_to
  one-more-row n w e = rw (e, add-one)

  later_rows : (d k i : ℕ) → row_count rows ≤ d → get_or (prepared_to rows d) i 0 ≡ get_or (prepared_to rows (k + d)) i 0
  unfolding prepared_to
  later_rows d zero i h = let e : 0 + d ≡ d = omega arith in ap (λ (n : ℕ). get_or (prepared_to rows n) i 0) (sym e)
  later_rows d (suc k) i h =
      let e : suc k + d ≡ suc (k + d) = omega arith in
      later_rows d k i h
      ∙ sym (zeros-after (prepared_to rows (k + d)) 6 i)
      ∙ sym (ap (λ (w : Row). get_or (prepared_to rows (k + d) ++ numbers_of w) i 0) (nothing-past rows (k + d) (omega arith)))
      ∙ sym (ap (λ (n : ℕ). get_or (prepared_to rows n) i 0) e)

  -- a list of zeros
  pub none_filled : Filled rows 0 (replicate 6150 0)
  unfolding prepared_to
  none_filled = (length-replicate {A = ℕ} 6150 0, λ i. zeros-after [] 6150 i)

  -- the numbers of one more row put in
  pub row_put_lem : (l : List ℕ) (r : ℕ) (w : Row) → w ≡ row_at rows r → r ≤ 1024 → Filled rows r l → Filled rows (r + 1) (row_put l r w)
  row_put_lem l r w is h (size, f) = (simp length-set size, put)
    where
      put : (i : ℕ) → get_or (row_put l r w) i 0 ≡ get_or (prepared_to rows (r + 1)) i 0
      put i =
          let n = 6 * r in
          let p : n + 2 ≡ n + 1 + 1 = omega arith in
          let s : n + 3 ≡ n + 1 + 1 + 1 = omega arith in
          let t : n + 4 ≡ n + 1 + 1 + 1 + 1 = omega arith in
          let u : n + 5 ≡ n + 1 + 1 + 1 + 1 + 1 = omega arith in
          let l2 = set (set l n w.what) (n + 1) w.first in
          ap₂ (λ (j k : ℕ). get_or (set (set (set (set l2 j w.second) k w.third) (n + 4) w.parent) (n + 5) w.next) i 0) p s
          ∙ ap₂ (λ (j k : ℕ). get_or (set (set (set (set l2 (n + 1 + 1) w.second) (n + 1 + 1 + 1) w.third) j w.parent) k w.next) i 0) t u
          ∙ put_all (numbers_of w) l (prepared_to rows r) n (prepared-length rows r) (omega arith) f i
          ∙ ap (λ (ys : List ℕ). get_or ys i 0) (one-more-row r w is)

  -- the numbers of all rows, and then zeros
  pub whole : (l : List ℕ) (d : ℕ) → row_count rows ≤ d → d ≤ 1024 → Filled rows d l → l ≡ prepared rows
  unfolding prepared
  whole l d e h (n, b) =
      let m : (1025 - d) + d ≡ 1025 = omega arith in
      ext_get_or 0 l (prepared_to rows 1025) (omega (arith, prepared-length rows 1025))
      (λ i q. b i ∙ later_rows d (1025 - d) i (omega arith) ∙ ap (λ (n : ℕ). get_or (prepared_to rows n) i 0) m)

  -- number j of a row that is there
  pub filled_at : (l : List ℕ) (n a j : ℕ) → Filled rows n l → a < n → j < 6 → place_at l a j ≡ get_or (numbers_of (row_at rows a)) j 0
  filled_at l n a j f h k = f.1 (6 * a + j) ∙ number-to rows n a j h k
