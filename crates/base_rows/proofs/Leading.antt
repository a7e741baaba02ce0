-- How many declarations there are, as a loop over the rows finds it.
use mathlib.Core.Path.{◌≡◌, refl, sym, ◌∙◌}
use mathlib.Core.Bool.{Bool, true, false}
use mathlib.Core.List.{List}
use Prim.Native.Nat.{ℕ, zero, suc, ◌+◌, ◌-◌, ◌≤◌, ◌<◌}
use native.Mathlib.Numerals.{add-one}
use native.Mathlib.Omega.{arith}
use lib.IntN.{ℤ}
use Rattle.std.specs.Prelude.{Option, Some, None, MatchOption}
use Rattle.std.specs.Option.{unwrap_or}
use Rattle.meaning.specs.Basics.{if_else}
use Rattle.meaning.specs.Rows.{row_count}
use Rattle.meaning.specs.Declarations.{declares, leading, declarations}

module _ (rows : List ℤ) where
  pub leading-none : (r : ℕ) → leading rows 0 r ≡ r
  unfolding leading
  leading-none r = refl

  -- a row that declares is passed over
  pub leading-more : (n r : ℕ) → r < n → declares rows r ≡ true → leading rows (n - r) r ≡ leading rows (n - (r + 1)) (r + 1)
  unfolding leading
  leading-more n r h e = let k : n - r ≡ suc (n - suc r) = omega arith in rw (add-one r, k) (simp e)

  -- one that does not is the first
  pub leading-stop : (n r : ℕ) → r < n → declares rows r ≡ false → leading rows (n - r) r ≡ r
  unfolding leading
  leading-stop n r h e = let k : n - r ≡ suc (n - (r + 1)) = omega arith in rw k (simp e)

  -- rows that all declare are passed over
  passed : (n k : ℕ) → k ≤ n → ((j : ℕ) → j < k → declares rows j ≡ true) → leading rows n 0 ≡ leading rows (n - k) k
  passed n zero l h = let e : n - 0 ≡ n = omega arith in rw e refl
  passed n (suc k) l h = passed n k (omega arith) (λ j m. h j (omega arith)) ∙ (rw (add-one k) at (leading-more n k (omega arith) (h k (omega arith))))

  -- what a search for the first row that declares nothing finds, or the count of rows
  pub leading-found : (o : Option ℕ)
      → MatchOption o ((k : ℕ) → 0 ≤ k → k < row_count rows → declares rows k ≡ true) (λ i. (0 ≤ i) × (i < row_count rows) × (declares rows i ≡ false) × ((k : ℕ) → 0 ≤ k → k < i → declares rows k ≡ true))
      → unwrap_or o (row_count rows) ≡ declarations rows
  unfolding declarations
  leading-found None h =
      let n = row_count rows in
      let e : n - n ≡ 0 = omega arith in
      sym (passed n n (omega arith) (λ j l. h j (omega arith) l) ∙ rw e (leading-none n))
  leading-found (Some i) h = sym (passed (row_count rows) i (omega (arith, h.1)) (λ j l. h.3 j (omega arith) l) ∙ leading-stop (row_count rows) i h.1 h.2)

  leading-at-most : (k r : ℕ) → leading rows k r ≤ r + k
  unfolding leading
  leading-at-most zero r = omega arith
  leading-at-most (suc k) r = go (declares rows r) (leading-at-most k (suc r))
    where
      go : (t : Bool) → leading rows k (suc r) ≤ suc r + k → if_else t (leading rows k (suc r)) r ≤ r + suc k
      go true h = omega arith
      go false h = omega arith

  -- no more declarations than rows
  pub declarations-at-most : declarations rows ≤ row_count rows
  unfolding declarations
  declarations-at-most = omega (arith, leading-at-most (row_count rows) 0)
