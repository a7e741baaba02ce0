-- The numbers of a prepared table: number j of row r.
use mathlib.Core.Path.{◌≡◌, refl, sym, ap, ◌∙◌}
use mathlib.Core.Bool.{Bool, true, false}
use mathlib.Core.List.{List, ◌++◌}
use Prim.Native.Nat.{ℕ, zero, suc, ◌+◌, ◌*◌, ◌<◌, ◌≤◌}
use native.Mathlib.Omega.{arith}
use lib.IntN.{ℤ}
use lib.ListN.{length, get_or, length-append, get_or-append}
use lib.Seq.{get_or-append-add}
use lib.Dec.{eqb}
use borrow.Author.Tests.{eqb-true, eqb-false}
use Rattle.run_code.specs.Prepared.{row_at, numbers_of, prepared_to, prepared, Prepared, place_at}

module _ (rows : List ℤ) where
  pub prepared-length : (n : ℕ) → length (prepared_to rows n) ≡ 6 * n
  unfolding prepared_to
  prepared-length zero = refl
  prepared-length (suc n) = omega (arith, prepared-length n, length-append (prepared_to rows n) (numbers_of (row_at rows n)))

  -- number j of row r
  pub number-to : (n r j : ℕ) → r < n → j < 6 → get_or (prepared_to rows n) (6 * r + j) 0 ≡ get_or (numbers_of (row_at rows r)) j 0
  unfolding prepared_to
  number-to zero r j h k = absurd (omega arith)
  number-to (suc n) r j h k = go (eqb r n) refl (λ q. number-to n r j q k)
    where
      go : (t : Bool) → eqb r n ≡ t → (r < n → get_or (prepared_to rows n) (6 * r + j) 0 ≡ get_or (numbers_of (row_at rows r)) j 0)
          → get_or (prepared_to rows n ++ numbers_of (row_at rows n)) (6 * r + j) 0 ≡ get_or (numbers_of (row_at rows r)) j 0
      go true e f =
          let p : 6 * r + j ≡ length (prepared_to rows n) + j = omega (arith, prepared-length n, eqb-true r n e) in
          ap (λ (i : ℕ). get_or (prepared_to rows n ++ numbers_of (row_at rows n)) i 0) p
          ∙ get_or-append-add (prepared_to rows n) (numbers_of (row_at rows n)) j 0
          ∙ ap (λ (r : ℕ). get_or (numbers_of (row_at rows r)) j 0) (sym (eqb-true r n e))
      go false e f =
          let q : r < n = omega (arith, eqb-false r n e) in
          get_or-append (prepared_to rows n) (numbers_of (row_at rows n)) 0 (6 * r + j) (omega (arith, prepared-length n)) ∙ f q

  place_at_lem : (r j : ℕ) → r ≤ 1024 → j < 6 → place_at (prepared rows) r j ≡ get_or (numbers_of (row_at rows r)) j 0
  unfolding prepared
  place_at_lem r j h k = number-to 1025 r j (omega arith) k

module _ {rows : List ℤ} {code : List ℕ} (p : Prepared rows code) (r : ℕ) (h : r ≤ 1024) where
  place_is : (j : ℕ) → j < 6 → place_at code r j ≡ get_or (numbers_of (row_at rows r)) j 0
  place_is j k = ap (λ (l : List ℕ). place_at l r j) p.same ∙ place_at_lem rows r j h k

  -- each number
  pub what-at : place_at code r 0 ≡ (row_at rows r).what
  what-at = place_is 0 (omega arith)

  pub first-at : place_at code r 1 ≡ (row_at rows r).first
  first-at = place_is 1 (omega arith)

  pub second_at : place_at code r 2 ≡ (row_at rows r).second
  second_at = place_is 2 (omega arith)

  pub third_at : place_at code r 3 ≡ (row_at rows r).third
  third_at = place_is 3 (omega arith)

  pub parent-at : place_at code r 4 ≡ (row_at rows r).parent
  parent-at = place_is 4 (omega arith)

  pub next-at : place_at code r 5 ≡ (row_at rows r).next
  next-at = place_is 5 (omega arith)
