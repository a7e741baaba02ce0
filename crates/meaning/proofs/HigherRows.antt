-- What stands at a row follows from rows of higher number only: the laws of `at_row`.
use mathlib.Core.Path.{◌≡◌, refl, sym, ap, ap₂, ◌∙◌, fun_ext}
use mathlib.Core.Bool.{Bool, true, false}
use Prim.Native.Nat.{ℕ, zero, suc, ◌+◌, ◌-◌, ◌≤◌, ◌<◌}
use native.Mathlib.Omega.{arith}
use lib.ListN.{length, get_or, get_or-eq_default}
use lib.Dec.{ltb}
use Rattle.meaning.specs.Basics.{if_else}
use borrow.Author.Tests.{ltb-true}
use Rattle.meaning.specs.HigherRows.{higher, last_rows, at_row}

module _ {E : Type 0} (d : E) (step : ℕ → (ℕ → E) → E) (n : ℕ) where
  -- k rows are k entries
  pub last_rows-length : (k : ℕ) → length (last_rows d step n k) ≡ k
  unfolding last_rows
  last_rows-length zero = refl
  last_rows-length (suc k) = ap suc (last_rows-length k)

  -- the last rows are the end of the list of all rows
  tail : (j k b : ℕ) → j + k ≡ n → j ≤ b → get_or (last_rows d step n k) (b - j) d ≡ get_or (last_rows d step n n) b d
  unfolding last_rows
  tail zero k b e h =
      let p : k ≡ n = omega arith in
      let q : b - 0 ≡ b = omega arith in
      ap₂ (λ (x y : ℕ). get_or (last_rows d step n x) y d) p q
  tail (suc j) k b e h =
      let i : suc (b - suc j) ≡ b - j = omega arith in
      ap (λ (y : ℕ). get_or (last_rows d step n (suc k)) y d) i ∙ tail j (suc k) b (omega arith) (omega arith)

  -- past the table: d
  pub at_row-past : (r : ℕ) → n ≤ r → at_row d step n r ≡ d
  unfolding at_row
  at_row-past r h = get_or-eq_default (last_rows d step n n) d (omega (arith, last_rows-length n))

  -- at row r: by step, from what stands at the rows above it
  pub at_row-at : (r : ℕ) → r < n → at_row d step n r ≡ step r (λ b. if_else (ltb r b) (at_row d step n b) d)
  unfolding at_row last_rows
  at_row-at r h =
      let k = n - suc r in
      let e : n - suc k ≡ r = omega arith in
      let z : r - r ≡ 0 = omega arith in
      sym (tail r (suc k) r (omega arith) (omega arith))
      ∙ ap (λ (y : ℕ). get_or (last_rows d step n (suc k)) y d) z
      ∙ ap (λ (y : ℕ). step y (higher d step n (last_rows d step n k) y)) e
      ∙ ap (step r) (fun_ext (λ b. inner b (ltb r b) refl))
    where
      inner : (b : ℕ) (t : Bool) → ltb r b ≡ t → if_else t (get_or (last_rows d step n (n - suc r)) (b - suc r) d) d ≡ if_else t (get_or (last_rows d step n n) b d) d
      inner b true q = tail (suc r) (n - suc r) b (omega arith) (ltb-true r b q)
      inner b false q = refl
