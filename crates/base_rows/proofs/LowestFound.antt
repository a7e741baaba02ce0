-- The lowest number by a test, as a loop finds it: every number so far fails the test, and this one passes it, or none is left.
use mathlib.Core.Path.{◌≡◌, refl, sym, ap, ◌∙◌}
use mathlib.Core.Bool.{Bool, true, false, ◌||◌, false≢true}
use mathlib.Core.Option.{none, some}
use Prim.Native.Nat.{ℕ, zero, suc, ◌+◌, ◌-◌, ◌<◌}
use native.Mathlib.Numerals.{add-one}
use native.Mathlib.Omega.{arith}
use mathlib.Core.Option as maybe
use Rattle.std.specs.Prelude.{Option, Some, None}
use Rattle.std.specs.List.{list_any, range_with_len}
use Rattle.meaning.specs.Basics.{is_some}
use Rattle.meaning.specs.Basics.{if_else, lowest_from, lowest}
use Rattle.base_rows.specs.Places.{place_of}

module _ (p : ℕ → Bool) where
  -- the first numbers are passed over
  skip : (k at i : ℕ) → ((j : ℕ) → j < at + k → p j ≡ false) → lowest_from p at (k + i) ≡ lowest_from p (at + k) i
  unfolding lowest_from
  skip zero at i h = let e : 0 + i ≡ i = omega arith in let z : at + 0 ≡ at = omega arith in rw (e, z)
  skip (suc k) at i h =
      let e : suc k + i ≡ suc (k + i) = omega arith in
      let z : at + suc k ≡ suc at + k = omega arith in
      rw (e, h at (omega arith), z) (skip k (suc at) i (λ j l. h j (omega arith)))

  -- no number below n passes
  pub lowest-none : (n : ℕ) → ((j : ℕ) → j < n → p j ≡ false) → lowest p n ≡ none
  unfolding lowest lowest_from
  lowest-none n h =
      let e : n + 0 ≡ n = omega arith in
      rw e at (skip n 0 0 (λ j l. h j (omega arith)))

  -- number i is the first that passes
  pub lowest-some : (n i : ℕ) → i < n → ((j : ℕ) → j < i → p j ≡ false) → p i ≡ true → lowest p n ≡ some i
  unfolding lowest lowest_from
  lowest-some n i l h t =
      let e : i + suc (n - suc i) ≡ n = omega arith in
      let z : 0 + i ≡ i = omega arith in
      (rw (e, z) at (skip i 0 (suc (n - suc i)) (λ j m. h j (omega arith)))) ∙ rw t

  -- whether some number below n passes
  any-from : (at n : ℕ) → list_any p (range_with_len at n) ≡ is_some (lowest_from p at n)
  unfolding lowest_from
  any-from at zero = refl
  any-from at (suc n) = rw (add-one at) (go (p at) (any-from (suc at) n))
    where
      go : (t : Bool) → list_any p (range_with_len (suc at) n) ≡ is_some (lowest_from p (suc at) n)
          → (t || list_any p (range_with_len (suc at) n)) ≡ is_some (if_else t (some at) (lowest_from p (suc at) n))
      go true e = refl
      go false e = e

  pub any-found : (n : ℕ) → list_any p (range_with_len 0 n) ≡ is_some (lowest p n)
  unfolding lowest
  any-found n = any-from 0 n

  none-from : (at n : ℕ) → is_some (lowest_from p at n) ≡ false → (j : ℕ) → j < n → p (at + j) ≡ false
  unfolding lowest_from
  none-from at zero e j l = absurd (omega arith)
  none-from at (suc n) e j l = go (p at) refl e (none-from (suc at) n) j l
    where
      go : (t : Bool) → p at ≡ t → is_some (if_else t (some at) (lowest_from p (suc at) n)) ≡ false → (is_some (lowest_from p (suc at) n) ≡ false → (j : ℕ) → j < n → p (suc at + j) ≡ false) → (j : ℕ) → j < suc n → p (at + j) ≡ false
      go true q e f j l = absurd (false≢true (sym e))
      go false q e f zero l = let z : at + 0 ≡ at = omega arith in rw z q
      go false q e f (suc j) l = let z : at + suc j ≡ suc at + j = omega arith in rw z (f e j (omega arith))

  -- where none is found, none passes
  pub none-passes : (n : ℕ) → is_some (lowest p n) ≡ false → (j : ℕ) → j < n → p j ≡ false
  unfolding lowest
  none-passes n e j l = let z : 0 + j ≡ j = omega arith in rw z at (none-from 0 n e j l)

-- what a place says of the definition's option
pub place-some : (o : maybe.Option ℕ) (r : ℕ) → Some r ≡ place_of o → o ≡ some r
place-some none r e = absurd (let z : ◌≡◌ {A = ℕ} 0 1 = cc in omega arith)
place-some (some i) r e = ap some (cc)

pub place_none : (o : maybe.Option ℕ) → None ≡ place_of o → o ≡ none
place_none none e = refl
place_none (some i) e = absurd (let z : ◌≡◌ {A = ℕ} 0 1 = cc in omega arith)
