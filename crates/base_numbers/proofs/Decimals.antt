-- The digits of a number, from the last one on, and how many there are.
use mathlib.Core.Path.{◌≡◌, refl, sym, ap, ◌∙◌}
use mathlib.Core.Bool.{Bool, true, false}
use mathlib.Core.List.{List, [], ◌∷◌, ◌++◌, append_assoc}
use Prim.Native.Nat.{ℕ, zero, suc, ◌+◌, ◌/◌, ◌%◌, ◌^◌, ◌≤◌, ◌<◌}
use native.Mathlib.Nat.{pow-suc}
use native.Mathlib.Omega.{arith}
use lib.ListN.{length, length-append}
use lib.Dec.{ltb}
use Rattle.meaning.specs.Basics.{if_else}
use borrow.Author.Tests.{ltb-true, ltb-false}
use Rattle.meaning.specs.Numerals.{digits_onto, decimal}
use Rattle.meaning.proofs.NumeralForm.{one-digit, more-digits}

-- digits are put in front of what is there
onto-appends : (k n : ℕ) (bs : List ℕ) → digits_onto k n bs ≡ digits_onto k n [] ++ bs
unfolding digits_onto
onto-appends zero n bs = refl
onto-appends (suc k) n bs = go (ltb n 10) (onto-appends k (n / 10) ((48 + n % 10) ∷ bs)) (onto-appends k (n / 10) ((48 + n % 10) ∷ []))
  where
    go : (t : Bool)
        → digits_onto k (n / 10) ((48 + n % 10) ∷ bs) ≡ digits_onto k (n / 10) [] ++ ((48 + n % 10) ∷ bs)
        → digits_onto k (n / 10) ((48 + n % 10) ∷ []) ≡ digits_onto k (n / 10) [] ++ ((48 + n % 10) ∷ [])
        → if_else t ((48 + n) ∷ bs) (digits_onto k (n / 10) ((48 + n % 10) ∷ bs)) ≡ if_else t ((48 + n) ∷ []) (digits_onto k (n / 10) ((48 + n % 10) ∷ [])) ++ bs
    go true e d = refl
    go false e d = rw (e, d) (sym (append_assoc (digits_onto k (n / 10) []) ((48 + n % 10) ∷ []) bs))

pub one-digit-decimal : (n : ℕ) → n < 10 → decimal n ≡ (48 + n) ∷ []
unfolding decimal
one-digit-decimal n h = one-digit n [] h

pub last-digit : (n : ℕ) → 10 ≤ n → decimal n ≡ decimal (n / 10) ++ ((48 + n % 10) ∷ [])
unfolding decimal
last-digit n h =
    ap (λ (m : ℕ). digits_onto (suc m) m []) (omega arith)
    ∙ more-digits (n / 10) (n % 10) [] (omega arith) (omega arith)
    ∙ onto-appends (suc (n / 10)) (n / 10) ((48 + n % 10) ∷ [])

pub one-digit-count : (n : ℕ) → n < 10 → length (decimal n) ≡ 1
one-digit-count n h = ap length (one-digit-decimal n h)

pub last-digit-count : (n : ℕ) → 10 ≤ n → length (decimal n) ≡ length (decimal (n / 10)) + 1
last-digit-count n h = ap length (last-digit n h) ∙ length-append (decimal (n / 10)) ((48 + n % 10) ∷ [])

-- a number below a power of ten has at most as many digits as the exponent says
pub digits-at-most : (k n : ℕ) → n < 10 ^ suc k → length (decimal n) ≤ suc k
digits-at-most zero n h = omega (arith, one-digit-count n (omega arith))
digits-at-most (suc k) n h = go (ltb n 10) refl (digits-at-most k (n / 10) (let p = pow-suc 10 (suc k) in omega arith))
  where
    go : (t : Bool) → ltb n 10 ≡ t → length (decimal (n / 10)) ≤ suc k → length (decimal n) ≤ suc (suc k)
    go true e m = omega (arith, one-digit-count n (ltb-true n 10 e))
    go false e m = omega (arith, last-digit-count n (ltb-false n 10 e))

-- a digit at least
pub digits-there : (n : ℕ) → 1 ≤ length (decimal n)
digits-there n = go (ltb n 10) refl
  where
    go : (t : Bool) → ltb n 10 ≡ t → 1 ≤ length (decimal n)
    go true e = omega (arith, one-digit-count n (ltb-true n 10 e))
    go false e = omega (arith, last-digit-count n (ltb-false n 10 e))

-- a number of 32 bits has at most ten
pub ten-digits : (n : ℕ) → n < 4294967296 → length (decimal n) ≤ 10
ten-digits n h = digits-at-most 9 n (omega arith)
