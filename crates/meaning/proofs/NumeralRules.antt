-- What is printed of a number is its one numeral.
use mathlib.Core.Path.{◌≡◌, refl, sym, ap, subst, ◌∙◌}
use mathlib.Core.Bool.{Bool, true, false}
use mathlib.Core.List.{List, [], ◌∷◌, ◌++◌}
use Prim.Native.Nat.{ℕ, zero, suc, ◌+◌, ◌*◌, ◌/◌, ◌%◌, ◌<◌}
use native.Mathlib.Omega.{arith}
use native.Mathlib.Decide.{dec_lt}
use lib.IntN.{ℤ, pos, negsuc}
use lib.Dec.{ltb}
use Rattle.meaning.specs.Basics.{if_else}
use Rattle.meaning.specs.Texts.{hyphen, digit0}
use Rattle.meaning.specs.Numerals.{digits_onto, decimal, printed}
use Rattle.meaning.specs.ByteClaims.{Digits, first-digit, next-digit, Numeral, without_sign, with-minus, PrintedNumeral}
use Rattle.meaning.proofs.NumeralForm.{one-digit, more-digits}

-- digits in front of bytes are the digits, and the bytes
onto-append : (k n : ℕ) (bs cs : List ℕ) → digits_onto k n (bs ++ cs) ≡ digits_onto k n bs ++ cs
unfolding digits_onto
onto-append zero n bs cs = refl
onto-append (suc k) n bs cs = go (ltb n 10) (onto-append k (n / 10) ((digit0 + n % 10) ∷ bs) cs)
  where
    go : (t : Bool) → digits_onto k (n / 10) ((digit0 + n % 10) ∷ (bs ++ cs)) ≡ digits_onto k (n / 10) ((digit0 + n % 10) ∷ bs) ++ cs
        → if_else t ((digit0 + n) ∷ (bs ++ cs)) (digits_onto k (n / 10) ((digit0 + n % 10) ∷ (bs ++ cs))) ≡ if_else t ((digit0 + n) ∷ bs) (digits_onto k (n / 10) ((digit0 + n % 10) ∷ bs)) ++ cs
    go true e = refl
    go false e = e

-- one digit, and one more
decimal-one : (d : ℕ) → d < 10 → decimal d ≡ (digit0 + d) ∷ []
unfolding decimal
decimal-one d h = one-digit d [] h

decimal-more : (n d : ℕ) → 0 < n → d < 10 → decimal (n * 10 + d) ≡ decimal n ++ ((digit0 + d) ∷ [])
unfolding decimal
decimal-more n d p h = more-digits n d [] p h ∙ onto-append (suc n) n [] ((digit0 + d) ∷ [])

digits_decimal : (bs : List ℕ) (n : ℕ) → Digits bs n → bs ≡ decimal n
digits_decimal bs n (first-digit {d} h) = sym (decimal-one d h)
digits_decimal bs n (next-digit {bs = cs} {n = m} {d} k p h) = ap (λ (l : List ℕ). l ++ ((digit0 + d) ∷ [])) (digits_decimal cs m k) ∙ sym (decimal-more m d p h)

decimal-digits : (k n : ℕ) → n < k → Digits (decimal n) n
decimal-digits zero n h = absurd (omega arith)
decimal-digits (suc k) n h = go (dec_lt n 10) (decimal-digits k (n / 10))
  where
    go : Dec (n < 10) → (n / 10 < k → Digits (decimal (n / 10)) (n / 10)) → Digits (decimal n) n
    go (yes l) f = subst (λ (bs : List ℕ). Digits bs n) (sym (decimal-one n l)) (first-digit l)
    go (no l) f =
        let e : (n / 10) * 10 + n % 10 ≡ n = omega arith in
        subst (λ (m : ℕ). Digits (decimal m) m) e
        (subst (λ (bs : List ℕ). Digits bs ((n / 10) * 10 + n % 10)) (sym (decimal-more (n / 10) (n % 10) (omega arith) (omega arith))) (next-digit (f (omega arith)) (omega arith) (omega arith)))

numeral-printed : (bs : List ℕ) (z : ℤ) → Numeral bs z → bs ≡ printed z
unfolding printed
numeral-printed bs z (without_sign {n} h) = digits_decimal bs n h
numeral-printed bs z (with-minus {bs = cs} {n} h) = ap (λ (l : List ℕ). hyphen ∷ l) (digits_decimal cs (suc n) h)

printed-numeral-of : (z : ℤ) → Numeral (printed z) z
unfolding printed
printed-numeral-of (pos n) = without_sign (decimal-digits (suc n) n (omega arith))
printed-numeral-of (negsuc n) = with-minus (decimal-digits (suc (suc n)) (suc n) (omega arith))

pub printed-numeral : PrintedNumeral
unfolding PrintedNumeral
printed-numeral bs z = (numeral-printed bs z, λ e. subst (λ (l : List ℕ). Numeral l z) (sym e) (printed-numeral-of z))
