-- A printed number in its array, with zeros behind it.
use mathlib.Core.Path.{◌≡◌, refl, sym, ap, ap₂, ◌∙◌}
use mathlib.Core.Bool.{true, false, false≢true}
use mathlib.Core.List.{List, ◌∷◌, ◌++◌}
use Prim.Native.Nat.{ℕ, zero, suc, ◌+◌, ◌-◌, ◌≤◌, ◌<◌}
use native.Mathlib.Omega.{arith}
use lib.IntN.{ℤ, pos, negsuc, nat_abs}
use lib.ListN.{length, take, drop, replicate}
use lib.Seq.{take-append_seam}
use lib.Signed.{lt_z, mag}
use borrow.Author.Tests.{ltb-true}
use Rattle.meaning.specs.Texts.{hyphen}
use Rattle.meaning.specs.Numerals.{decimal, printed}
use Rattle.base_numbers.specs.declared.Text.{Text}
use Rattle.base_numbers.specs.Printing.{text_of}
use Rattle.base_numbers.proofs.Decimals.{ten-digits}

abbrev zeros : ℕ → List ℕ
zeros n = replicate n 0

drop-zeros : (k n : ℕ) → drop k (zeros n) ≡ zeros (n - k)
drop-zeros zero n = let e : n ≡ n - 0 = omega arith in ap zeros e
drop-zeros (suc k) zero = let e : 0 ≡ 0 - suc k = omega arith in ap zeros e
drop-zeros (suc k) (suc n) = let e : n - k ≡ suc n - suc k = omega arith in drop-zeros k n ∙ ap zeros e

abbrev text : List ℕ → ℕ → Text
text b k = record { bytes = b; length = k }

module _ (l b : List ℕ) (k : ℕ) where
  -- digits written at the front of zeros
  pub digits-alone : k ≡ length l → b ≡ take (k - length l) (zeros 11) ++ (l ++ drop k (zeros 11)) → text b k ≡ text_of l
  digits-alone e p =
      let none : k - length l ≡ 0 = omega arith in
      ap₂ text (p ∙ rw none (ap (λ (bs : List ℕ). l ++ bs) (rw e (drop-zeros (length l) 11)))) e

  -- digits written behind a minus sign
  pub digits-after-minus : k ≡ 1 + length l → b ≡ take (k - length l) (hyphen ∷ zeros 10) ++ (l ++ drop k (hyphen ∷ zeros 10)) → text b k ≡ text_of (hyphen ∷ l)
  digits-after-minus e p =
      let one : k - length l ≡ 1 = omega arith in
      let next : k ≡ suc (length l) = omega arith in
      let rest : 10 - length l ≡ 11 - suc (length l) = omega arith in
      ap₂ text (p ∙ rw one (ap (λ (bs : List ℕ). hyphen ∷ (l ++ bs)) (rw next (drop-zeros (length l) 10 ∙ ap zeros rest)))) next

-- a number by its sign
pub printed-negative : (x : ℤ) → lt_z x (pos 0) ≡ true → hyphen ∷ decimal (nat_abs x) ≡ printed x
unfolding printed
printed-negative (pos n) t = absurd (let h = ltb-true n 0 t in omega arith)
printed-negative (negsuc n) t = refl

pub printed-natural : (x : ℤ) → lt_z x (pos 0) ≡ false → decimal (nat_abs x) ≡ printed x
unfolding printed
printed-natural (pos n) t = refl
printed-natural (negsuc n) t = absurd (false≢true (sym t))

-- what a caller sees: the text's bytes, and that there are at most eleven
pub text-bytes : (l : List ℕ) → take (text_of l).length (text_of l).bytes ≡ l
text-bytes l = take-append_seam l (zeros (11 - length l))

pub printed-short : (z : ℤ) → mag z < 2147483648 → length (printed z) ≤ 11
unfolding printed
printed-short (pos n) h = omega (arith, ten-digits n (omega arith))
printed-short (negsuc n) h = omega (arith, ten-digits (suc n) (omega arith))
