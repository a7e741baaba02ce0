-- A printed number is read as itself.
use mathlib.Core.Path.{◌≡◌, refl, ap, ◌∙◌}
use mathlib.Core.Bool.{Bool, true, false}
use mathlib.Core.List.{List, [], ◌∷◌}
use mathlib.Core.Option.{none, some}
use Prim.Native.Nat.{ℕ, zero, suc, ◌+◌, ◌*◌, ◌/◌, ◌%◌, ◌≤◌, ◌<◌}
use native.Mathlib.Omega.{arith}
use lib.IntN.{pos, negsuc}
use lib.Dec.{eqb, ltb}
use Rattle.meaning.specs.Basics.{if_else}
use borrow.Author.Tests.{le-leb, ne_eqb, ltb-true, ltb-false}
use Rattle.meaning.specs.Texts.{hyphen, digit0}
use Rattle.meaning.specs.Numerals.{digits_value, natural, unsigned, negative, number, digits_onto, decimal, printed}
use Rattle.meaning.specs.PrintedClaims.{ReadsBack}

-- one digit in front is read as one digit more
pub digit-first : (acc d : ℕ) (bs : List ℕ) → d < 10 → digits_value acc ((digit0 + d) ∷ bs) ≡ digits_value (acc * 10 + d) bs
unfolding digits_value
digit-first acc d bs h =
    rw (le-leb digit0 (digit0 + d) (omega arith), le-leb (digit0 + d) (digit0 + 9) (omega arith)) (ap (λ (v : ℕ). digits_value v bs) (omega arith))

-- the digits of a number, in front of others, are read as that number
pub onto-read : (k n : ℕ) (bs : List ℕ) → n < k → digits_value 0 (digits_onto k n bs) ≡ digits_value n bs
unfolding digits_onto
onto-read zero n bs h = absurd (omega arith)
onto-read (suc k) n bs h = go (ltb n 10) refl (λ l. onto-read k (n / 10) ((digit0 + n % 10) ∷ bs) (omega arith))
  where
    go : (t : Bool) → ltb n 10 ≡ t
        → (10 ≤ n → digits_value 0 (digits_onto k (n / 10) ((digit0 + n % 10) ∷ bs)) ≡ digits_value (n / 10) ((digit0 + n % 10) ∷ bs))
        → digits_value 0 (if_else t ((digit0 + n) ∷ bs) (digits_onto k (n / 10) ((digit0 + n % 10) ∷ bs))) ≡ digits_value n bs
    go true e f = digit-first 0 n bs (ltb-true n 10 e) ∙ ap (λ (v : ℕ). digits_value v bs) (omega arith)
    go false e f = f (ltb-false n 10 e) ∙ digit-first (n / 10) (n % 10) bs (omega arith) ∙ ap (λ (v : ℕ). digits_value v bs) (omega arith)

-- a list that begins neither with `0` nor with `-`
abbrev Begins : List ℕ → Type 0
Begins [] = ⊥
Begins (b ∷ bs) = (eqb b digit0 ≡ false) × (eqb b hyphen ≡ false)

-- so do the digits of a number that is not 0
onto-begins : (k n : ℕ) (bs : List ℕ) → n < k → 0 < n → Begins (digits_onto k n bs)
unfolding digits_onto
onto-begins zero n bs h p = absurd (omega arith)
onto-begins (suc k) n bs h p = go (ltb n 10) refl (λ l. onto-begins k (n / 10) ((digit0 + n % 10) ∷ bs) (omega arith) (omega arith))
  where
    go : (t : Bool) → ltb n 10 ≡ t
        → (10 ≤ n → Begins (digits_onto k (n / 10) ((digit0 + n % 10) ∷ bs)))
        → Begins (if_else t ((digit0 + n) ∷ bs) (digits_onto k (n / 10) ((digit0 + n % 10) ∷ bs)))
    go true e f = (ne_eqb (digit0 + n) digit0 (λ q. omega arith), ne_eqb (digit0 + n) hyphen (λ q. omega arith))
    go false e f = f (ltb-false n 10 e)

-- what begins so is read digit by digit
begins-natural : (bs : List ℕ) → Begins bs → natural bs ≡ digits_value 0 bs
unfolding natural
begins-natural [] h = absurd h
begins-natural (b ∷ []) h = refl
begins-natural (b ∷ c ∷ cs) h = ap (λ (t : Bool). if_else t none (digits_value 0 (b ∷ c ∷ cs))) h.0

begins-number : (bs : List ℕ) → Begins bs → number bs ≡ unsigned (natural bs)
unfolding number
begins-number [] h = absurd h
begins-number (b ∷ bs) h = ap (λ (t : Bool). if_else t (negative (natural bs)) (unsigned (natural (b ∷ bs)))) h.1

pub natural-decimal : (n : ℕ) → natural (decimal n) ≡ some n
unfolding decimal natural digits_value digits_onto
natural-decimal zero = refl
natural-decimal (suc n) =
    begins-natural (decimal (suc n)) (onto-begins (suc (suc n)) (suc n) [] (omega arith) (omega arith))
    ∙ onto-read (suc (suc n)) (suc n) [] (omega arith)

-- a number without a sign does not begin with one
unsigned-decimal : (n : ℕ) → number (decimal n) ≡ unsigned (natural (decimal n))
unfolding decimal digits_onto number
unsigned-decimal zero = refl
unsigned-decimal (suc n) = begins-number (decimal (suc n)) (onto-begins (suc (suc n)) (suc n) [] (omega arith) (omega arith))

pub reads-back : ReadsBack
unfolding ReadsBack printed number
reads-back (pos n) h =
    unsigned-decimal n ∙ ap unsigned (natural-decimal n) ∙ ap (λ (t : Bool). if_else t (some (pos n)) none) (le-leb n 2147483647 (omega arith))
reads-back (negsuc n) h =
    ap negative (natural-decimal (suc n)) ∙ ap (λ (t : Bool). if_else t (some (negsuc n)) none) (le-leb n 2147483647 (omega arith))
