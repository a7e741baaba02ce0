-- Whole numbers in base ten ("from −2147483648 to 2147483647, with no leading zeros, no plus and no `-0`").
use Rattle.std.specs.Prelude.{Bool, ◌&&◌, List, [], ◌∷◌, ℕ, zero, suc, ◌+◌, ◌-◌, ◌*◌, ◌/◌, ◌%◌, ℤ, pos, negsuc, eqb, leb, ltb}
use Rattle.std.proofs.Math.Option.{Option, none, some}
use Rattle.meaning.specs.Basics.{if_else}
use Rattle.meaning.specs.Texts.{hyphen, digit0}

-- whether a byte is one of `0` to `9`
abbrev pub is_digit : ℕ → Bool
is_digit b = leb digit0 b && leb b (digit0 + 9)

-- the number that digits add to one read so far
unfoldable pub digits_value : ℕ → List ℕ → Option ℕ
digits_value acc [] = some acc
digits_value acc (b ∷ bs) = let rest = digits_value (acc * 10 + (b - digit0)) bs in if_else (is_digit b) rest none

-- digits with no leading zero, any number of them but none
unfoldable pub natural : List ℕ → Option ℕ
natural [] = none
natural (b ∷ []) = digits_value 0 (b ∷ [])
natural (b ∷ c ∷ cs) = let more = digits_value 0 (b ∷ c ∷ cs) in if_else (eqb b digit0) none more

-- a number without a sign, if 32 signed bits hold it
abbrev pub unsigned : Option ℕ → Option ℤ
unsigned none = none
unsigned (some n) = if_else (leb n 2147483647) (some (pos n)) none

-- a number with a minus sign, if it is not 0 and 32 signed bits hold it
abbrev pub negative : Option ℕ → Option ℤ
negative none = none
negative (some zero) = none
negative (some (suc n)) = if_else (leb n 2147483647) (some (negsuc n)) none

-- the number that a field holds, if it has the form
unfoldable pub number : List ℕ → Option ℤ
number [] = none
number (b ∷ bs) = if_else (eqb b hyphen) (negative (natural bs)) (unsigned (natural (b ∷ bs)))

-- the digits of a number in front of some bytes; k bounds how many
unfoldable pub digits_onto : ℕ → ℕ → List ℕ → List ℕ
digits_onto zero n bs = bs
digits_onto (suc k) n bs =
    let more = digits_onto k (n / 10) ((digit0 + n % 10) ∷ bs) in
    if_else (ltb n 10) ((digit0 + n) ∷ bs) more

-- a number without a sign, printed
unfoldable pub decimal : ℕ → List ℕ
decimal n = digits_onto (suc n) n []

-- a number, printed
unfoldable pub printed : ℤ → List ℕ
printed (pos n) = decimal n
printed (negsuc n) = hyphen ∷ decimal (suc n)
