-- What reading gives, as the code's `Option`.
use Rattle.std.proofs.Math.Option as math
use Rattle.std.specs.Prelude.{Option, Some, None, ℕ, ℤ, leb}
use Rattle.meaning.specs.Basics.{if_else}
use Rattle.meaning.specs.Numerals as numerals

-- a value, or that there is none
abbrev pub option_of : {A : Type 0} → math.Option A → Option A
option_of math.none = None
option_of (math.some x) = Some x

-- a number without a sign, as long as it is at most 2 ^ 31
abbrev pub whole_of : math.Option ℕ → Option ℕ
whole_of math.none = None
whole_of (math.some n) = if_else (leb n 2147483648) (Some n) None

-- such a number read without a sign
abbrev pub unsigned : ℕ → Option ℤ
unsigned n = option_of (numerals.unsigned (math.some n))

-- such a number read behind a minus sign
abbrev pub negative : ℕ → Option ℤ
negative n = option_of (numerals.negative (math.some n))
