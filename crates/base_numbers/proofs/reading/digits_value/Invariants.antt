use mathlib.Core.Path.{◌≡◌}
use Prim.Native.Nat.{◌≤◌}
use lib.ListN.{drop}
use Rattle.meaning.specs.Numerals.{digits_value}
use Rattle.base_numbers.specs.Reading.{whole_of}
use Rattle.base_numbers.proofs.reading.digits_value.Given as goal

-- The digits that are left, added to the number read so far, make what all make.
abbrev pub invariant-loop-b : goal.invariant-loop-b
invariant-loop-b l = (l.value ≤ 2147483648) × (whole_of (digits_value l.value (drop l.b-index l.digits)) ≡ whole_of (digits_value 0 l.digits))
