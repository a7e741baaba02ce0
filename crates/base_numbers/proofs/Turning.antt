-- 2 ^ 32 more, or less, brings a remainder by 2 ^ 32 that is past the range of 32 signed bits back into it.
use mathlib.Core.Path.{◌≡◌}
use mathlib.Core.Bool.{true, false≢true}
use Prim.Native.Nat.{ℕ, suc, ◌-◌, ◌/◌, ◌%◌, ◌<◌, ◌≤◌}
use native.Mathlib.Omega.{arith}
use lib.IntN.{ℤ, pos, negsuc, ◌+ℤ◌, ◌-ℤ◌, sub_ℕ}
use lib.Signed.{lt_z, quot_z, rem_z, mag}
use borrow.Author.Tests.{ltb-true, lt-ltb, le-ltb}
use mir.Syntax.{w32, w64}
use mir.Val.{SFits}
use Rattle.base_numbers.proofs.Ranges.{magnitude-of-negated}

gap_below : (a b : ℕ) → a < b → sub_ℕ a b ≡ negsuc (b - suc a)
gap_below a b h = simp (lt-ltb a b h)

gap-above : (a b : ℕ) → b ≤ a → sub_ℕ a b ≡ pos (a - b)
gap-above a b h = simp (le-ltb a b h)

pub turned-up-fits : (r : ℤ) → mag r < 4294967296 → lt_z r (negsuc 2147483647) ≡ true → SFits w32 (r +ℤ pos 4294967296)
turned-up-fits (pos n) m t = absurd (false≢true t)
turned-up-fits (negsuc n) m t =
    rw (gap-above 4294967296 (suc n) (omega arith)) (record { sfits = omega (arith, ltb-true 2147483647 n t) })

pub turned-down-fits : (r : ℤ) → mag r < 4294967296 → lt_z (pos 2147483647) r ≡ true → SFits w32 (r -ℤ pos 4294967296)
turned-down-fits (pos n) m t =
    rw (gap_below n 4294967296 (omega arith)) (record { sfits = omega (arith, ltb-true 2147483647 n t) })
turned-down-fits (negsuc n) m t = absurd (false≢true t)

pub remainder-small : (z : ℤ) → mag (rem_z z (pos 4294967296)) < 4294967296
remainder-small (pos n) = omega arith
remainder-small (negsuc n) = omega (arith, magnitude-of-negated (suc n % 4294967296))

pub remainder-fits : (z : ℤ) → SFits w64 (rem_z z (pos 4294967296))
remainder-fits z = record { sfits = omega (arith, remainder-small z) }

-- the division that the remainder comes with
pub quotient_fits : (z : ℤ) → SFits w64 z → SFits w64 (quot_z z (pos 4294967296))
quotient_fits (pos n) f = record { sfits = let b = f.sfits in omega (arith, b) }
quotient_fits (negsuc n) f = record { sfits = let b = f.sfits in omega (arith, b, magnitude-of-negated (suc n / 4294967296)) }
