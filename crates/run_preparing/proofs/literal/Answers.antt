-- `literal` meets its contract: its number and 2,147,483,648 has 32 bits.
use mathlib.Core.Path.{◌≡◌}
use Prim.Native.Nat.{suc, ◌<◌}
use native.Mathlib.Omega.{arith}
use lib.IntN.{ℤ, pos, negsuc, ◌+ℤ◌}
use lib.Signed.{mag, non_neg}
use lib.Dec.{T}
use borrow.Author.Tests.{le-ltb}
use mir.Syntax.{w32, w64}
use mir.Val.{SFits, to_z, of_z}
use mir.ValLaws.{to_z-of_z}
use Rattle.run_code.specs.Prepared.{raised}
use Rattle.run_preparing.proofs.literal.Goals as goal

not-below : (x : ℤ) → SFits w32 x → T (non_neg (x +ℤ pos 2147483648))
not-below (pos n) f = tt
not-below (negsuc n) f = rw (le-ltb 2147483648 (suc n) (omega (arith, f.sfits))) tt

-- its number has 32 bits
small : (x : ℤ) → SFits w32 x → raised x < 4294967296
small (pos n) f = omega (arith, f.sfits)
small (negsuc n) f = rw (le-ltb 2147483648 (suc n) (omega (arith, f.sfits))) (omega arith)

bound : (x : ℤ) → SFits w32 x → mag (x +ℤ pos 2147483648) < 9223372036854775808
bound (pos n) f = omega (arith, f.sfits)
bound (negsuc n) f = rw (le-ltb 2147483648 (suc n) (omega (arith, f.sfits))) (omega arith)

module _ {x : ℤ} (f : SFits w32 x) where
  wide : SFits w64 x
  wide = record { sfits = omega (arith, f.sfits) }

  raised-fits : SFits w64 (x +ℤ pos 2147483648)
  raised-fits = record { sfits = bound x f }

  read : to_z w64 (of_z w64 (to_z w64 (of_z w64 (to_z w32 (of_z w32 x))) +ℤ pos 2147483648)) ≡ x +ℤ pos 2147483648
  read = rw (to_z-of_z w32 x f, to_z-of_z w64 x wide) (to_z-of_z w64 (x +ℤ pos 2147483648) raised-fits)

pub overflow_cast-n : goal.overflow_cast-n
overflow_cast-n c = rw (to_z-of_z w32 c.args.x c.ranges.x) (wide c.ranges.x)

pub overflow_add-n : goal.overflow_add-n
overflow_add-n c = rw (to_z-of_z w32 c.args.x c.ranges.x, to_z-of_z w64 c.args.x (wide c.ranges.x)) (raised-fits c.ranges.x)

pub overflow_cast-n-2 : goal.overflow_cast-n-2
overflow_cast-n-2 c = rw (read c.ranges.x) (not-below c.args.x c.ranges.x, record { fits = small c.args.x c.ranges.x })

pub overflow_cast-n-4 : goal.overflow_cast-n-4
overflow_cast-n-4 c = rw (read c.ranges.x) (record { fits = omega (arith, small c.args.x c.ranges.x) })

pub returns : goal.returns
returns c = (rw (read c.ranges.x) at c.plain.ensures)
