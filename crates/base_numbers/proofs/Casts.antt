-- A 32-bit number that is not below 0 can be cast to an unsigned one.
use mathlib.Core.Path.{◌≡◌, sym}
use mathlib.Core.Bool.{Bool, false, false≢true}
use native.Mathlib.Omega.{arith}
use lib.IntN.{ℤ, pos, negsuc, nat_abs}
use lib.Signed.{lt_z, non_neg, nat_abs-le}
use lib.Dec.{T}
use mir.Syntax.{w32, w64}
use mir.Val.{Fits, SFits, to_z, of_z}
use mir.ValLaws.{to_z-of_z}

not_negative : (x : ℤ) → lt_z x (pos 0) ≡ false → T (non_neg x)
not_negative (pos n) e = tt
not_negative (negsuc n) e = absurd (false≢true (sym e))

module _ (x : ℤ) (f : SFits w32 x) where
  -- the code's test of the bits is the test of the number
  pub sign-test : (t : Bool) → lt_z (to_z w32 (of_z w32 x)) (pos 0) ≡ t → lt_z x (pos 0) ≡ t
  sign-test t e = rw (to_z-of_z w32 x f) at e

  pub to-32-bits : lt_z (to_z w32 (of_z w32 x)) (pos 0) ≡ false → T (non_neg (to_z w32 (of_z w32 x))) × Fits w32 (nat_abs (to_z w32 (of_z w32 x)))
  to-32-bits e = rw (to_z-of_z w32 x f) (not_negative x (sign-test false e), record { fits = omega (arith, nat_abs-le x f.sfits) })

  pub to-64-bits : lt_z (to_z w32 (of_z w32 x)) (pos 0) ≡ false → T (non_neg (to_z w32 (of_z w32 x))) × Fits w64 (nat_abs (to_z w32 (of_z w32 x)))
  to-64-bits e = ((to-32-bits e).0, record { fits = omega (arith, (to-32-bits e).1) })
