-- A 32-bit number as the code holds it: tests of its bits are tests of the number, and where it is not below 0 it is a row number.
use mathlib.Core.Path.{◌≡◌, refl, sym, ap, ◌∙◌, subst}
use mathlib.Core.Bool.{Bool, true, false, false≢true}
use native.Mathlib.Omega.{arith}
use lib.IntN.{ℤ, pos, negsuc, nat_abs}
use lib.Signed.{lt_z, le_z, non_neg, nat_abs-le}
use lib.Dec.{T, eqb}
use borrow.Author.Tests.{eq-eqb, ne_eqb, eqb-true, eqb-false, ltb-true}
use mir.Syntax.{w32}
use mir.Val.{Fits, SFits, to_z, of_z}
use mir.ValLaws.{to_z-of_z}
use Rattle.meaning.specs.Basics.{eq_z}
use Rattle.meaning.specs.Rows.{natural_of}

equal-itself : (x : ℤ) → eq_z x x ≡ true
equal-itself (pos n) = eq-eqb n n refl
equal-itself (negsuc n) = eq-eqb n n refl

different : (x y : ℤ) → (x ≡ y → ⊥) → eq_z x y ≡ false
different (pos a) (pos b) h = ne_eqb a b (λ e. h (ap pos e))
different (pos a) (negsuc b) h = refl
different (negsuc a) (pos b) h = refl
different (negsuc a) (negsuc b) h = ne_eqb a b (λ e. h (ap negsuc e))

module _ (x y : ℤ) (fx : SFits w32 x) (fy : SFits w32 y) where
  -- equal bits are equal numbers
  pub bits-equal : eqb (of_z w32 x) (of_z w32 y) ≡ eq_z x y
  bits-equal = go (eqb (of_z w32 x) (of_z w32 y)) refl
    where
      equal : of_z w32 x ≡ of_z w32 y → x ≡ y
      equal e = sym (to_z-of_z w32 x fx) ∙ ap (to_z w32) e ∙ to_z-of_z w32 y fy

      go : (t : Bool) → eqb (of_z w32 x) (of_z w32 y) ≡ t → t ≡ eq_z x y
      go true e = sym (subst (λ (z : ℤ). eq_z x z ≡ true) (equal (eqb-true _ _ e)) (equal-itself x))
      go false e = sym (different x y (λ q. eqb-false _ _ e (ap (of_z w32) q)))

  pub bits-at-most : le_z (to_z w32 (of_z w32 x)) (to_z w32 (of_z w32 y)) ≡ le_z x y
  bits-at-most = rw (to_z-of_z w32 x fx, to_z-of_z w32 y fy)

-- the bits of 0 and of −1
pub no-bits : (z : ℤ) → SFits w32 z → eqb (of_z w32 z) 0 ≡ eq_z z (pos 0)
no-bits z f = bits-equal z (pos 0) f (record { sfits = omega arith })

pub minus-one : (z : ℤ) → SFits w32 z → eqb (of_z w32 z) 4294967295 ≡ eq_z z (negsuc 0)
minus-one z f = bits-equal z (negsuc 0) f (record { sfits = omega arith })

module _ (x : ℤ) (f : SFits w32 x) where
  -- the code's test for a number below 0
  pub sign : (t : Bool) → lt_z (to_z w32 (of_z w32 x)) (pos 0) ≡ t → lt_z x (pos 0) ≡ t
  sign t e = rw (to_z-of_z w32 x f) at e

  not_negative : (x : ℤ) → lt_z x (pos 0) ≡ false → T (non_neg x)
  not_negative (pos n) e = tt
  not_negative (negsuc n) e = absurd (false≢true (sym e))

  -- one that is not can be cast
  pub casts : lt_z (to_z w32 (of_z w32 x)) (pos 0) ≡ false → T (non_neg (to_z w32 (of_z w32 x))) × Fits w32 (nat_abs (to_z w32 (of_z w32 x)))
  casts e = rw (to_z-of_z w32 x f) (not_negative x (sign false e), record { fits = omega (arith, nat_abs-le x f.sfits) })

-- a number as a row number, by its sign
pub natural-negative : (x : ℤ) → lt_z x (pos 0) ≡ true → natural_of x ≡ 4294967295
natural-negative (pos n) e = absurd (let h = ltb-true n 0 e in omega arith)
natural-negative (negsuc n) e = refl

pub natural-positive : (x : ℤ) → lt_z x (pos 0) ≡ false → nat_abs x ≡ natural_of x
natural-positive (pos n) e = refl
natural-positive (negsuc n) e = absurd (false≢true (sym e))
