-- A test of the bits of two 32-bit numbers is the test of the numbers.
use mathlib.Core.Path.{◌≡◌, refl, sym, ap, ◌∙◌, subst}
use mathlib.Core.Bool.{Bool, true, false, not}
use lib.IntN.{ℤ, pos, negsuc}
use lib.Dec.{eqb}
use borrow.Author.Tests.{eq-eqb, ne_eqb, eqb-true, eqb-false}
use mir.Syntax.{w32}
use mir.Val.{SFits, to_z, of_z}
use mir.ValLaws.{to_z-of_z}
use Rattle.meaning.specs.Basics.{eq_z}

pub not-not : (t : Bool) → not (not t) ≡ t
not-not true = refl
not-not false = refl

equal-itself : (x : ℤ) → eq_z x x ≡ true
equal-itself (pos n) = eq-eqb n n refl
equal-itself (negsuc n) = eq-eqb n n refl

different : (x y : ℤ) → (x ≡ y → ⊥) → eq_z x y ≡ false
different (pos a) (pos b) h = ne_eqb a b (λ e. h (ap pos e))
different (pos a) (negsuc b) h = refl
different (negsuc a) (pos b) h = refl
different (negsuc a) (negsuc b) h = ne_eqb a b (λ e. h (ap negsuc e))

pub zero-fits : SFits w32 (pos 0)
zero-fits = record { sfits = lib.Dec.lit< tt }

module _ (x y : ℤ) (fx : SFits w32 x) (fy : SFits w32 y) where
  pub same-bits-equal : of_z w32 x ≡ of_z w32 y → eq_z x y ≡ true
  same-bits-equal e =
      subst (λ (z : ℤ). eq_z x z ≡ true) (sym (to_z-of_z w32 x fx) ∙ ap (to_z w32) e ∙ to_z-of_z w32 y fy) (equal-itself x)

  pub other-bits-differ : (of_z w32 x ≡ of_z w32 y → ⊥) → eq_z x y ≡ false
  other-bits-differ h = different x y (λ e. h (ap (of_z w32) e))

  pub bits-test : eqb (of_z w32 x) (of_z w32 y) ≡ eq_z x y
  bits-test = go (eqb (of_z w32 x) (of_z w32 y)) refl
    where
      go : (t : Bool) → eqb (of_z w32 x) (of_z w32 y) ≡ t → t ≡ eq_z x y
      go true e = sym (same-bits-equal (eqb-true _ _ e))
      go false e = sym (other-bits-differ (eqb-false _ _ e))

-- the same of a test against 0
module _ (x : ℤ) (f : SFits w32 x) where
  pub zero-bits-equal : of_z w32 x ≡ 0 → eq_z x (pos 0) ≡ true
  zero-bits-equal = same-bits-equal x (pos 0) f zero-fits

  pub other-than-zero : (of_z w32 x ≡ 0 → ⊥) → eq_z x (pos 0) ≡ false
  other-than-zero = other-bits-differ x (pos 0) f zero-fits

  pub zero_test : eqb (of_z w32 x) 0 ≡ eq_z x (pos 0)
  zero_test = bits-test x (pos 0) f zero-fits
