-- A test that is true exactly if a statement holds, and the number that it gives.
use mathlib.Core.Path.{◌≡◌, refl, sym, ap, subst}
use mathlib.Core.Logic.{◌≢◌, ◌⊎◌, inl, inr}
use mathlib.Core.Bool.{Bool, true, false, not, ◌&&◌, ◌||◌, false≢true}
use Prim.Native.Nat.{ℕ}
use lib.IntN.{ℤ, pos, negsuc, pos-ne-negsuc}
use lib.Signed.{mag, lt_z, le_z, ◌≤ℤ◌, ◌<ℤ◌, le_z_yes, lt_z_yes}
use lib.Dec.{T, eqb}
use borrow.Author.Tests.{eqb-true, eqb-false, not-true, not-false}
use Rattle.meaning.specs.Basics.{eq_z}
use Rattle.meaning.specs.Values.{is_true, truth}
use Rattle.agreement.specs.ValueClaims.{Tells}

-- a test that is true exactly if A holds
pub record Decides (t : Bool) (A : Type 0) : Type 0 where
  pub if-true : t ≡ true → A
  pub if-false : t ≡ false → ¬ A

pub told : (t : Bool) (A : Type 0) → Decides t A → Tells (truth t) A
told true A d = (λ a. refl, λ n. absurd (n (d.if-true refl)))
told false A d = (λ a. absurd (d.if-false refl a), λ n. refl)

pub at-most-decides : (x y : ℤ) → Decides (le_z x y) (x ≤ℤ y)
at-most-decides x y = record { if-true = λ e. le_z_yes (subst T (sym e) tt); if-false = λ e h. subst T e h.le }

pub less-decides : (x y : ℤ) → Decides (lt_z x y) (x <ℤ y)
less-decides x y = record { if-true = λ e. lt_z_yes (subst T (sym e) tt); if-false = λ e h. subst T e h.lt }

pub equal-decides : (x y : ℤ) → Decides (eq_z x y) (x ≡ y)
equal-decides (pos a) (pos b) = record { if-true = λ e. ap pos (eqb-true a b e); if-false = λ e h. eqb-false a b e (ap mag h) }
equal-decides (pos a) (negsuc b) = record { if-true = λ e. absurd (false≢true e); if-false = λ e h. pos-ne-negsuc a b h }
equal-decides (negsuc a) (pos b) = record { if-true = λ e. absurd (false≢true e); if-false = λ e h. pos-ne-negsuc b a (sym h) }
equal-decides (negsuc a) (negsuc b) = record { if-true = λ e. ap negsuc (eqb-true a b e); if-false = λ e h. eqb-false a b e (ap mag h) }

pub not-decides : (t : Bool) (A : Type 0) → Decides t A → Decides (not t) (¬ A)
not-decides t A d = record { if-true = λ e. d.if-false (not-true t e); if-false = λ e n. n (d.if-true (not-false t e)) }

pub both-decide : (t u : Bool) (A B : Type 0) → Decides t A → Decides u B → Decides (t && u) (A × B)
both-decide true true A B d c = record { if-true = λ e. (d.if-true refl, c.if-true refl); if-false = λ e. absurd (false≢true (sym e)) }
both-decide true false A B d c = record { if-true = λ e. absurd (false≢true e); if-false = λ e h. c.if-false refl h.1 }
both-decide false true A B d c = record { if-true = λ e. absurd (false≢true e); if-false = λ e h. d.if-false refl h.0 }
both-decide false false A B d c = record { if-true = λ e. absurd (false≢true e); if-false = λ e h. d.if-false refl h.0 }

neither : {A B : Type 0} → ¬ A → ¬ B → A ⊎ B → ⊥
neither n m (inl a) = n a
neither n m (inr b) = m b

pub either-decides : (t u : Bool) (A B : Type 0) → Decides t A → Decides u B → Decides (t || u) (A ⊎ B)
either-decides true u A B d c = record { if-true = λ e. inl (d.if-true refl); if-false = λ e. absurd (false≢true (sym e)) }
either-decides false true A B d c = record { if-true = λ e. inr (c.if-true refl); if-false = λ e. absurd (false≢true (sym e)) }
either-decides false false A B d c = record { if-true = λ e. absurd (false≢true e); if-false = λ e. neither (d.if-false refl) (c.if-false refl) }

pub true-decides : (x : ℤ) → Decides (is_true x) (x ≢ pos 0)
true-decides x = not-decides (eq_z x (pos 0)) (x ≡ pos 0) (equal-decides x (pos 0))

pub false-decides : (x : ℤ) → Decides (not (is_true x)) (x ≡ pos 0)
false-decides x = go (eq_z x (pos 0)) (equal-decides x (pos 0))
  where
    go : (t : Bool) → Decides t (x ≡ pos 0) → Decides (not (not t)) (x ≡ pos 0)
    go true d = d
    go false d = d

pub number-decides : (m n : ℕ) → Decides (eqb m n) (m ≡ n)
number-decides m n = record { if-true = λ e. eqb-true m n e; if-false = λ e h. eqb-false m n e h }
