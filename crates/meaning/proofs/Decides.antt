-- A test decides a statement: the laws by which a Bool definition is shown to mean what a statement says.
use mathlib.Core.Path.{◌≡◌, refl, sym, ap, subst}
use mathlib.Core.Logic.{◌⊎◌, inl, inr, ⊎_elim}
use mathlib.Core.Bool.{Bool, true, false, not, ◌&&◌, ◌||◌, false≢true}
use mathlib.Core.List.Memᴰ
use mathlib.Core.List.{List, [], ◌∷◌, Memᴰ}
use mathlib.Core.Option.{Option, none, some}
use Prim.Native.Nat.{ℕ, ◌≤◌, ◌<◌}
use native.Mathlib.Omega.{arith}
use lib.IntN.{ℤ, pos, negsuc, pos-ne-negsuc}
use lib.Signed.{le_z, ◌≤ℤ◌, le_z_yes}
use lib.Dec.{T, ltb, leb, eqb}
use borrow.Author.Tests.{ltb-true, ltb-false, leb-true, leb-false, eqb-true, eqb-false}
use Rattle.meaning.specs.Basics.{eq_z, inside, any_passes, lowest, Lowest}
use Rattle.meaning.proofs.LowestLaws.{lowest-is}

-- a test is true where a statement holds, and false where it does not
pub data Decides (A : Type 0) : Bool → Type 0 where
  holding : A → Decides A true
  failing : ¬ A → Decides A false

-- by its two answers
pub decides : {A : Type 0} (t : Bool) → (t ≡ true → A) → (t ≡ false → ¬ A) → Decides A t
decides true f g = holding (f refl)
decides false f g = failing (g refl)

-- another statement, where each gives the other
pub decides-iff : {A B : Type 0} {t : Bool} → (A → B) → (B → A) → Decides A t → Decides B t
decides-iff f g (holding a) = holding (f a)
decides-iff f g (failing a) = failing (λ b. a (g b))

pub decides_and : {A B : Type 0} {s t : Bool} → Decides A s → Decides B t → Decides (A × B) (s && t)
decides_and (holding a) (holding b) = holding (a, b)
decides_and (holding a) (failing b) = failing (λ p. b p.1)
decides_and (failing a) (holding b) = failing (λ p. a p.0)
decides_and (failing a) (failing b) = failing (λ p. a p.0)

pub decides_or : {A B : Type 0} {s t : Bool} → Decides A s → Decides B t → Decides (A ⊎ B) (s || t)
decides_or (holding a) (holding b) = holding (inl a)
decides_or (holding a) (failing b) = holding (inl a)
decides_or (failing a) (holding b) = holding (inr b)
decides_or (failing a) (failing b) = failing (λ p. ⊎_elim a b p)

pub decides_not : {A : Type 0} {t : Bool} → Decides A t → Decides (¬ A) (not t)
decides_not (holding a) = failing (λ f. f a)
decides_not (failing a) = holding a

-- two tests that hold together
pub both_true : (s t : Bool) → (s && t) ≡ true → (s ≡ true) × (t ≡ true)
both_true true t e = (refl, e)
both_true false t e = absurd (false≢true e)

-- a decided statement and its test
pub is_true : {A : Type 0} {t : Bool} → Decides A t → A → t ≡ true
is_true (holding a) x = refl
is_true (failing a) x = absurd (a x)

pub is_false : {A : Type 0} {t : Bool} → Decides A t → ¬ A → t ≡ false
is_false (holding a) x = absurd (x a)
is_false (failing a) x = refl

-- numbers
pub decides-lt : (m n : ℕ) → Decides (m < n) (ltb m n)
decides-lt m n = decides (ltb m n) (ltb-true m n) (λ e h. let l = ltb-false m n e in omega arith)

pub decides-le : (m n : ℕ) → Decides (m ≤ n) (leb m n)
decides-le m n = decides (leb m n) (leb-true m n) (λ e h. let l = leb-false m n e in omega arith)

pub decides_eq : (m n : ℕ) → Decides (m ≡ n) (eqb m n)
decides_eq m n = decides (eqb m n) (eqb-true m n) (eqb-false m n)

back : ℤ → ℕ
back (pos n) = n
back (negsuc n) = n

pub pos-injective : {a b : ℕ} → pos a ≡ pos b → a ≡ b
unfolding back
pos-injective e = ap back e

pub decides-eq_z : (y z : ℤ) → Decides (y ≡ z) (eq_z y z)
unfolding back
decides-eq_z (pos a) (pos b) = decides-iff (ap pos) (ap back) (decides_eq a b)
decides-eq_z (pos a) (negsuc b) = failing (pos-ne-negsuc a b)
decides-eq_z (negsuc a) (pos b) = failing (λ e. pos-ne-negsuc b a (sym e))
decides-eq_z (negsuc a) (negsuc b) = decides-iff (ap negsuc) (ap back) (decides_eq a b)

decides-T : (t : Bool) → Decides (T t) t
decides-T true = holding tt
decides-T false = failing (λ x. x)

pub decides-le_z : (y z : ℤ) → Decides (y ≤ℤ z) (le_z y z)
decides-le_z y z = decides-iff le_z_yes (λ h. h.le) (decides-T (le_z y z))

pub decides-inside : (lo hi z : ℤ) → Decides ((lo ≤ℤ z) × (z ≤ℤ hi)) (inside lo hi z)
decides-inside lo hi z = decides_and (decides-le_z lo z) (decides-le_z z hi)

-- some element of a list
pub decides-any : {A : Type 0} (P : A → Type 0) (p : A → Bool) → ((x : A) → Decides (P x) (p x)) → (l : List A) → Decides ((x : A) × Memᴰ x l × P x) (any_passes p l)
unfolding any_passes
decides-any P p f [] = failing (λ h. Memᴰ.not-nil h.1)
decides-any {A} P p f (x ∷ l) = decides-iff to from (decides_or (f x) (decides-any P p f l))
  where
    to : (P x ⊎ ((y : A) × Memᴰ y l × P y)) → (y : A) × Memᴰ y (x ∷ l) × P y
    to (inl h) = (x, Memᴰ.head refl, h)
    to (inr h) = (h.0, Memᴰ.tail h.1, h.2)

    from : ((y : A) × Memᴰ y (x ∷ l) × P y) → P x ⊎ ((y : A) × Memᴰ y l × P y)
    from h = ⊎_elim (λ e. inl (subst P e h.2)) (λ m. inr (h.0, m, h.2)) (Memᴰ.cases_cons h.1)

-- a test finds fault: it is true where a statement does not hold
pub data Faults (A : Type 0) : Bool → Type 0 where
  right : A → Faults A false
  wrong : ¬ A → Faults A true

pub faults-not : {A : Type 0} {t : Bool} → Decides A t → Faults A (not t)
faults-not (holding a) = right a
faults-not (failing a) = wrong a

pub faults-is : {A : Type 0} {t : Bool} → Decides A t → Faults (¬ A) t
faults-is (holding a) = wrong (λ f. f a)
faults-is (failing a) = right a

pub faults-or : {A B : Type 0} {s t : Bool} → Faults A s → Faults B t → Faults (A × B) (s || t)
faults-or (right a) (right b) = right (a, b)
faults-or (right a) (wrong b) = wrong (λ p. b p.1)
faults-or (wrong a) (right b) = wrong (λ p. a p.0)
faults-or (wrong a) (wrong b) = wrong (λ p. a p.0)

-- at fault where one statement holds and another does not
pub faults-if : {A B : Type 0} {s t : Bool} → Decides A s → Faults B t → Faults (A → B) (s && t)
faults-if (holding a) (right b) = right (λ x. b)
faults-if (holding a) (wrong b) = wrong (λ f. b (f a))
faults-if (failing a) (right b) = right (λ x. b)
faults-if (failing a) (wrong b) = right (λ x. absurd (a x))

pub faults-iff : {A B : Type 0} {t : Bool} → (A → B) → (B → A) → Faults A t → Faults B t
faults-iff f g (right a) = right (f a)
faults-iff f g (wrong a) = wrong (λ b. a (g b))

-- a number above a limit
pub faults-over : (limit n : ℕ) → Faults (n ≤ limit) (ltb limit n)
faults-over limit n = go (decides-lt limit n)
  where
    go : {t : Bool} → Decides (limit < n) t → Faults (n ≤ limit) t
    go (holding h) = wrong (λ l. omega arith)
    go (failing h) = right (omega arith)

-- what is not at fault is right
pub not-wrong : {A : Type 0} {t : Bool} → Faults A t → ¬ (¬ A) → A
not-wrong (right a) h = a
not-wrong (wrong a) h = absurd (h a)

-- the lowest number by a test that finds fault is the lowest that is not right
pub lowest-wrong : (Right : ℕ → Type 0) (p : ℕ → Bool) → ((i : ℕ) → Faults (Right i) (p i)) → (n : ℕ) → Lowest (λ i. ¬ Right i) n (lowest p n)
lowest-wrong Right p f n = go (lowest p n) (lowest-is p n)
  where
    passed : {i : ℕ} {t : Bool} → Faults (Right i) t → (T t → ⊥) → ¬ (¬ Right i)
    passed (right a) h = λ f. f a
    passed (wrong a) h = absurd (h tt)

    failed : {i : ℕ} {t : Bool} → Faults (Right i) t → T t → ¬ Right i
    failed (right a) h = absurd h
    failed (wrong a) h = a

    go : (o : Option ℕ) → Lowest (λ i. T (p i)) n o → Lowest (λ i. ¬ Right i) n o
    go none h = λ i l. passed (f i) (h i l)
    go (some i) h = (h.0, failed (f i) h.1, λ j l. passed (f j) (h.2 j l))

-- the lowest number by a test that decides a statement is the lowest of which it holds
pub lowest-decided : (P : ℕ → Type 0) (p : ℕ → Bool) → ((i : ℕ) → Decides (P i) (p i)) → (n : ℕ) → Lowest P n (lowest p n)
lowest-decided P p f n = go (lowest p n) (lowest-is p n)
  where
    held : {i : ℕ} {t : Bool} → Decides (P i) t → T t → P i
    held (holding a) h = a
    held (failing a) h = absurd h

    shown : {i : ℕ} {t : Bool} → Decides (P i) t → P i → T t
    shown (holding a) h = tt
    shown (failing a) h = absurd (a h)

    go : (o : Option ℕ) → Lowest (λ i. T (p i)) n o → Lowest P n o
    go none h = λ i l a. h i l (shown (f i) a)
    go (some i) h = (h.0, held (f i) h.1, λ j l a. h.2 j l (shown (f j) a))
