-- The lowest number by a test is the lowest of which the test holds.
use mathlib.Core.Path.{◌≡◌, refl, sym, subst, subst⁻¹}
use mathlib.Core.Logic.{⊎_elim}
use mathlib.Core.Bool.{Bool, true, false}
use mathlib.Core.Option.{Option, none, some}
use Prim.Native.Nat.{ℕ, zero, suc, ◌+◌, ◌≤◌, ◌<◌}
use native.Mathlib.Nat.{eq-or-lt_of_le, le_refl}
use native.Mathlib.Decide.{dec_lt}
use native.Mathlib.Omega.{arith}
use lib.Dec.{T}
use Rattle.meaning.specs.Basics.{if_else, lowest_from, lowest, Lowest}

-- `o` is the lowest of k numbers from `at` on that passes the test
abbrev From : (ℕ → Bool) → ℕ → ℕ → Option ℕ → Type 0
From p at k none = (i : ℕ) → at ≤ i → i < at + k → T (p i) → ⊥
From p at k (some i) = (at ≤ i) × (i < at + k) × T (p i) × ((j : ℕ) → at ≤ j → j < i → T (p j) → ⊥)

-- a first number that fails the test is passed over
skipped : (p : ℕ → Bool) (at k : ℕ) → p at ≡ false → (o : Option ℕ) → From p (suc at) k o → From p at (suc k) o
skipped p at k e none f = λ i l h t.
    ⊎_elim (λ q. let z : T false = subst (λ (b : Bool). T b) e (subst (λ (m : ℕ). T (p m)) (sym q) t) in absurd z) (λ g. f i g (omega arith) t) (eq-or-lt_of_le l)
skipped p at k e (some i) f = (
  omega (arith, f.0),
  omega (arith, f.1),
  f.2,
  λ j l h t. ⊎_elim (λ q. let z : T false = subst (λ (b : Bool). T b) e (subst (λ (m : ℕ). T (p m)) (sym q) t) in absurd z) (λ g. f.3 j g h t) (eq-or-lt_of_le l),
)

lowest_from-is : (p : ℕ → Bool) (at k : ℕ) → From p at k (lowest_from p at k)
unfolding lowest_from
lowest_from-is p at zero = λ i l h t. omega arith
lowest_from-is p at (suc k) = go (p at) refl (lowest_from-is p (suc at) k)
  where
    go : (b : Bool) → p at ≡ b → From p (suc at) k (lowest_from p (suc at) k) → From p at (suc k) (if_else b (some at) (lowest_from p (suc at) k))
    go true e f = (le_refl at, omega arith, subst⁻¹ (λ (b : Bool). T b) e tt, λ j l h t. omega arith)
    go false e f = skipped p at k e (lowest_from p (suc at) k) f

-- the lowest number by a test is the lowest of which the test holds
pub lowest-is : (p : ℕ → Bool) (n : ℕ) → Lowest (λ i. T (p i)) n (lowest p n)
unfolding lowest
lowest-is p n = go (lowest_from p 0 n) (lowest_from-is p 0 n)
  where
    go : (o : Option ℕ) → From p 0 n o → Lowest (λ i. T (p i)) n o
    go none f = λ i h t. f i (omega arith) (omega arith) t
    go (some i) f = (omega (arith, f.1), f.2, λ j h t. f.3 j (omega arith) h t)

-- the lowest number is one
pub lowest-one : (P : ℕ → Type 0) (n i j : ℕ) → Lowest P n (some i) → Lowest P n (some j) → i ≡ j
lowest-one P n i j h k = go (dec_lt i j) (dec_lt j i)
  where
    go : Dec (i < j) → Dec (j < i) → i ≡ j
    go (yes l) b = absurd (k.2 i l h.1)
    go (no l) (yes m) = absurd (h.2 j m k.1)
    go (no l) (no m) = omega arith
