-- Laws of tests: alternatives in another order, and members of two lists.
use mathlib.Core.Path.{◌≡◌, refl, ap, ◌∙◌}
use mathlib.Core.Bool.{Bool, true, false, ◌||◌}
use mathlib.Core.List.{List, [], ◌∷◌}
use Prim.Native.Nat.{ℕ, ◌+◌, ◌*◌, ◌<◌}
use native.Mathlib.Omega.{arith}
use lib.Dec.{eqb}
use borrow.Author.Tests.{eq-eqb, ne_eqb, eqb-true, eqb-false}
use Rattle.meaning.specs.Basics.{any_passes, among}
pub use Rattle.meaning.proofs.NoFault.{or_turn}
pub use Rattle.meaning.proofs.UnsetLaws.{among-append}
use Rattle.base_sets.specs.Sets.{in_sort}

pub or_assoc : (a b c : Bool) → ((a || b) || c) ≡ (a || (b || c))
or_assoc true b c = refl
or_assoc false b c = refl

pub or_comm : (a b : Bool) → (a || b) ≡ (b || a)
or_comm true true = refl
or_comm true false = refl
or_comm false true = refl
or_comm false false = refl

pub or-none : (a : Bool) → (a || false) ≡ a
or-none true = refl
or-none false = refl

-- the second alternative first
pub or-front : (a b c : Bool) → (a || (b || c)) ≡ (b || (a || c))
or-front true true c = refl
or-front true false c = refl
or-front false b c = refl

-- a number of one sort in a list of another, and of the same
pub sort-same : (s x : ℕ) (l : List ℕ) → among (4 * x + s) (in_sort s l) ≡ among x l
unfolding any_passes
sort-same s x [] = refl
sort-same s x (y ∷ l) = go (eqb x y) refl (sort-same s x l)
  where
    go : (t : Bool) → eqb x y ≡ t → among (4 * x + s) (in_sort s l) ≡ among x l → (eqb (4 * x + s) (4 * y + s) || among (4 * x + s) (in_sort s l)) ≡ (t || among x l)
    go true e f = let p = eqb-true x y e in ap (λ (u : Bool). u || among (4 * x + s) (in_sort s l)) (eq-eqb (4 * x + s) (4 * y + s) (omega arith))
    go false e f = let n = eqb-false x y e in ap (λ (u : Bool). u || among (4 * x + s) (in_sort s l)) (ne_eqb (4 * x + s) (4 * y + s) (λ q. n (omega arith))) ∙ f

pub sort-other : (s t x : ℕ) (l : List ℕ) → s < 4 → t < 4 → (s ≡ t → ⊥) → among (4 * x + s) (in_sort t l) ≡ false
unfolding any_passes
sort-other s t x [] h g n = refl
sort-other s t x (y ∷ l) h g n =
    ap (λ (u : Bool). u || among (4 * x + s) (in_sort t l)) (ne_eqb (4 * x + s) (4 * y + t) (λ q. n (omega arith))) ∙ sort-other s t x l h g n
