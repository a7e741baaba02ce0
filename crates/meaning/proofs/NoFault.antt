-- When a stage finds no fault: laws of tests, of the lowest number and of equal bytes.
use mathlib.Core.Path.{◌≡◌, refl, sym, ap, ap₂, ◌∙◌, subst}
use mathlib.Core.Bool.{Bool, true, false, ◌&&◌, ◌||◌, false≢true}
use mathlib.Core.List.{List, [], ◌∷◌}
use mathlib.Core.Option.{Option, none, some, map, some-ne-none}
use Prim.Native.Nat.{ℕ, ◌<◌}
use lib.Dec.{T, eqb}
use borrow.Author.Tests.{eqb-true, eq-eqb}
use Rattle.meaning.specs.Basics.{if_else, lowest, Lowest}
use Rattle.meaning.specs.Refusals.{Refusal}
use Rattle.meaning.proofs.LowestLaws.{lowest-is}
use Rattle.meaning.specs.Lines.{same}

pub none-lowest : (p : ℕ → Bool) (n : ℕ) → ((i : ℕ) → i < n → p i ≡ false) → lowest p n ≡ none
none-lowest p n f = go (lowest p n) (lowest-is p n)
  where
    go : (o : Option ℕ) → Lowest (λ i. T (p i)) n o → o ≡ none
    go none h = refl
    go (some i) h = let z : T false = subst T (f i h.0) h.1 in absurd z

pub lowest-none : (p : ℕ → Bool) (n : ℕ) → lowest p n ≡ none → (i : ℕ) → i < n → p i ≡ false
lowest-none p n e = go (lowest p n) e (lowest-is p n)
  where
    false-is : (t : Bool) → (T t → ⊥) → t ≡ false
    false-is true h = absurd (h tt)
    false-is false h = refl

    go : (o : Option ℕ) → o ≡ none → Lowest (λ i. T (p i)) n o → (i : ℕ) → i < n → p i ≡ false
    go none e h = λ i l. false-is (p i) (h i l)
    go (some j) e h = absurd (some-ne-none j e)

pub none-mapped : (f : ℕ → Refusal) (o : Option ℕ) → map f o ≡ none → o ≡ none
none-mapped f none e = refl
none-mapped f (some i) e = absurd (some-ne-none (f i) e)

pub or-false : (s t : Bool) → (s || t) ≡ false → (s ≡ false) × (t ≡ false)
or-false true t e = absurd (false≢true (sym e))
or-false false t e = (refl, e)

pub same_refl : (bs : List ℕ) → same bs bs ≡ true
unfolding same
same_refl [] = refl
same_refl (b ∷ bs) = ap (λ (t : Bool). if_else t (same bs bs) false) (eq-eqb b b refl) ∙ same_refl bs

pub same-is : (bs cs : List ℕ) → same bs cs ≡ true → bs ≡ cs
unfolding same
same-is [] [] e = refl
same-is [] (c ∷ cs) e = absurd (false≢true e)
same-is (b ∷ bs) [] e = absurd (false≢true e)
same-is (b ∷ bs) (c ∷ cs) e = go (eqb b c) refl e (same-is bs cs)
  where
    go : (t : Bool) → eqb b c ≡ t → if_else t (same bs cs) false ≡ true → (same bs cs ≡ true → bs ≡ cs) → b ∷ bs ≡ c ∷ cs
    go true i h f = ap₂ (λ (x : ℕ) (l : List ℕ). x ∷ l) (eqb-true b c i) (f h)
    go false i h f = absurd (false≢true h)

pub and_none : (s t : Bool) → t ≡ false → (s && t) ≡ false
and_none true t e = e
and_none false t e = refl

pub or-none : (s t : Bool) → s ≡ false → t ≡ false → (s || t) ≡ false
or-none true t e f = e
or-none false t e f = f

-- two and two in turn
pub or_turn : (a b c d : Bool) → ((a || b) || (c || d)) ≡ ((a || c) || (b || d))
or_turn true b c d = refl
or_turn false true true d = refl
or_turn false true false d = refl
or_turn false false c d = refl
