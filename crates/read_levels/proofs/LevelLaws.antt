-- The levels held as numbers: where a line is taken, and whether all of them may end.
use mathlib.Core.Path.{◌≡◌, refl, sym, ap, ◌∙◌}
use mathlib.Core.Bool.{Bool, true, false, ◌&&◌, false≢true}
use mathlib.Core.List.{List, [], ◌∷◌}
use mathlib.Core.Option.{Option, none}
use Prim.Native.Nat.{ℕ, suc, ◌≤◌, ◌<◌}
use native.Mathlib.Decide.{dec_lt}
use native.Mathlib.Omega.{arith}
use lib.ListN.{length, get_or}
use lib.Dec.{ltb}
use borrow.Author.Tests.{eq-eqb, ne_eqb, le-ltb}
use Rattle.meaning.specs.Basics.{if_else}
use Rattle.grammar.specs.Outline.{OutlineLine, Expect, may_end, Levels, place, accept, all_end, expected_beneath}
use Rattle.read_levels.specs.Kinds.{expect_number, expect_at}
use Rattle.read_levels.specs.Steps.{Numbered, ended_to}
use Rattle.read_levels.proofs.EndedSteps.{ended-low}
use Rattle.read_levels.proofs.TableTells.{expect-below, ends-told}

-- the stack holds the numbers of the levels
abbrev pub Holds : List ℕ → Levels → Type 0
Holds stack k = (i : ℕ) → i < length k → get_or stack i 0 ≡ expect_number (expect_at k i)

-- the deepest level
pub expect-top : (e : Expect) (k : Levels) → expect_at (e ∷ k) (length k) ≡ e
unfolding expect_at
expect-top e k = rw (eq-eqb (length k) (length k) refl)

-- another
pub expect-under : (e : Expect) (k : Levels) (i : ℕ) → i < length k → expect_at (e ∷ k) i ≡ expect_at k i
unfolding expect_at
expect-under e k i h = rw (ne_eqb (length k) i (λ z. omega arith))

pub holds-numbered : (stack : List ℕ) (k : Levels) → Holds stack k → Numbered stack (length k)
holds-numbered stack k h i l = let b = expect-below (expect_at k i) in let e = h i l in omega arith

holds-under : (stack : List ℕ) (e : Expect) (k : Levels) → Holds stack (e ∷ k) → Holds stack k
holds-under stack e k h i l = h i (omega arith) ∙ ap expect_number (expect-under e k i l)

-- the deepest level may end if its number is low
top-ends : (stack : List ℕ) (e : Expect) (k : Levels) → Holds stack (e ∷ k) → ltb (get_or stack (length k) 0) 4 ≡ may_end e
top-ends stack e k h = ap (λ (n : ℕ). ltb n 4) (h (length k) (omega arith) ∙ ap expect_number (expect-top e k)) ∙ ends-told e

-- Where all may end -----------------------------------------------------------------------------------------------------------------

pub ended-all : (stack : List ℕ) (k : Levels) → Holds stack k → ended_to stack 0 (length k) ≡ all_end k
unfolding ended_to all_end
ended-all stack [] h = refl
ended-all stack (e ∷ k) h = rw (le-ltb (length k) 0 (omega arith), top-ends stack e k h, ended-all stack k (holds-under stack e k h)) (go (may_end e))
  where
    go : (t : Bool) → if_else t (all_end k) false ≡ (t && all_end k)
    go true = refl
    go false = refl

-- Where a line is taken -------------------------------------------------------------------------------------------------------------

module _ (stack : List ℕ) (l : ℕ) (x : OutlineLine) where
  -- one level more, which is deeper than the line
  ended-under : (e : Expect) (k : Levels) → Holds stack (e ∷ k) → l < length k → ended_to stack (suc l) (suc (length k)) ≡ if_else (may_end e) (ended_to stack (suc l) (length k)) false
  unfolding ended_to
  ended-under e k h i = rw (le-ltb (length k) (suc l) (omega arith), top-ends stack e k h) refl

  accept-under : (e : Expect) (k : Levels) → (length k ≡ l → ⊥) → accept (e ∷ k) l x ≡ if_else (may_end e) (accept k l x) none
  unfolding accept
  accept-under e k n = rw (ne_eqb (length k) l n) refl

  -- the level is not open
  pub refused-deep : (k : Levels) → length k ≤ l → accept k l x ≡ none
  unfolding accept
  refused-deep [] h = refl
  refused-deep (e ∷ k) h = accept-under e k (λ z. omega arith) ∙ rw (refused-deep k (omega arith)) (go (may_end e))
    where
      go : (t : Bool) → if_else {A = Option Levels} t none none ≡ none
      go true = refl
      go false = refl

  -- a deeper level may not end
  pub refused-unended : (k : Levels) → Holds stack k → ended_to stack (suc l) (length k) ≡ false → accept k l x ≡ none
  unfolding accept
  refused-unended [] h f = refl
  refused-unended (e ∷ k) h f = go (dec_lt l (length k)) (refused-unended k (holds-under stack e k h))
    where
      tops : (t : Bool) → if_else t (ended_to stack (suc l) (length k)) false ≡ false → (ended_to stack (suc l) (length k) ≡ false → accept k l x ≡ none) → if_else t (accept k l x) none ≡ none
      tops true f rest = rest f
      tops false f rest = refl

      go : Dec (l < length k) → (ended_to stack (suc l) (length k) ≡ false → accept k l x ≡ none) → accept (e ∷ k) l x ≡ none
      go (yes i) rest = accept-under e k (λ z. omega arith) ∙ tops (may_end e) (sym (ended-under e k h i) ∙ f) rest
      go (no i) rest = absurd (false≢true (sym f ∙ ended-low stack (suc l) (suc (length k)) (omega arith)))

  -- the line stands where something is expected, above some levels
  abbrev Placed : Levels → Levels → Expect → Type 0
  Placed k below e = accept k l x ≡ place e below x (expected_beneath e x)

  placed-top : (e : Expect) (k : Levels) → length k ≡ l → Placed (e ∷ k) k (expect_at (e ∷ k) l)
  unfolding accept
  placed-top e k j =
      let d : e ≡ expect_at (e ∷ k) l = sym (expect-top e k) ∙ ap (expect_at (e ∷ k)) j in
      rw (eq-eqb (length k) l j) (ap (λ (d : Expect). place d k x (expected_beneath d x)) d)

  placed-under : (e : Expect) (k below : Levels) → l < length k → may_end e ≡ true → Placed k below (expect_at k l) → Placed (e ∷ k) below (expect_at (e ∷ k) l)
  placed-under e k below i top p =
      accept-under e k (λ z. omega arith)
      ∙ ap (λ (t : Bool). if_else t (accept k l x) none) top
      ∙ p
      ∙ ap (λ (d : Expect). place d below x (expected_beneath d x)) (sym (expect-under e k l i))

  -- all deeper levels may end
  pub accepted : (k : Levels) → Holds stack k → l < length k → ended_to stack (suc l) (length k) ≡ true
      → (below : Levels) × (length below ≡ l) × Holds stack below × Placed k below (expect_at k l)
  accepted [] h i f = absurd (omega arith)
  accepted (e ∷ k) h i f = go (dec_lt l (length k)) (accepted k (holds-under stack e k h))
    where
      tops : (t : Bool) → if_else t (ended_to stack (suc l) (length k)) false ≡ true → (t ≡ true) × (ended_to stack (suc l) (length k) ≡ true)
      tops true f = (refl, f)
      tops false f = absurd (false≢true f)

      go : Dec (l < length k)
          → (l < length k → ended_to stack (suc l) (length k) ≡ true → (below : Levels) × (length below ≡ l) × Holds stack below × Placed k below (expect_at k l))
          → (below : Levels) × (length below ≡ l) × Holds stack below × Placed (e ∷ k) below (expect_at (e ∷ k) l)
      go (yes j) rest =
          let (top, g) = tops (may_end e) (sym (ended-under e k h j) ∙ f) in
          let (below, deep, held, p) = rest j g in
          (below, deep, held, placed-under e k below j top p)
      go (no j) rest = let deep : length k ≡ l = omega arith in (k, deep, holds-under stack e k h, placed-top e k deep)
