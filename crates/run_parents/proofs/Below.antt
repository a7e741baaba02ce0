-- The lowest number below n that passes a test, with one number more.
use mathlib.Core.Path.{◌≡◌, refl, sym, ap, subst, ◌∙◌}
use mathlib.Core.Bool.{Bool, true, false}
use mathlib.Core.Option.{Option, none, some}
use Prim.Native.Nat.{ℕ, zero, suc, ◌+◌, ◌<◌}
use native.Mathlib.Omega.{arith}
use Rattle.meaning.specs.Basics.{if_else, lowest_from, lowest}
use Rattle.run_parents.specs.Marks.{row_note, first_note}

one_more : (n : ℕ) → suc n ≡ n + 1
one_more n = omega arith

module _ (p : ℕ → Bool) where
  -- the lowest with one number more
  abbrev later : Option ℕ → Option ℕ → Option ℕ
  later none y = y
  later (some x) y = some x

  from-none : (at : ℕ) → lowest_from p at 0 ≡ none
  unfolding lowest_from
  from-none at = refl

  from_next : (at k : ℕ) → lowest_from p at (suc k) ≡ if_else (p at) (some at) (lowest_from p (suc at) k)
  unfolding lowest_from
  from_next at k = refl

  from_last : (k at : ℕ) → lowest_from p at (suc k) ≡ later (lowest_from p at k) (if_else (p (at + k)) (some (at + k)) none)
  from_last zero at = from_next at 0 ∙ rw (from-none at, from-none (suc at)) (ap (λ (m : ℕ). if_else (p m) (some m) none) (omega arith))
  from_last (suc k) at = from_next at (suc k) ∙ go (p at) (from_last k (suc at)) ∙ ap (λ (o : Option ℕ). later o (if_else (p (at + suc k)) (some (at + suc k)) none)) (sym (from_next at k))
    where
      moved : suc at + k ≡ at + suc k
      moved = omega arith

      go : (t : Bool) → lowest_from p (suc at) (suc k) ≡ later (lowest_from p (suc at) k) (if_else (p (suc at + k)) (some (suc at + k)) none)
          → if_else t (some at) (lowest_from p (suc at) (suc k)) ≡ later (if_else t (some at) (lowest_from p (suc at) k)) (if_else (p (at + suc k)) (some (at + suc k)) none)
      go true h = refl
      go false h = h ∙ ap (λ (m : ℕ). later (lowest_from p (suc at) k) (if_else (p m) (some m) none)) moved

  note-of : (o : Option ℕ) (t : Bool) (n : ℕ) → row_note (later o (if_else t (some n) none)) ≡ first_note t (n + 1) (row_note o)
  note-of none true n = refl
  note-of none false n = refl
  note-of (some x) true n = go (x + 1) (omega arith)
    where
      go : (m : ℕ) → 0 < m → m ≡ first_note true (n + 1) m
      go zero l = absurd (omega arith)
      go (suc m) l = refl
  note-of (some x) false n = refl

  pub lowest-none : row_note (lowest p 0) ≡ 0
  unfolding lowest
  lowest-none = ap row_note (from-none 0)

  -- the note of the lowest: the first that was made stays
  pub lowest-next : (n : ℕ) → row_note (lowest p (n + 1)) ≡ first_note (p n) (n + 1) (row_note (lowest p n))
  unfolding lowest
  lowest-next n =
      subst (λ (m : ℕ). row_note (lowest_from p 0 m) ≡ first_note (p n) (n + 1) (row_note (lowest_from p 0 n))) (one_more n)
      (ap row_note (from_last n 0 ∙ ap (λ (m : ℕ). later (lowest_from p 0 n) (if_else (p m) (some m) none)) (omega arith)) ∙ note-of (lowest_from p 0 n) (p n) n)
