-- The changes of row states that a change stands for.
use mathlib.Core.Path.{◌≡◌, refl}
use mathlib.Core.Bool.{Bool, true, false}
use mathlib.Core.List.{[], ◌∷◌}
use Prim.Native.Nat.{ℕ, ◌+◌, ◌-◌, ◌<◌, ◌≤◌}
use native.Mathlib.Omega.{arith}
use lib.Dec.{eqb}
use borrow.Author.Tests.{eqb-true, ne_eqb}
use Rattle.meaning.specs.Basics.{if_else}
use Rattle.meaning.specs.Values.{Message}
use Rattle.meaning.specs.Buffers.{number_in, mark}
use Rattle.meaning.specs.State.{Program}
use Rattle.meaning.specs.Step as steps
use Rattle.machine.specs.Held.{ChangesBelow}
use Rattle.machine.specs.Counts.{Kept, change_up_counted, end_up_counted, changes_up_counted}
use Rattle.run_changes.specs.declared.Data.TheVariants.{Cell}
use Rattle.run_changes.specs.declared.Change.{Change}
use Rattle.run_changes.specs.Changes.{changes_of}

pub note-less : (i : ℕ) → i + 1 - 1 ≡ i
note-less i = omega arith

-- a communication: row `row` gets a state by a step of row r, and row i hands z over to cell a and ends
abbrev pub handed : ℕ → ℕ → ℕ → ℕ → Message → ℕ → Change
handed r row state a m i = record { owner = r; at = row; next = state; sender = i + 1; written = Cell a (number_in m) (mark m) }

pub handed-changes : (r row state a : ℕ) (m : Message) (i : ℕ) → steps.becomes r row state ∷ steps.becomes i i 2 ∷ [] ≡ changes_of (handed r row state a m i)
handed-changes r row state a m i = rw (ne_eqb (i + 1) 0 (λ e. absurd (omega arith)), note-less i)

module _ (c : Change) where
  -- made, and settled upward
  pub made_up : (P : Program) (k : Kept) → changes_up_counted P (changes_of c) k ≡ end_up_counted P c.sender (change_up_counted P c.at c.next k)
  unfolding end_up_counted
  made_up P k = go (eqb c.sender 0)
    where
      go : (t : Bool) → changes_up_counted P (steps.becomes c.owner c.at c.next ∷ if_else t [] (steps.becomes (c.sender - 1) (c.sender - 1) 2 ∷ [])) k
          ≡ if_else t (change_up_counted P c.at c.next k) (change_up_counted P (c.sender - 1) 2 (change_up_counted P c.at c.next k))
      go true = refl
      go false = refl

  -- their rows are rows of the table
  pub made-within : (n : ℕ) → ChangesBelow n (changes_of c) → (c.at < n) × (c.sender ≤ n)
  made-within n h = (h.0, go (eqb c.sender 0) refl h.1)
    where
      go : (t : Bool) → eqb c.sender 0 ≡ t → ChangesBelow n (if_else t [] (steps.becomes (c.sender - 1) (c.sender - 1) 2 ∷ [])) → c.sender ≤ n
      go true q k = let z = eqb-true c.sender 0 q in omega arith
      go false q k = let z = k.0 in omega arith
