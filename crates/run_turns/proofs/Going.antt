-- A run on from a state: at rest, with its budget used, and one step further.
use mathlib.Core.Path.{◌≡◌, refl}
use mathlib.Core.List.{List, [], ◌∷◌, Memᴰ}
use Prim.Native.Nat.{ℕ, zero, suc, ◌<◌, ◌%◌}
use native.Mathlib.Nat.{mod-lt}
use native.Mathlib.Omega.{arith}
use lib.ListN.{length, get_or, drop}
use Rattle.meaning.specs.declared.Outcome.TheVariants.{Spent}
use Rattle.meaning.specs.State.{State, Program}
use Rattle.meaning.specs.Labels.{Label, order_row}
use Rattle.meaning.specs.Readings.{Sheet}
use Rattle.meaning.specs.Order.{outcome_at_rest, chosen_step}
use Rattle.meaning.specs.Ready.{ready, after}
use Rattle.meaning.specs.Run.{go_from, go}
use Rattle.meaning.specs.Trace.{shown_from}

module _ (P : Program) (sheet : Sheet) (n : ℕ) (choices : List ℕ) (s : State) where
  -- at rest
  pub goes-to-rest : (b : ℕ) → ready P sheet s ≡ [] → go P sheet b n choices s ≡ record { outcome = outcome_at_rest P s; steps = n; ready = 0; state = s }
  unfolding go go_from
  goes-to-rest zero e = rw e
  goes-to-rest (suc b) e = rw e

  -- its budget is used
  pub goes-no-further : (x : Label) (l : List Label) → ready P sheet s ≡ x ∷ l → go P sheet zero n choices s ≡ record { outcome = Spent; steps = n; ready = length (x ∷ l); state = s }
  unfolding go go_from
  goes-no-further x l e = rw e

  -- one step further
  pub goes_on : (b : ℕ) (x : Label) (l : List Label) → ready P sheet s ≡ x ∷ l → go P sheet (suc b) n choices s ≡ go P sheet b (suc n) (drop 1 choices) (after P sheet (chosen_step choices x l) s)
  unfolding go go_from
  goes_on b x l e = rw e

  -- what is shown on from a state: at rest, with the budget used, and of one step more
  pub shows-none : (b : ℕ) → ready P sheet s ≡ [] → shown_from P sheet b choices s (ready P sheet s) ≡ []
  unfolding shown_from
  shows-none zero e = refl
  shows-none (suc b) e = rw e

  pub shows-no-more : shown_from P sheet zero choices s (ready P sheet s) ≡ []
  unfolding shown_from
  shows-no-more = refl

  pub shows-one : (b : ℕ) (x : Label) (l : List Label) → ready P sheet s ≡ x ∷ l
      → shown_from P sheet (suc b) choices s (ready P sheet s)
      ≡ record { ready = length (x ∷ l); row = order_row (chosen_step choices x l) } ∷ shown_from P sheet b (drop 1 choices) (after P sheet (chosen_step choices x l) s) (ready P sheet (after P sheet (chosen_step choices x l) s))
  unfolding shown_from
  shows-one b x l e = rw e

-- a choice is the first of those that are left
pub chosen-first : (choices : List ℕ) (c : ℕ) → c ≡ get_or choices 0 0 → (x : Label) (l : List Label) → chosen_step (c ∷ []) x l ≡ chosen_step choices x l
unfolding chosen_step
chosen-first choices c e x l = rw e

element-in : (l : List Label) (i : ℕ) (d : Label) → i < length l → Memᴰ (get_or l i d) l
element-in [] i d h = absurd (omega arith)
element-in (x ∷ l) zero d h = Memᴰ.head refl
element-in (x ∷ l) (suc i) d h = Memᴰ.tail (element-in l i d (omega arith))

-- the step that choices pick is one of the ready ones
pub chosen-ready : (choices : List ℕ) (x : Label) (l : List Label) → Memᴰ (chosen_step choices x l) (x ∷ l)
unfolding chosen_step
chosen-ready choices x l = element-in (x ∷ l) (get_or choices 0 0 % length (x ∷ l)) x (mod-lt (get_or choices 0 0) (omega arith))
