-- Row states are those that a row may have, and settling keeps them so.
use mathlib.Core.Path.{◌≡◌, refl, ap}
use mathlib.Core.Bool.{false}
use mathlib.Core.List.{List, [], ◌∷◌}
use Prim.Native.Nat.{ℕ, zero, suc}
use lib.ListN.{length, get_or, set}
use Rattle.meaning.specs.Tree.{Process, row_of, rows_beneath}
use Rattle.meaning.specs.Settle.{settle, begun}
use Rattle.meaning.specs.SettlingRules.{Settles, skip-ends, seq-starts, par-starts, seq-ends, par-ends, if-ends, alt-ends, while-again, block-starts, block-ends, Settling, no_change, next-change}
use Rattle.meaning.specs.State.{Store, State, make_idle, unset_all, StateChange, change_state, change_states}
use Rattle.agreement.specs.Coherence.{RowState}
use Rattle.agreement.proofs.Again.{Sound}
use Rattle.agreement.proofs.Settled.{Plain, state_with, settles}

abbrev pub Known : List ℕ → Type 0
Known s = (x : ℕ) → RowState (get_or s x 0)

-- what holds of an element of a list and of what is stored in the list holds of it after the store
pub set_keeps : {A : Type 0} (Q : A → Type 0) (d : A) (l : List A) (y : ℕ) (v : A) (x : ℕ) → Q (get_or l x d) → (y ≡ x → Q v) → Q (get_or (set l y v) x d)
set_keeps Q d [] y v x h k = h
set_keeps Q d (a ∷ l) zero v zero h k = k refl
set_keeps Q d (a ∷ l) zero v (suc x) h k = h
set_keeps Q d (a ∷ l) (suc y) v zero h k = h
set_keeps Q d (a ∷ l) (suc y) v (suc x) h k = set_keeps Q d l y v x h (λ e. k (ap suc e))

pub set_known : (s : List ℕ) (y v : ℕ) → RowState v → Known s → Known (set s y v)
set_known s y v r h x = set_keeps RowState 0 s y v x (h x) (λ e. r)

idle-known : (rs s : List ℕ) → Known s → Known (make_idle rs s)
idle-known [] s h = h
idle-known (r ∷ rs) s h = idle-known rs (set s r 0) (set_known s r 0 RowState.idle h)

-- the changes of a step
abbrev pub ChangesOk : List StateChange → Type 0
ChangesOk [] = Unit {0}
ChangesOk (m ∷ l) = RowState m.become × ChangesOk l

pub changes-known : (l : List StateChange) (s : List ℕ) → ChangesOk l → Known s → Known (change_states l s)
changes-known [] s c h = h
changes-known (m ∷ l) s c h = changes-known l (change_state m s) c.1 (set_known s m.at m.become c.0 h)

module _ (whole : Process) where
  rule-known : (s t : State) → Settles whole s t → Known s.states → Known t.states
  rule-known s t (skip-ends {r} x) = set_known s.states r 2 RowState.ended
  rule-known s t (seq-starts {q} x y z) = set_known s.states (row_of q) 1 RowState.running
  rule-known s t (par-starts {q} x y z) = set_known s.states (row_of q) 1 RowState.running
  rule-known s t (seq-ends {r} x y) = set_known s.states r 2 RowState.ended
  rule-known s t (par-ends {r} x y) = set_known s.states r 2 RowState.ended
  rule-known s t (if-ends {r} x y z) = set_known s.states r 2 RowState.ended
  rule-known s t (alt-ends {r} x y z) = set_known s.states r 2 RowState.ended
  rule-known s t (while-again {ms} x y z) = idle-known (rows_beneath ms) s.states
  rule-known s t (block-starts {q} x y z) = set_known s.states (row_of q) 1 RowState.running
  rule-known s t (block-ends {r} x y) = set_known s.states r 2 RowState.ended

  -- settling by the rules keeps them so
  settling-known : (s t : State) → Settling whole s t → Known s.states → Known t.states
  settling-known s t no_change h = h
  settling-known s t (next-change {t = m} k j) h = settling-known m t j (rule-known s m k h)

  pub settle-known : (n : ℕ) → Sound whole n → Plain whole → (s : List ℕ) → length s ≡ n → Known s → Known (settle whole false s)
  settle-known n d p s l h =
      let x : Store = record { cells = []; places = []; outputs = [] } in
      settling-known (state_with s x) (state_with (settle whole false s) (unset_all (begun whole false s) x)) (settles whole n d p s l x) h
