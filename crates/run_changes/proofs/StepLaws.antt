-- Of an accepted table, in a state of an order that the arrays hold, where the notes tell what rows would do: what the change of the row that orders a ready step says of the step's effect, row states, data and rows.
use mathlib.Core.Path.{◌≡◌, refl, sym, ap, subst, ◌∙◌}
use mathlib.Core.Bool.{false}
use mathlib.Core.Option.{none, some, some-injective}
use mathlib.Core.List.{List, [], ◌∷◌}
use Prim.Native.Nat.{ℕ, ◌<◌, ◌≤◌}
use lib.IntN.{ℤ}
use Rattle.meaning.specs.Rows.{row_count}
use Rattle.meaning.specs.Declarations.{Variable}
use Rattle.meaning.specs.Settle.{settle}
use Rattle.meaning.specs.State.{State, program, whole, StateChange, change_states, Effect}
use Rattle.meaning.specs.Labels.{Label}
use Rattle.meaning.specs.Readings.{Sheet}
use Rattle.meaning.specs.Ready.{effect_of, intent_at, after}
use Rattle.meaning.specs.Buffers.{Buffers}
use Rattle.meaning.specs.Order.{OrderOf}
use Rattle.meaning.specs.Answers.{check}
use Rattle.agreement.proofs.Active.{active}
use Rattle.machine.specs.RowSteps.{step_at}
use Rattle.machine.specs.Held.{HoldsState, put_settled, put_writes, put_changes, put_unset, put_effect, ChangesBelow, KeptReadings}
use Rattle.machine.specs.Counts.{Kept, change_up_counted, end_up_counted, changes_up_counted}
use Rattle.machine.proofs.MachineSteps.{changes-below, Starting, row-step-held}
use Rattle.run_changes.specs.declared.Data.{Data}
use Rattle.run_changes.specs.declared.Data.TheVariants.{Nothing, Cell, Reading, Output}
use Rattle.run_changes.specs.declared.Change.{Change}
use Rattle.run_changes.specs.Changes.{change_in, changes_of, put_data, with_states, DataFits}
use Rattle.run_changes.proofs.Told.{Told}
use Rattle.run_changes.proofs.ChangeRows.{made_up, made-within}
use Rattle.run_changes.proofs.StepChanges.{Does, step-done}

-- changes of row states in the arrays
changed-states : (cs : List StateChange) (b : Buffers) → put_changes cs b ≡ with_states (change_states cs b.states) b
changed-states [] b = refl
changed-states (m ∷ cs) b = changed-states cs _

-- a change of data leaves the row states
data-states : (readings : List ℤ) (given : List ℕ) (d : Data) (b : Buffers) → (put_data readings given d b).states ≡ b.states
data-states readings given Nothing b = refl
data-states readings given (Cell a x m) b = refl
data-states readings given (Reading a p) b = refl
data-states readings given (Output p strip x m) b = refl

module _ (rows : List ℤ) (ok : check rows ≡ none) (sheet : Sheet) (l : List Label) (s : State) (o : OrderOf rows sheet l s) (b : Buffers) (h : HoldsState rows s b)
    (readings : List ℤ) (given : List ℕ) (lines : ℕ) (K : KeptReadings rows sheet readings given lines) (few : lines ≤ 128)
    (acts : List ℕ) (sent : List ℤ) (elements : List ℕ) (T : Told (program rows) sheet s acts sent elements)
    (j : ℕ) (below : j < row_count rows) (x : Label) (g : step_at (program rows) sheet s j ≡ some x) (c : Change) (is : c ≡ change_in rows acts sent elements j) where
  done : Does rows ok sheet l s o b h readings given lines K few acts sent elements T c x
  done = subst (λ (d : Change). Does rows ok sheet l s o b h readings given lines K few acts sent elements T d x) (sym is) (step-done rows ok sheet l s o b h readings given lines K few acts sent elements T j below x g)

  -- the numbers of its change of data are within the arrays
  pub data-fits : DataFits readings given c.written b
  data-fits = done.data-fits

  -- the rows of the step are rows of the table, and the state that it gives is small
  pub within : (c.owner < row_count rows) × (c.at < row_count rows) × (c.sender ≤ row_count rows) × (c.next ≤ 14)
  within =
      let (u, v) = made-within c (row_count rows) (subst (ChangesBelow (row_count rows)) done.changes-are (changes-below rows ok sheet l s o (active (intent_at (program rows) sheet s) x done.effect done.is-effect))) in
      (done.owner-below, u, v, done.next_small)

  module _ (e : Effect) (q : effect_of x (intent_at (program rows) sheet s) ≡ some e) where
    same : done.effect ≡ e
    same = some-injective done.effect e (sym done.is-effect ∙ q)

    -- the changes of row states
    pub changes-are : e.changes ≡ changes_of c
    changes-are = ap (λ (f : Effect). f.changes) (sym same) ∙ done.changes-are

    -- which settle upward, from the changed row and then from the sender that ends
    pub settles-up : (k : Kept) → changes_up_counted (program rows) e.changes k ≡ end_up_counted (program rows) c.sender (change_up_counted (program rows) c.at c.next k)
    settles-up k = ap (λ (m : List StateChange). changes_up_counted (program rows) m k) changes-are ∙ made_up c (program rows) k

    -- the changes of data
    pub data-put : put_writes rows e.writes b ≡ put_data readings given c.written b
    data-put = ap (λ (f : Effect). put_writes rows f.writes b) (sym same) ∙ done.data-put

    effect-held : (vs : List Variable) → Starting rows ok sheet l s o e.changes vs → HoldsState rows (after (program rows) sheet x s) (put_effect rows e vs b)
    effect-held vs =
        let (f, i, H) = row-step-held rows ok sheet l s o b h j x g in
        subst (λ (f : Effect). Starting rows ok sheet l s o f.changes vs → HoldsState rows (after (program rows) sheet x s) (put_effect rows f vs b)) (some-injective f e (sym i ∙ q)) (H vs)

    -- after the change of data, with the row states settled and the cells of the blocks that start unset, the arrays hold the state that the step leaves
    pub state-held : (t : List ℕ) → t ≡ settle (whole (program rows)) false (change_states e.changes b.states) → (vs : List Variable) → Starting rows ok sheet l s o e.changes vs
        → HoldsState rows (after (program rows) sheet x s) (put_unset vs (with_states t (put_data readings given c.written b)))
    unfolding put_effect
    state-held t p vs starts =
        let d = put_data readings given c.written b in
        let u : put_changes e.changes (put_writes rows e.writes b) ≡ with_states (change_states e.changes b.states) (put_data readings given c.written b) =
        rw data-put (changed-states e.changes d ∙ ap (λ (m : List ℕ). with_states (change_states e.changes m) d) (data-states readings given c.written b)) in
        ap (put_unset vs) (ap (λ (m : List ℕ). with_states m d) p ∙ ap (put_settled rows false) (sym u)) ∙ effect-held vs starts
