-- Of an accepted table: the arrays hold the start after the root has started on arrays of zeros, and after the effect of the step of a row they hold the state that it leaves.
use mathlib.Core.Path.{◌≡◌, refl, sym, subst, ◌∙◌}
use mathlib.Core.Bool.{true, false}
use mathlib.Core.Option.{none, some}
use mathlib.Core.List.{List, [], ◌∷◌, Memᴰ}
use Prim.Native.Nat.{ℕ}
use lib.IntN.{ℤ}
use Rattle.meaning.specs.Rows.{row_count}
use Rattle.meaning.specs.Declarations.{Variable}
use Rattle.meaning.specs.State.{State, program, whole, StateChange, change_states, Effect}
use Rattle.meaning.specs.Labels.{Label}
use Rattle.meaning.specs.Readings.{Sheet}
use Rattle.meaning.specs.Settle.{start, begun}
use Rattle.meaning.proofs.UnsetLaws.{holds_cell}
use Rattle.meaning.specs.Intent.{open_offer, input_offer}
use Rattle.meaning.specs.Ready.{effect_of, intent_at, after}
use Rattle.meaning.specs.Buffers.{Buffers}
use Rattle.meaning.specs.Order.{OrderOf}
use Rattle.meaning.specs.Answers.{check}
use Rattle.agreement.proofs.Commute.{at_in}
use Rattle.agreement.proofs.Parts.{Each}
use Rattle.agreement.proofs.Active.{offer_at-is, Active, acts-alone, passes_on, takes-open, takes-input}
use Rattle.agreement.proofs.Invariant.{parts_of, step-parts}
use Rattle.agreement.proofs.Separate.{table-inv}
use Rattle.agreement.proofs.TableFit.{fit}
use Rattle.machine.specs.RowSteps.{step_at}
use Rattle.machine.specs.Held.{blank, HoldsState, put_settled, put_effect, AllInRange, ChangesBelow}
use Rattle.machine.proofs.Declared.{CellsIn}
use Rattle.machine.proofs.RowReady.{step-ordered}
use Rattle.machine.proofs.StepEffects.{active-effect, after-effect}
use Rattle.machine.proofs.StateSizes.{lengths}
use Rattle.machine.proofs.HeldLaws.{buffers-path, hold-start}
use Rattle.machine.proofs.HeldSteps.{row_below, hold-effect, start-states}
use Rattle.machine.proofs.IntentsInRange.{IntentIn, offer-in, intents-in}

-- a step writes within what the table declares, in every table
pub writes-in : (rows : List ℤ) (sheet : Sheet) (s : State) {x : Label} {e : Effect} → Active (intent_at (program rows) sheet s) x e → AllInRange rows s.store e.writes
writes-in rows sheet s (acts-alone {r} h) = subst (IntentIn rows s.store) h (intents-in rows sheet s r)
writes-in rows sheet s (passes_on {i} h g) = (subst (IntentIn rows s.store) h (intents-in rows sheet s i), tt)
writes-in rows sheet s (takes-open {r} {j} {q} {i} {ws} {os} h g) =
    offer-in rows s.store (open_offer i q ws) os (subst (IntentIn rows s.store) h (intents-in rows sheet s r)) (offer_at-is j (open_offer i q ws) os g).0
writes-in rows sheet s (takes-input {r} {j} {q} {i} {e} {a} {os} h g f) =
    (offer-in rows s.store (input_offer i q e a) os (subst (IntentIn rows s.store) h (intents-in rows sheet s r)) (offer_at-is j (input_offer i q e a) os g).0, tt)

module _ (rows : List ℤ) (ok : check rows ≡ none) where
  -- the start: the root starts and settles on arrays of zeros
  pub start-held : HoldsState rows (start (program rows)) (put_settled rows true blank)
  unfolding blank
  start-held = buffers-path _ _ refl refl (sym (start-states rows ok)) refl refl refl refl ∙ hold-start rows

  each_below : (cs : List StateChange) (s : List ℕ) → Each (whole (program rows)) (parts_of cs) s → ChangesBelow (row_count rows) cs
  each_below [] s h = tt
  each_below (c ∷ cs) s h = (row_below (whole (program rows)) (row_count rows) c.at (fit rows ok).sound (at_in h.0), each_below cs s h.1)

  module _ (sheet : Sheet) (l : List Label) (s : State) (o : OrderOf rows sheet l s) where
    -- a step changes states of rows of the table
    pub changes-below : {x : Label} {e : Effect} → Active (intent_at (program rows) sheet s) x e → ChangesBelow (row_count rows) e.changes
    changes-below {e} A = each_below e.changes s.states (step-parts (program rows) (row_count rows) (fit rows ok) sheet s (table-inv rows sheet (fit rows ok) l s o) A).0

    -- vs are variables of the table, whose cells are those of the blocks that start by changes
    abbrev pub Starting : List StateChange → List Variable → Type 0
    Starting cs vs = ((v : Variable) → Memᴰ v vs → CellsIn rows v) × ((a : ℕ) → holds_cell a vs ≡ holds_cell a (begun (whole (program rows)) false (change_states cs s.states)))

    -- after a step that can be taken the arrays hold the state that it leaves
    pub step-held : (b : Buffers) → HoldsState rows s b → (x : Label) (e : Effect) → Active (intent_at (program rows) sheet s) x e → (vs : List Variable) → Starting e.changes vs
        → HoldsState rows (after (program rows) sheet x s) (put_effect rows e vs b)
    step-held b h x e A vs (known, begins) =
        rw (after-effect (program rows) sheet s x e (active-effect (intent_at (program rows) sheet s) A)) (hold-effect rows ok e s vs known begins (changes-below A) (writes-in rows sheet s A) (lengths rows ok sheet l s o) b h)

    -- so after the step of row j
    pub row-step-held : (b : Buffers) → HoldsState rows s b → (j : ℕ) (x : Label) → step_at (program rows) sheet s j ≡ some x
        → (e : Effect) × (effect_of x (intent_at (program rows) sheet s) ≡ some e) × ((vs : List Variable) → Starting e.changes vs → HoldsState rows (after (program rows) sheet x s) (put_effect rows e vs b))
    row-step-held b h j x q = let (e, A, r) = step-ordered (program rows) sheet s j x q in (e, active-effect (intent_at (program rows) sheet s) A, step-held b h x e A)
