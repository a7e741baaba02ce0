-- A row orders a ready step exactly if the notes and the waiting senders tell it, and the total is the number of ready steps.
use mathlib.Core.Path.{◌≡◌, refl, sym, ap, ap₂, subst, ◌∙◌}
use mathlib.Core.Logic.{◌↔◌}
use mathlib.Core.Bool.{true, ◌||◌, true≢false}
use mathlib.Core.Option.{Option, none, some, map}
use mathlib.Core.List.{List, Memᴰ}
use Prim.Native.Nat.{ℕ}
use lib.IntN.{ℤ}
use lib.ListN.{length}
use Rattle.meaning.specs.Basics.{is_some}
use Rattle.meaning.specs.Rows.{row_count}
use Rattle.meaning.specs.State.{State, Program, program, Effect}
use Rattle.meaning.specs.Labels.{Label, pass, take_with_output, order_row}
use Rattle.meaning.specs.Readings.{Sheet}
use Rattle.meaning.specs.Intent.{Offer, open_offer, input_offer, Intent, waits, moves, inputs_from, outputs_to, selects}
use Rattle.meaning.specs.Ready.{intent_at, ready, after}
use Rattle.meaning.specs.Order.{OrderOf}
use Rattle.meaning.specs.Answers.{check}
use Rattle.meaning.proofs.AnswerLaws.{accepted}
use Rattle.agreement.proofs.Steps.{distinct-options, ready-allowed, allowed-ready}
use Rattle.agreement.proofs.Invariant.{effect-step, step-active}
use Rattle.agreement.proofs.Active.{offer_at, Active}
use Rattle.agreement.proofs.Working.{Inv}
use Rattle.agreement.proofs.Separate.{table-inv}
use Rattle.agreement.proofs.TableFit.{fit}
use Rattle.agreement.proofs.TableOptions.{option-rows, one-alt-row}
use Rattle.machine.specs.RowSteps.{alt_of, own_step_by, offer_step, option_step_by, first_step, waiting_at, own_step, option_step_of, option_step, step_at, step_rows}
use Rattle.machine.proofs.RowReady.{step-ordered, active-step}
use Rattle.machine.proofs.RowTables.{states-length, ready-count}
use Rattle.machine.proofs.StepEffects.{active-effect}
use Rattle.run_kept.specs.Kept.{offer_of, own_ready, offer_ready, note_if, option_note, ready_row, total, count_below}
use Rattle.run_kept.proofs.Counts.{count-length, count_same}

some-map : {A B : Type 0} (f : A → B) (o : Option A) → is_some (map f o) ≡ is_some o
some-map f none = refl
some-map f (some a) = refl

some_or : (a b : Option Label) → is_some (first_step a b) ≡ (is_some a || is_some b)
some_or none b = refl
some_or (some x) b = refl

own-told : (sender : ℕ → Option ℕ) (j : ℕ) (w : Intent) → is_some (own_step_by sender j w) ≡ own_ready sender w
own-told sender j waits = refl
own-told sender j (moves x v ws) = refl
own-told sender j (inputs_from e a) = some-map (pass j) (sender e)
own-told sender j (outputs_to e v) = refl
own-told sender j (selects os) = refl

offer-told : (sender : ℕ → Option ℕ) (r j : ℕ) (o : Option Offer) → is_some (offer_step sender r j o) ≡ offer_ready sender o
offer-told sender r j none = refl
offer-told sender r j (some (open_offer i q ws)) = refl
offer-told sender r j (some (input_offer i q e a)) = some-map (take_with_output r j) (sender e)

option-told : (sender : ℕ → Option ℕ) (r j : ℕ) (w : Intent) → is_some (option_step_by sender r j w) ≡ offer_ready sender (offer_of j w)
option-told sender r j waits = refl
option-told sender r j (moves x v ws) = refl
option-told sender r j (inputs_from e a) = refl
option-told sender r j (outputs_to e v) = refl
option-told sender r j (selects os) = offer-told sender r j (offer_at j os)

is-some : {A : Type 0} (o : Option A) → is_some o ≡ true → (a : A) × (o ≡ some a)
is-some none e = absurd (true≢false (sym e))
is-some (some a) e = (a, refl)

module _ (P : Program) (sheet : Sheet) (s : State) where
  -- a row that orders a step is told by the notes
  pub ready-told : (j : ℕ) → is_some (step_at P sheet s j) ≡ ready_row P sheet s j
  unfolding step_at own_step option_step ready_row option_note
  ready-told j =
      some_or (own_step_by (waiting_at P sheet s) j (intent_at P sheet s j)) (option_step_of P sheet s j (alt_of P j))
      ∙ ap₂ ◌||◌ (own-told (waiting_at P sheet s) j (intent_at P sheet s j)) (go (alt_of P j))
    where
      go : (o : Option ℕ) → is_some (option_step_of P sheet s j o) ≡ offer_ready (waiting_at P sheet s) (offer_of j (note_if P sheet s o))
      go none = refl
      go (some r) = option-told (waiting_at P sheet s) r j (intent_at P sheet s r)

module _ (rows : List ℤ) (ok : check rows ≡ none) (sheet : Sheet) (l : List Label) (s : State) (o : OrderOf rows sheet l s) where
  abbrev P : Program
  P = program rows

  inv : Inv (program rows) (row_count rows) (fit rows ok) sheet s
  inv = table-inv rows sheet (fit rows ok) l s o

  -- a ready step is one that can be taken
  pub ready-active : (x : Label) → Memᴰ x (ready (program rows) sheet s) → (e : Effect) × Active (intent_at (program rows) sheet s) x e
  ready-active x m = let (e, A, q) = step-active P (row_count rows) (fit rows ok) sheet (distinct-options rows sheet) s x (after P sheet x s) inv (ready-allowed rows sheet (fit rows ok) s inv x m) in (e, A)

  pub active-ready : {x : Label} {e : Effect} → Active (intent_at (program rows) sheet s) x e → Memᴰ x (ready (program rows) sheet s)
  active-ready {x} {e} A = (allowed-ready rows sheet (fit rows ok) s inv x _ (effect-step P (row_count rows) (fit rows ok) sheet s inv x e (active-effect (intent_at P sheet s) A))).0

  -- the step that row j orders is a ready step of that row, and the other way round
  pub step-is-ready : (j : ℕ) (x : Label) → (step_at (program rows) sheet s j ≡ some x) ↔ (Memᴰ x (ready (program rows) sheet s) × (order_row x ≡ j))
  step-is-ready j x = (λ h. to h, λ h. from h)
    where
      to : step_at P sheet s j ≡ some x → Memᴰ x (ready P sheet s) × (order_row x ≡ j)
      to h = let (e, A, q) = step-ordered P sheet s j x h in (active-ready A, q)

      from : Memᴰ x (ready P sheet s) × (order_row x ≡ j) → step_at P sheet s j ≡ some x
      from (m, q) =
          let (e, A) = ready-active x m in
          subst (λ (k : ℕ). step_at P sheet s k ≡ some x) q (active-step P (row_count rows) (fit rows ok) sheet s inv (option-rows rows ok) (one-alt-row rows ((accepted rows).0 ok)) A)

  -- a row's bit is set exactly if there is a ready step of that row
  pub row-ready : (j : ℕ) → (ready_row (program rows) sheet s j ≡ true) ↔ ((x : Label) × Memᴰ x (ready (program rows) sheet s) × (order_row x ≡ j))
  row-ready j = (λ h. to h, λ h. from h)
    where
      to : ready_row P sheet s j ≡ true → (x : Label) × Memᴰ x (ready P sheet s) × (order_row x ≡ j)
      to h =
          let (x, q) = is-some (step_at P sheet s j) (ready-told P sheet s j ∙ h) in
          let (m, z) = (step-is-ready j x).0 q in
          (x, m, z)

      from : (x : Label) × Memᴰ x (ready P sheet s) × (order_row x ≡ j) → ready_row P sheet s j ≡ true
      from (x, m, q) = sym (ready-told P sheet s j) ∙ ap (λ (y : Option Label). is_some y) ((step-is-ready j x).1 (m, q))

  -- the total is the number of ready steps
  pub total-is : total (program rows) sheet s ≡ length (ready (program rows) sheet s)
  unfolding total step_rows
  total-is =
      count_same (ready_row P sheet s) (λ j. is_some (step_at P sheet s j)) (length s.states) (λ j k. sym (ready-told P sheet s j))
      ∙ ap (count_below (λ j. is_some (step_at P sheet s j))) (states-length rows ok sheet l s o)
      ∙ count-length (λ j. is_some (step_at P sheet s j)) (row_count rows)
      ∙ sym (ready-count rows ok sheet l s o)
