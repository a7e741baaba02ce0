-- WHILE 1 SKIP never comes to rest.
use mathlib.Core.Path.{◌≡◌, refl, sym, ap, subst}
use mathlib.Core.Option.{none}
use mathlib.Core.List.Memᴰ
use mathlib.Core.List.{List, [], ◌∷◌, Memᴰ}
use Prim.Native.Nat.{ℕ, zero, suc}
use lib.IntN.{ℤ, pos}
use lib.ListN.{length}
use Rattle.meaning.specs.State.{State, program}
use Rattle.meaning.specs.Labels.{Label, own}
use Rattle.meaning.specs.Settle.{start}
use Rattle.meaning.specs.Order.{Order, halt, next-step, OrderOf}
use Rattle.meaning.specs.Sheet.{sheet_fault}
use Rattle.meaning.specs.Answers.{check}
use Rattle.meaning.proofs.ComputesAnswers.{computes_answers}
use Rattle.agreement.specs.Statements.{StepOf}
use Rattle.agreement.proofs.Demands.{ready-exactly}
use Rattle.agreement.proofs.OrdersSettle.{start-begins}
use Rattle.agreement_instances.specs.NotEmptyClaims.{NeverRests}
use Rattle.agreement_instances.proofs.Concrete.{empty_sheet, sheet_of, at_start, ready_in, after_step, from_start, ready-step}

abbrev loop_rows : List ℤ
loop_rows = pos 33 ∷ pos 1 ∷ pos 2 ∷ pos 0 ∷ pos 10 ∷ pos 1 ∷ pos 0 ∷ pos 0 ∷ pos 21 ∷ pos 0 ∷ pos 0 ∷ pos 0 ∷ []

loop-accepted : check loop_rows ≡ none
unfolding computes_answers
loop-accepted = refl

loop-sheet : sheet_fault loop_rows empty_sheet ≡ none
unfolding computes_answers
loop-sheet = refl

abbrev loop_start : State
loop_start = at_start loop_rows

no_steps : OrderOf loop_rows (sheet_of loop_rows) [] loop_start
no_steps = from_start loop_rows loop-accepted [] loop_start halt

loop-ready : ready_in loop_rows loop_start ≡ own 0 ∷ []
unfolding computes_answers
loop-ready = refl

-- the body starts and ends within the settling of the step, and is idle again
loop-again : after_step loop_rows (own 0) loop_start ≡ loop_start
unfolding computes_answers
loop-again = refl

-- the step of the WHILE leads from the start to the start
loop-step : StepOf loop_rows (sheet_of loop_rows) loop_start (own 0) loop_start
loop-step = subst (λ (s : State). StepOf loop_rows (sheet_of loop_rows) loop_start (own 0) s) loop-again (ready-step loop_rows loop-accepted [] loop_start no_steps (own 0) _ loop-ready (Memᴰ.head refl))

-- every step from the start leads to the start
back-at-start : (x : Label) (t : State) → StepOf loop_rows (sheet_of loop_rows) loop_start x t → t ≡ loop_start
back-at-start x t h =
    let (listed, one) = ready-exactly loop_rows loop-accepted (sheet_of loop_rows) loop_start ([], no_steps) x in
    let w : x ≡ own 0 = Memᴰ.eq_of_singleton (subst (λ (l : List Label). Memᴰ x l) loop-ready (listed.1 (t, h))) in
    one t loop_start h (subst (λ (y : Label). StepOf loop_rows (sheet_of loop_rows) loop_start y loop_start) (sym w) loop-step)

-- so every order from the start is at the start
stays-there : {s t : State} {l : List Label} → Order (program loop_rows) (sheet_of loop_rows) s l t → s ≡ loop_start → t ≡ loop_start
stays-there halt e = e
stays-there (next-step {t} {x} h o) e = stays-there o (back-at-start x t (subst (λ (u : State). StepOf loop_rows (sheet_of loop_rows) u x t) e h))

repeated : ℕ → List Label
repeated zero = []
repeated (suc n) = own 0 ∷ repeated n

repeated-length : (n : ℕ) → length (repeated n) ≡ n
unfolding repeated
repeated-length zero = refl
repeated-length (suc n) = ap suc (repeated-length n)

repeated-order : (n : ℕ) → Order (program loop_rows) (sheet_of loop_rows) loop_start (repeated n) loop_start
unfolding repeated
repeated-order zero = halt
repeated-order (suc n) = next-step loop-step (repeated-order n)

-- an accepted table whose orders have every length and never rest
pub never-rests : NeverRests
never-rests =
    record {
      rows = loop_rows;
      sheet = empty_sheet;
      table-accepted = loop-accepted;
      sheet-accepted = loop-sheet;
      every-length = λ n. (repeated n, repeated-length n, (loop_start, from_start loop_rows loop-accepted (repeated n) loop_start (repeated-order n)));
      goes_on = λ l s o. (own 0, (loop_start, subst (λ (u : State). StepOf loop_rows (sheet_of loop_rows) u (own 0) loop_start) (sym (stays-there o.order ((start-begins loop_rows loop-accepted o.beginning).0 o.begins))) loop-step));
    }
