-- PAR of (b ! x; WHILE 1 with a block and SKIP in it) and c ! 2, where x is unset: it never rests, and has an order ahead on each channel.
use mathlib.Core.Path.{◌≡◌, refl, sym, ap, subst, ◌∙◌}
use mathlib.Core.Option.{none, some}
use mathlib.Core.List.Memᴰ
use mathlib.Core.List.{List, [], ◌∷◌}
use Prim.Native.Nat.{ℕ, zero, suc}
use native.Mathlib.Omega.{arith}
use lib.IntN.{ℤ, pos, negsuc}
use lib.ListN.{length}
use Rattle.meaning.specs.State.{State, program}
use Rattle.meaning.specs.Labels.{Label, own}
use Rattle.meaning.specs.Ready.{after}
use Rattle.meaning.specs.Order.{Order, halt, next-step, OrderOf}
use Rattle.meaning.specs.Sheet.{sheet_fault}
use Rattle.meaning.specs.Answers.{check}
use Rattle.meaning.proofs.ComputesAnswers.{computes_answers}
use Rattle.agreement.specs.Statements.{NoAlt, StepOf}
use Rattle.agreement.proofs.Reached.{order-more}
use Rattle.agreement.proofs.CommonState.{rest-reached}
use Rattle.agreement_instances.specs.NotEmptyClaims.{Crosswise}
use Rattle.agreement_instances.proofs.Concrete.{empty_sheet, sheet_of, at_start, ready_in, after_step, no-alt, from_start, ready-step, rests, one_more}

abbrev rows : List ℤ
rows =
    pos 2 ∷ pos 1 ∷ pos 2 ∷ pos 4 ∷ pos 2 ∷ pos 1 ∷ pos 2 ∷ pos 4 ∷ pos 1 ∷ pos 1 ∷ pos 0 ∷ pos 0 ∷ pos 1 ∷ pos 1 ∷ pos 0 ∷ pos 0
    ∷ pos 31 ∷ pos 5 ∷ pos 0 ∷ pos 0 ∷ pos 40 ∷ pos 6 ∷ pos 17 ∷ pos 0 ∷ pos 30 ∷ pos 7 ∷ pos 0 ∷ pos 0
    ∷ pos 40 ∷ pos 8 ∷ pos 12 ∷ pos 0 ∷ pos 24 ∷ pos 0 ∷ pos 9 ∷ pos 10 ∷ pos 10 ∷ pos 0 ∷ pos 0 ∷ pos 0 ∷ pos 11 ∷ pos 2 ∷ pos 11 ∷ pos 0 ∷ pos 10 ∷ pos 0 ∷ pos 0 ∷ pos 0
    ∷ pos 40 ∷ pos 13 ∷ negsuc 0 ∷ pos 0 ∷ pos 33 ∷ pos 14 ∷ pos 15 ∷ pos 0 ∷ pos 10 ∷ pos 1 ∷ pos 0 ∷ pos 0
    ∷ pos 35 ∷ pos 3 ∷ pos 16 ∷ pos 0 ∷ pos 21 ∷ pos 0 ∷ pos 0 ∷ pos 0
    ∷ pos 40 ∷ pos 18 ∷ negsuc 0 ∷ pos 0 ∷ pos 24 ∷ pos 1 ∷ pos 19 ∷ pos 20 ∷ pos 10 ∷ pos 0 ∷ pos 0 ∷ pos 0 ∷ pos 10 ∷ pos 2 ∷ pos 0 ∷ pos 0 ∷ []

rows-accepted : check rows ≡ none
unfolding computes_answers
rows-accepted = refl

sheet-fits : sheet_fault rows empty_sheet ≡ none
unfolding computes_answers
sheet-fits = refl

without-alt : NoAlt rows
unfolding computes_answers
without-alt = no-alt rows refl

-- after b ! x, and after c ! 2
abbrev after_b : State
after_b = after_step rows (own 8) (at_start rows)

abbrev after_c : State
after_c = after_step rows (own 18) (at_start rows)

both-ready : ready_in rows (at_start rows) ≡ own 8 ∷ own 18 ∷ []
unfolding computes_answers
both-ready = refl

loop-ready : ready_in rows after_b ≡ own 13 ∷ own 18 ∷ []
unfolding computes_answers
loop-ready = refl

-- the state after b ! x, written out: an absence has been given to b
abbrev written : State
written =
    record {
      states = 0 ∷ 0 ∷ 0 ∷ 0 ∷ 1 ∷ 0 ∷ 1 ∷ 0 ∷ 2 ∷ 0 ∷ 0 ∷ 0 ∷ 0 ∷ 1 ∷ 0 ∷ 0 ∷ 0 ∷ 0 ∷ 1 ∷ 0 ∷ 0 ∷ [];
      store = record { cells = none ∷ none ∷ []; places = []; outputs = (none ∷ []) ∷ [] ∷ [] };
    }

b-written : after_b ≡ written
unfolding computes_answers
b-written = refl

-- the WHILE leads from there to there
from-written : after_step rows (own 13) written ≡ written
unfolding computes_answers
from-written = refl

loop-again : after_step rows (own 13) after_b ≡ after_b
loop-again = ap (after_step rows (own 13)) b-written ∙ from-written ∙ sym b-written

no_steps : OrderOf rows (sheet_of rows) [] (at_start rows)
no_steps = from_start rows rows-accepted [] (at_start rows) halt

b-order : OrderOf rows (sheet_of rows) (own 8 ∷ []) after_b
b-order = one_more rows rows-accepted no_steps (own 8) _ both-ready (Memᴰ.head refl)

c-order : OrderOf rows (sheet_of rows) (own 18 ∷ []) after_c
c-order = one_more rows rows-accepted no_steps (own 18) _ both-ready (Memᴰ.tail (Memᴰ.head refl))

loop-step : StepOf rows (sheet_of rows) after_b (own 13) after_b
loop-step = subst (λ (s : State). StepOf rows (sheet_of rows) after_b (own 13) s) loop-again (ready-step rows rows-accepted (own 8 ∷ []) after_b b-order (own 13) _ loop-ready (Memᴰ.head refl))

loops : (n : ℕ) → (l : List Label) × (length l ≡ n) × Order (program rows) (sheet_of rows) after_b l after_b
loops zero = ([], refl, halt)
loops (suc n) = let (l, e, o) = loops n in (own 13 ∷ l, ap suc e, next-step loop-step o)

every-length : (n : ℕ) → (l : List Label) × (length l ≡ n) × ((s : State) × OrderOf rows (sheet_of rows) l s)
every-length zero = ([], refl, (at_start rows, no_steps))
every-length (suc n) =
    let (l, e, o) = loops n in
    (own 8 ∷ l, ap suc e, (after_b, from_start rows rows-accepted (own 8 ∷ l) after_b (next-step (ready-step rows rows-accepted [] (at_start rows) no_steps (own 8) _ both-ready (Memᴰ.head refl)) o)))

-- no order is at rest, since there are longer ones; so each has a step more
goes_on : (l : List Label) (s : State) → OrderOf rows (sheet_of rows) l s → (x : Label) × ((t : State) × StepOf rows (sheet_of rows) s x t)
goes_on l s o = go (ready_in rows s) refl
  where
    go : (m : List Label) → ready_in rows s ≡ m → (x : Label) × ((t : State) × StepOf rows (sheet_of rows) s x t)
    go (x ∷ m) e = (x, (after_step rows x s, ready-step rows rows-accepted l s o x (x ∷ m) e (Memᴰ.head refl)))
    go [] e =
        let (k, f, (t, q)) = every-length (suc (length l)) in
        let (m, _, g) = rest-reached rows (sheet_of rows) (rows-accepted, (empty_sheet, (sheet-fits, refl))) without-alt l s o k t q (rests rows rows-accepted l s o e) in
        absurd (omega (arith, f, g))

b-lists : after_b.store.outputs ≡ (none ∷ []) ∷ [] ∷ []
unfolding computes_answers
b-lists = refl

c-lists : after_c.store.outputs ≡ [] ∷ (some (pos 2) ∷ []) ∷ []
unfolding computes_answers
c-lists = refl

pub crosswise : Crosswise
crosswise =
    record {
      never = record { rows = rows; sheet = empty_sheet; table-accepted = rows-accepted; sheet-accepted = sheet-fits; every-length = every-length; goes_on = goes_on };
      without-alt = without-alt;
      with-block = (15, omega arith, refl);
      labels = own 8 ∷ own 13 ∷ [];
      others = own 18 ∷ [];
      one = after_b;
      two = after_c;
      order = order-more rows (sheet_of rows) b-order loop-step;
      other = c-order;
      lengths_differ = λ e. omega arith;
      left = 0;
      right = 1;
      ahead = rw (b-lists, c-lists) (omega arith);
      absence = rw b-lists (Memᴰ.head refl);
      behind = rw (b-lists, c-lists) (omega arith);
    }
