-- The demands about calls: what an answer of the public entries' definitions `reply` and `reply_to_bytes` tells.
use mathlib.Core.Path.{◌≡◌, refl, sym, ap, subst, ◌∙◌}
use mathlib.Core.Bool.{Bool, true, false}
use mathlib.Core.Logic.{◌≢◌, ◌↔◌}
use mathlib.Core.Option.{Option, none, some}
use mathlib.Core.List.{List}
use Prim.Native.Nat.{ℕ, ◌<◌, ◌≤◌}
use native.Mathlib.Omega.{arith}
use lib.IntN.{ℤ, pos}
use lib.ListN.{length, get_or}
use lib.Dec.{ltb}
use borrow.Author.Tests.{ltb-false}
use Rattle.meaning.specs.declared.Outcome.{Outcome}
use Rattle.meaning.specs.declared.Answer.TheVariants.{Refused, Ran}
use Rattle.meaning.specs.Limits.{max_budget, max_cells}
use Rattle.meaning.specs.Rows.{row_count}
use Rattle.meaning.specs.State.{State}
use Rattle.meaning.specs.Run as R
use Rattle.meaning.specs.Run.{run}
use Rattle.meaning.specs.Sheet.{sheet_fault, readings}
use Rattle.meaning.specs.Buffers.{Buffers, too_short, mark, number_in, encode}
use Rattle.meaning.specs.Refusals.{Refusal}
use Rattle.meaning.specs.TableBytes.{rows_of}
use Rattle.meaning.specs.Stages.{budget_fault, buffer_fault}
use Rattle.meaning.specs.Answers.{Task, Result, refused, ran, unless, check, result, Reply, reply_of, reply}
use Rattle.meaning.specs.declared.Outcome.TheVariants.{Spent}
use Rattle.meaning.specs.Basics.{if_else}
use Rattle.meaning.specs.Values.{Message}
use Rattle.meaning.specs.Labels.{Label}
use Rattle.meaning.specs.Order.{RestOf}
use Rattle.meaning.proofs.AnswerLaws.{result-stages, result-of-bytes, reply-stages, reply-to-bytes}
use Rattle.agreement.specs.Statements.{StepOf, ReadyTotal}
use Rattle.agreement.specs.CallClaims.{RefusedUntouched, BytesAsRows, RanAs, RunAnswered, OrderAnswered, HandedTo, MissingAnswered}
use Rattle.agreement.specs.MissingClaims.{cell_at}
use Rattle.agreement.proofs.Answered.{replies, buffers-suffice}
use Rattle.agreement.proofs.Demands.{run-takes-order, every-order-chosen}
use Rattle.agreement.proofs.ReadyTotals.{total-few}
use Rattle.agreement.proofs.MissingMarks.{encoded-cells}
use Rattle.agreement.proofs.MissingSteps.{set-in-order}

-- a refused result leaves the buffers
refused-leaves : (rows : List ℤ) (b : Buffers) (r : Result) (number place : ℕ) → (reply_of rows b r).answer ≡ Refused number place → (reply_of rows b r).buffers ≡ b
refused-leaves rows b (refused f) number place e = refl
refused-leaves rows b (ran r) number place e = let z : ◌≡◌ {A = ℕ} 0 1 = cc in absurd (omega arith)

pub refused-untouched : RefusedUntouched
refused-untouched t b number place e =
    let w = reply-stages t b in
    ap (λ (r : Reply). r.buffers) w ∙ refused-leaves t.rows b (unless (buffer_fault b) (result t)) number place (ap (λ (r : Reply). r.answer) (sym w) ∙ e)

pub bytes-as-rows : BytesAsRows
bytes-as-rows table sheet choices budget b =
    let w = reply-to-bytes table sheet choices budget b ∙ ap (λ (r : Result). reply_of (rows_of table) b (unless (buffer_fault b) r)) (result-of-bytes table sheet choices budget) in (
      λ e. w ∙ rw e (sym (reply-stages (record { rows = rows_of table; sheet = sheet; choices = choices; budget = budget }) b)),
      λ f long e. w ∙ rw (buffers-suffice b long, e),
    )

-- a result that ran comes from no refusal
ran-unrefused : (f : Option Refusal) (r : Result) (q : R.RunResult) → unless f r ≡ ran q → (f ≡ none) × (r ≡ ran q)
ran-unrefused none r q e = (refl, e)
ran-unrefused (some f) r q e = let z : ◌≡◌ {A = ℕ} 0 1 = cc in absurd (omega arith)

-- an answer of a run is that of a result that ran
ran-answer : (rows : List ℤ) (b : Buffers) (r : Result) (o : Outcome) (n k : ℕ) → (reply_of rows b r).answer ≡ Ran o n k → (q : R.RunResult) × (r ≡ ran q)
ran-answer rows b (refused f) o n k e = let z : ◌≡◌ {A = ℕ} 0 1 = cc in absurd (omega arith)
ran-answer rows b (ran q) o n k e = (q, refl)

ran-parts : (p q : Outcome) (m n j k : ℕ) → Ran p m j ≡ Ran q n k → (p ≡ q) × (m ≡ n) × (j ≡ k)
ran-parts p q m n j k e = (cc, cc, cc)

long-enough : (b : Buffers) → buffer_fault b ≡ none → too_short b ≡ false
unfolding buffer_fault
long-enough b e = go (too_short b) e
  where
    go : (t : Bool) → if_else {A = Option Refusal} t (some (1, 0)) none ≡ none → t ≡ false
    go true e = let z : ◌≡◌ {A = ℕ} 0 1 = cc in absurd (omega arith)
    go false e = refl

within-limit : (budget : ℕ) → budget_fault max_budget budget ≡ none → budget ≤ max_budget
unfolding budget_fault
within-limit budget e = go (ltb max_budget budget) refl e
  where
    go : (t : Bool) → ltb max_budget budget ≡ t → if_else {A = Option Refusal} t (some (11, 0)) none ≡ none → budget ≤ max_budget
    go true p e = let z : ◌≡◌ {A = ℕ} 0 1 = cc in absurd (omega arith)
    go false p e = let h = ltb-false max_budget budget p in omega arith

-- a call that ran: nothing refused it
pub record Unrefused (t : Task) (b : Buffers) : Type 0 where
  pub long : too_short b ≡ false
  pub accepted : check t.rows ≡ none
  pub read : sheet_fault t.rows t.sheet ≡ none
  pub allowed : t.budget ≤ max_budget

pub ran_call : (t : Task) (b : Buffers) (o : Outcome) (n k : ℕ) → (reply t b).answer ≡ Ran o n k
    → let q = run t.rows (readings t.rows t.sheet) t.choices t.budget in
    Unrefused t b × (q.outcome ≡ o) × (q.steps ≡ n) × (q.ready ≡ k) × ((reply t b).buffers ≡ encode t.rows q.state b)
ran_call t b o n k e =
    let end = ran (run t.rows (readings t.rows t.sheet) t.choices t.budget) in
    let budget = unless (budget_fault max_budget t.budget) end in
    let (q, p) = ran-answer t.rows b (unless (buffer_fault b) (result t)) o n k (ap (λ (z : Reply). z.answer) (sym (reply-stages t b)) ∙ e) in
    let (f, r) = ran-unrefused (buffer_fault b) (result t) q p in
    let (x, g) = ran-unrefused (check t.rows) (unless (sheet_fault t.rows t.sheet) budget) q (sym (result-stages t) ∙ r) in
    let (y, h) = ran-unrefused (sheet_fault t.rows t.sheet) budget q g in
    let (z, _) = ran-unrefused (budget_fault max_budget t.budget) end q h in
    let u : Unrefused t b = record { long = long-enough b f; accepted = x; read = y; allowed = within-limit t.budget z } in
    let w = replies t.rows t.sheet x y t.choices t.budget b u.long u.allowed in
    let q = run t.rows (readings t.rows t.sheet) t.choices t.budget in
    let (outcome, steps, total) = ran-parts q.outcome o q.steps n q.ready k (ap (λ (z : Reply). z.answer) (sym w) ∙ e) in
    (u, outcome, steps, total, ap (λ (z : Reply). z.buffers) w)

pub run-answered : RunAnswered
run-answered t b o n k e =
    let (u, outcome, steps, total, left) = ran_call t b o n k e in
    let sheet = readings t.rows t.sheet in
    let q = run t.rows sheet t.choices t.budget in
    let (l, order, picked, long, within, rest, ended, spent, listed, none-ready) = run-takes-order t.rows u.accepted sheet t.choices t.budget in
    record {
      buffers-long = u.long;
      table-accepted = u.accepted;
      sheet-accepted = u.read;
      budget-allowed = u.allowed;
      labels = l;
      end = q.state;
      order = order;
      chosen = picked;
      steps-taken = long ∙ steps;
      steps-within = subst (λ (k : ℕ). k ≤ t.budget) steps within;
      left = left;
      rest-exactly = subst (λ (k : Outcome). (k ≢ Spent) ↔ RestOf t.rows sheet q.state) outcome rest;
      rest-outcome = λ r. sym outcome ∙ ended r;
      spent-exactly =
          subst (λ (k : Outcome). (k ≡ Spent) ↔ ((n ≡ t.budget) × ((x : Label) × ((s : State) × StepOf t.rows sheet q.state x s)))) outcome
          (subst (λ (k : ℕ). (q.outcome ≡ Spent) ↔ ((k ≡ t.budget) × ((x : Label) × ((s : State) × StepOf t.rows sheet q.state x s)))) steps spent);
      ready-total = subst (ReadyTotal t.rows sheet q.state) total listed;
      rest-total = subst (λ (j : ℕ). (j ≡ 0) ↔ RestOf t.rows sheet q.state) total none-ready;
      total-within = subst (λ (j : ℕ). j ≤ row_count t.rows) total (total-few t.rows u.accepted sheet q.state (l, order) q.ready listed);
    }

pub order-answered : OrderAnswered
order-answered rows sheet accepted read l s o few b long =
    let (choices, small, _, end, steps) = every-order-chosen rows (readings rows sheet) (accepted, (sheet, (read, refl))) l s o in
    let q = run rows (readings rows sheet) choices (length l) in
    let w = replies rows sheet accepted read choices (length l) b long few in
    let (_, _, _, _, _, _, _, _, total, _) = run-takes-order rows accepted (readings rows sheet) choices (length l) in
    (choices, small, (q.outcome, (q.ready, subst (λ (t : State). ReadyTotal rows (readings rows sheet) t q.ready) end total, w ∙ rw (end, steps))))

-- a cell by its mark and number
set-or-not : (c : Message) → (mark c ≢ 0 → (mark c ≡ 1) × (c ≡ some (number_in c))) × (mark c ≡ 0 → number_in c ≡ pos 0)
set-or-not none = (λ h. absurd (h refl), λ e. refl)
set-or-not (some z) = (λ h. (refl, refl), λ e. absurd (omega arith))

pub missing-answered : MissingAnswered
missing-answered t b o n k e =
    let a = run-answered t b o n k e in
    (a, cell a)
  where
    cell : (a : RanAs t b (reply t b) o n k) (i : ℕ) → i < max_cells
        → let m = get_or (reply t b).buffers.marks i 0 in
        let z = get_or (reply t b).buffers.cells i (pos 0) in
        (m ≢ 0 → (m ≡ 1) × HandedTo t.rows t.sheet a.labels i z) × (m ≡ 0 → z ≡ pos 0)
    cell a i h =
        let (m, z) = encoded-cells t.rows a.end b i h in
        let p : get_or (reply t b).buffers.marks i 0 ≡ mark (cell_at a.end i) = ap (λ (x : Buffers). get_or x.marks i 0) a.left ∙ m in
        let q : get_or (reply t b).buffers.cells i (pos 0) ≡ number_in (cell_at a.end i) = ap (λ (x : Buffers). get_or x.cells i (pos 0)) a.left ∙ z in
        let (set, unset) = set-or-not (cell_at a.end i) in (
          λ k. let (one, number) = set (λ y. k (p ∙ y)) in (p ∙ one, subst (HandedTo t.rows t.sheet a.labels i) (sym q) (handed a i _ number)),
          λ k. q ∙ unset (sym p ∙ k),
        )
      where
        handed : (a : RanAs t b (reply t b) o n k) (i : ℕ) (z : ℤ) → cell_at a.end i ≡ some z → HandedTo t.rows t.sheet a.labels i z
        handed a i z c =
            let (before, (x, (later, (u, (parts, order, handed))))) = set-in-order t.rows (readings t.rows t.sheet) a.labels a.end a.order i z c in
            record { before = before; label = x; later = later; at = u; parts = parts; order = order; handed = handed }
