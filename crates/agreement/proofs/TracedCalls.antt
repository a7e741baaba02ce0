-- Traced calls: they answer and leave what untraced calls do, and their two lists show the order that the run takes.
use mathlib.Core.Path.{◌≡◌, refl, sym, ap, subst, ◌∙◌}
use mathlib.Core.Bool.{Bool, true, false, ◌||◌, false≢true}
use mathlib.Core.Option.{Option, none, some}
use mathlib.Core.List.{List, map}
use Prim.Native.Nat.{ℕ, ◌≤◌}
use native.Mathlib.Omega.{arith}
use lib.IntN.{ℤ}
use lib.ListN.{length, length-map}
use lib.Dec.{ltb}
use borrow.Author.Tests.{ltb-false, le-ltb}
use Rattle.meaning.specs.declared.Outcome.{Outcome}
use Rattle.meaning.specs.declared.Answer.TheVariants.{Refused, Ran}
use Rattle.meaning.specs.Basics.{if_else}
use Rattle.meaning.specs.Limits.{max_budget}
use Rattle.meaning.specs.Refusals.{Refusal}
use Rattle.meaning.specs.TableBytes.{rows_of}
use Rattle.meaning.specs.Run.{run}
use Rattle.meaning.specs.Sheet.{readings}
use Rattle.meaning.specs.Buffers.{Buffers, lent}
use Rattle.meaning.specs.Stages.{limits}
use Rattle.meaning.specs.Answers.{Result, refused, ran, unless, result_of, Task, on_rows, on_bytes, Reply, reply_of, reply, reply_to_bytes}
use Rattle.meaning.specs.Trace.{Shown, trace, TraceLists, lists_too_short, lists_fault, listed, TracedReply, traced_reply_of, reply_traced, reply_to_bytes_traced}
use Rattle.agreement.specs.CallClaims.{task_of_bytes, RanAs}
use Rattle.agreement.specs.TraceClaims.{ListsLong, ListsShortExactly, ListHolds, TracedAsUntraced, TracedUntouched, TracedAs, TracedAnswered}
use Rattle.agreement.proofs.BuffersHold.{lent-untouched, lent-entry, lent-unused}
use Rattle.agreement.proofs.Calls.{ran_call, run-answered}
use Rattle.agreement.proofs.CallsOnBytes.{ran-on-rows, run-answered-bytes}
use Rattle.agreement.proofs.Traces.{trace-length, trace-shows}

-- The two lists ----------------------------------------------------------------------------------------------------------------------

pub lists-short-exactly : ListsShortExactly
lists-short-exactly l = (to (ltb (length l.ready_counts) max_budget) refl, λ h. rw (le-ltb (length l.ready_counts) max_budget h.ready-counts, le-ltb (length l.taken_rows) max_budget h.taken-rows))
  where
    to : (t : Bool) → ltb (length l.ready_counts) max_budget ≡ t → (t || ltb (length l.taken_rows) max_budget) ≡ false → ListsLong l
    to true e h = absurd (false≢true (sym h))
    to false e h = record { ready-counts = ltb-false (length l.ready_counts) max_budget e; taken-rows = ltb-false (length l.taken_rows) max_budget h }

-- one of them holds numbers that it has room for
list-holds : (numbers old : List ℕ) → length numbers ≤ max_budget → max_budget ≤ length old → ListHolds numbers old (lent max_budget 0 numbers old)
list-holds numbers old few long =
    record {
      number = λ i n e. lent-entry max_budget 0 numbers old few i n e;
      unused = λ i h k. lent-unused max_budget 0 numbers old i h k;
      past = lent-untouched max_budget 0 numbers old long;
    }

long-lists : (l : TraceLists) → lists_too_short l ≡ false → lists_fault l ≡ none
unfolding lists_fault
long-lists l e = rw e

short-lists : (l : TraceLists) → lists_too_short l ≡ true → lists_fault l ≡ some (1, 0)
unfolding lists_fault
short-lists l e = rw e

no-fault : (l : TraceLists) → lists_fault l ≡ none → lists_too_short l ≡ false
unfolding lists_fault
no-fault l e = go (lists_too_short l) e
  where
    go : (t : Bool) → if_else {A = Option Refusal} t (some (1, 0)) none ≡ none → t ≡ false
    go true e = let z : ◌≡◌ {A = ℕ} 0 1 = cc in absurd (omega arith)
    go false e = refl

-- what the run of a task shows
abbrev shown_by : Task → List Shown
shown_by t = trace t.rows (readings t.rows t.sheet) t.choices t.budget

-- By the result of a call ------------------------------------------------------------------------------------------------------------

module _ (rows : List ℤ) (b : Buffers) (l : TraceLists) (shown : List Shown) (r : Result) where
  abbrev traced : Option Refusal → TracedReply
  traced o = traced_reply_of rows b l shown (unless o r)

  untraced : (lists_too_short l ≡ false → (traced (lists_fault l)).reply ≡ reply_of rows b r)
      × (lists_too_short l ≡ true → traced (lists_fault l) ≡ record { reply = record { answer = Refused 1 0; buffers = b }; lists = l })
  untraced = (λ e. rw (long-lists l e), λ e. rw (short-lists l e))

  leaves : (number place : ℕ) → (traced (lists_fault l)).reply.answer ≡ Refused number place
      → traced (lists_fault l) ≡ record { reply = record { answer = Refused number place; buffers = b }; lists = l }
  leaves number place e = go (unless (lists_fault l) r) e
    where
      go : (q : Result) → (reply_of rows b q).answer ≡ Refused number place → traced_reply_of rows b l shown q ≡ record { reply = record { answer = Refused number place; buffers = b }; lists = l }
      go (refused f) e = λ i. record { reply = record { answer = e i; buffers = b }; lists = l }
      go (ran q) e = let z : ◌≡◌ {A = ℕ} 0 1 = cc in absurd (omega arith)

  -- a run: the lists are long enough, the reply is that of the untraced call, and the lists hold the trace
  ran-lists : (o : Outcome) (n k : ℕ) → (traced (lists_fault l)).reply.answer ≡ Ran o n k
      → (lists_too_short l ≡ false) × ((traced (lists_fault l)).reply ≡ reply_of rows b r) × ((traced (lists_fault l)).lists ≡ listed shown l)
  ran-lists o n k e = go (lists_fault l) refl r e
    where
      go : (f : Option Refusal) → lists_fault l ≡ f → (q : Result) → (traced_reply_of rows b l shown (unless f q)).reply.answer ≡ Ran o n k
          → (lists_too_short l ≡ false) × ((traced_reply_of rows b l shown (unless f q)).reply ≡ reply_of rows b q) × ((traced_reply_of rows b l shown (unless f q)).lists ≡ listed shown l)
      go (some f) i q e = let z : ◌≡◌ {A = ℕ} 0 1 = cc in absurd (omega arith)
      go none i (refused f) e = let z : ◌≡◌ {A = ℕ} 0 1 = cc in absurd (omega arith)
      go none i (ran q) e = (no-fault l i, refl, refl)

-- The entries ------------------------------------------------------------------------------------------------------------------------

pub traced-as-untraced : TracedAsUntraced
unfolding reply_traced reply reply_to_bytes_traced reply_to_bytes
traced-as-untraced = (
  λ t b l. untraced t.rows b l (shown_by t) (result_of limits (on_rows t (some b))),
  λ table sheet choices budget b l. untraced (rows_of table) b l (shown_by (task_of_bytes table sheet choices budget)) (result_of limits (on_bytes table sheet choices budget (some b))),
)

pub traced-untouched : TracedUntouched
unfolding reply_traced reply_to_bytes_traced
traced-untouched = (
  λ t b l. leaves t.rows b l (shown_by t) (result_of limits (on_rows t (some b))),
  λ table sheet choices budget b l. leaves (rows_of table) b l (shown_by (task_of_bytes table sheet choices budget)) (result_of limits (on_bytes table sheet choices budget (some b))),
)

-- a run of so many steps is shown in lists that hold its trace
shown-in-lists : (t : Task) (b : Buffers) (l : TraceLists) (r : TracedReply) (o : Outcome) (n k : ℕ) → lists_too_short l ≡ false → RanAs t b r.reply o n k
    → (run t.rows (readings t.rows t.sheet) t.choices t.budget).steps ≡ n → r.lists ≡ listed (shown_by t) l → TracedAs t b l r o n k
unfolding listed
shown-in-lists t b l r o n k long a steps e =
    let shown = shown_by t in
    let both = (lists-short-exactly l).0 long in
    let sheet = readings t.rows t.sheet in
    let few : length shown ≤ max_budget = omega (arith, trace-length t.rows sheet t.choices t.budget, steps, a.steps-within, a.budget-allowed) in
    let counts = list-holds (map (λ (x : Shown). x.ready) shown) l.ready_counts (omega (arith, length-map shown (λ (x : Shown). x.ready), few)) both.ready-counts in
    let rows = list-holds (map (λ (x : Shown). x.row) shown) l.taken_rows (omega (arith, length-map shown (λ (x : Shown). x.row), few)) both.taken-rows in
    record {
      lists-long = both;
      run = a;
      shown = shown;
      shows = trace-shows t.rows a.table-accepted sheet t.choices t.budget a.labels a.end a.chosen (a.steps-taken ∙ sym steps);
      counts-held = subst (λ (j : TraceLists). ListHolds (map (λ (x : Shown). x.ready) shown) l.ready_counts j.ready_counts) (sym e) counts;
      rows-held = subst (λ (j : TraceLists). ListHolds (map (λ (x : Shown). x.row) shown) l.taken_rows j.taken_rows) (sym e) rows;
    }

pub traced-answered : TracedAnswered
unfolding reply_traced reply reply_to_bytes_traced reply_to_bytes
traced-answered = (on-rows, on-bytes)
  where
    on-rows : (t : Task) (b : Buffers) (l : TraceLists) (o : Outcome) (n k : ℕ) → (reply_traced t b l).reply.answer ≡ Ran o n k → TracedAs t b l (reply_traced t b l) o n k
    on-rows t b l o n k e =
        let (long, w, lists) = ran-lists t.rows b l (shown_by t) (result_of limits (on_rows t (some b))) o n k e in
        let h : (reply t b).answer ≡ Ran o n k = ap (λ (z : Reply). z.answer) (sym w) ∙ e in
        let a = subst (λ (z : Reply). RanAs t b z o n k) (sym w) (run-answered t b o n k h) in
        shown-in-lists t b l (reply_traced t b l) o n k long a (ran_call t b o n k h).2 lists

    on-bytes : (table sheet choices : List ℕ) (budget : ℕ) (b : Buffers) (l : TraceLists) (o : Outcome) (n k : ℕ) → (reply_to_bytes_traced table sheet choices budget b l).reply.answer ≡ Ran o n k
        → TracedAs (task_of_bytes table sheet choices budget) b l (reply_to_bytes_traced table sheet choices budget b l) o n k
    on-bytes table sheet choices budget b l o n k e =
        let t = task_of_bytes table sheet choices budget in
        let (long, w, lists) = ran-lists (rows_of table) b l (shown_by t) (result_of limits (on_bytes table sheet choices budget (some b))) o n k e in
        let h : (reply_to_bytes table sheet choices budget b).answer ≡ Ran o n k = ap (λ (z : Reply). z.answer) (sym w) ∙ e in
        let a = subst (λ (z : Reply). RanAs t b z o n k) (sym w) (run-answered-bytes table sheet choices budget b o n k h) in
        let (_, _, g) = ran-on-rows table sheet choices budget b o n k h in
        shown-in-lists t b l (reply_to_bytes_traced table sheet choices budget b l) o n k long a (ran_call t b o n k g).2 lists
