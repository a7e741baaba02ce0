-- Lists that have room for a trace: stored step by step from the first place on, over cleared lists, it stands there as the definition lists it.
use mathlib.Core.Path.{◌≡◌, refl}
use mathlib.Core.Bool.{Bool, true, false}
use mathlib.Core.Option.{Option, none, some}
use mathlib.Core.List.{List, [], ◌∷◌, map}
use Prim.Native.Nat.{ℕ, zero, suc, ◌≤◌}
use native.Mathlib.Omega.{arith}
use lib.IntN.{ℤ}
use lib.ListN.{length, drop, length-map}
use lib.Dec.{ltb}
use borrow.Author.Tests.{ltb-false, le-ltb}
use Rattle.meaning.specs.Basics.{if_else}
use Rattle.meaning.specs.Limits.{max_budget}
use Rattle.meaning.specs.Refusals.{Refusal}
use Rattle.meaning.specs.Stages.{budget_fault}
use Rattle.meaning.specs.State.{State, Program, program}
use Rattle.meaning.specs.Labels.{Label}
use Rattle.meaning.specs.Readings.{Sheet}
use Rattle.meaning.specs.Settle.{start}
use Rattle.meaning.specs.Ready.{ready, after}
use Rattle.meaning.specs.Order.{chosen_step}
use Rattle.meaning.specs.Run.{RunResult}
use Rattle.meaning.specs.Sheet.{sheet_fault, readings}
use Rattle.meaning.specs.Buffers.{lent}
use Rattle.meaning.specs.TableBytes.{bytes_fault, rows_of}
use Rattle.meaning.specs.Answers.{Result, ran, unless, check, Task, result, result_of_bytes}
use Rattle.meaning.specs.Trace.{Shown, shown_from, trace, TraceLists, listed, lists_after}
use Rattle.meaning.proofs.AnswerLaws.{result-stages, result-of-bytes}
use Rattle.run_turns.specs.Showing.{stored_from, lists_lent, shown_from_place}
use Rattle.run_trace.specs.Cleared.{cleared, lists_left}
use Rattle.run_trace.proofs.Lists.{stored-lent}

-- no more steps are shown than the budget allows
few-from : (P : Program) (sheet : Sheet) (b : ℕ) (choices : List ℕ) (s : State) (l : List Label) → length (shown_from P sheet b choices s l) ≤ b
unfolding shown_from
few-from P sheet zero choices s l = omega arith
few-from P sheet (suc b) choices s [] = omega arith
few-from P sheet (suc b) choices s (x ∷ l) =
    let t = after P sheet (chosen_step choices x l) s in
    omega (arith, few-from P sheet b (drop 1 choices) t (ready P sheet t))

few-shown : (rows : List ℤ) (sheet : Sheet) (choices : List ℕ) (budget : ℕ) → length (trace rows sheet choices budget) ≤ budget
unfolding trace
few-shown rows sheet choices budget = few-from (program rows) sheet budget choices (start (program rows)) (ready (program rows) sheet (start (program rows)))

-- a budget that is not refused
allowed : (budget : ℕ) → budget_fault max_budget budget ≡ none → budget ≤ max_budget
unfolding budget_fault
allowed budget e = go (ltb max_budget budget) refl e
  where
    go : (b : Bool) → ltb max_budget budget ≡ b → if_else {A = Option Refusal} b (some (11, 0)) none ≡ none → budget ≤ max_budget
    go true i h = absurd (let z : ◌≡◌ {A = ℕ} 0 1 = cc in omega arith)
    go false i h = ltb-false max_budget budget i

-- one list
number-listed : (f : Shown → ℕ) (shown : List Shown) (old : List ℕ) → max_budget ≤ length old → length shown ≤ max_budget → stored_from 0 (map f shown) (cleared old) ≡ lent max_budget 0 (map f shown) old
unfolding cleared
number-listed f shown old long few = rw (le-ltb (length old) max_budget long) (stored-lent max_budget (map f shown) old (omega (arith, length-map shown f)))

module _ (l : TraceLists) (long-counts : max_budget ≤ length l.ready_counts) (long-rows : max_budget ≤ length l.taken_rows) where
  -- both
  shown-listed : (shown : List Shown) → length shown ≤ max_budget → shown_from_place 0 shown (lists_lent (cleared l.ready_counts) (cleared l.taken_rows)) ≡ listed shown l
  unfolding listed
  shown-listed shown few = λ i. record {
    ready_counts = number-listed (λ (x : Shown). x.ready) shown l.ready_counts long-counts few i;
    taken_rows = number-listed (λ (x : Shown). x.row) shown l.taken_rows long-rows few i;
  }

  -- by a result that three stages may refuse, the last of them where too much would be shown
  left_by : (shown : List Shown) (a b c : Option Refusal) (q : RunResult) → (c ≡ none → length shown ≤ max_budget)
      → lists_left (unless a (unless b (unless c (ran q)))) shown l ≡ lists_after (unless a (unless b (unless c (ran q)))) shown l
  left_by shown (some f) b c q h = refl
  left_by shown none (some f) c q h = refl
  left_by shown none none (some f) q h = refl
  left_by shown none none none q h = shown-listed shown (h refl)

  pub lists-left : (t : Task) → let shown = trace t.rows (readings t.rows t.sheet) t.choices t.budget in lists_left (result t) shown l ≡ lists_after (result t) shown l
  lists-left t =
      rw (result-stages t) (left_by (trace t.rows (readings t.rows t.sheet) t.choices t.budget) (check t.rows) (sheet_fault t.rows t.sheet) (budget_fault max_budget t.budget) _ few)
    where
      few : budget_fault max_budget t.budget ≡ none → length (trace t.rows (readings t.rows t.sheet) t.choices t.budget) ≤ max_budget
      few e = omega (arith, few-shown t.rows (readings t.rows t.sheet) t.choices t.budget, allowed t.budget e)

  left-unless : (o : Option Refusal) (q : Result) (shown : List Shown) → lists_left q shown l ≡ lists_after q shown l → lists_left (unless o q) shown l ≡ lists_after (unless o q) shown l
  left-unless none q shown e = e
  left-unless (some f) q shown e = refl

  pub lists-left-by-bytes : (table sheet choices : List ℕ) (budget : ℕ)
      → let shown = trace (rows_of table) (readings (rows_of table) sheet) choices budget in
      lists_left (result_of_bytes table sheet choices budget) shown l ≡ lists_after (result_of_bytes table sheet choices budget) shown l
  lists-left-by-bytes table sheet choices budget =
      rw (result-of-bytes table sheet choices budget)
      (left-unless (bytes_fault table) _ (trace (rows_of table) (readings (rows_of table) sheet) choices budget) (lists-left (record { rows = rows_of table; sheet = sheet; choices = choices; budget = budget })))
