-- A task's result by the first stage that refuses: the table, then the sheet, then the budget; and the run where none does.
use mathlib.Core.Path.{◌≡◌}
use mathlib.Core.List.{List}
use mathlib.Core.Option.{none, some}
use Prim.Native.Nat.{ℕ, ◌≤◌, ◌<◌}
use lib.IntN.{ℤ}
use borrow.Author.Tests.{lt-ltb, le-ltb}
use Rattle.meaning.specs.TableBytes.{bytes_fault, rows_of}
use Rattle.meaning.specs.Sheet.{sheet_fault, readings}
use Rattle.meaning.specs.Run as meaning
use Rattle.meaning.specs.Run.{run}
use Rattle.meaning.specs.Stages.{budget_fault}
use Rattle.meaning.specs.Trace.{trace, TraceLists, TracedReply}
use Rattle.meaning.specs.Answers.{Task, Reply, refused, ran, reply_of, check, result, result_of_bytes}
use Rattle.meaning.specs.declared.Answer.TheVariants.{Refused, Ran}
use Rattle.meaning.proofs.AnswerLaws.{result-stages, result-of-bytes}
use Rattle.machine.specs.Held.{blank}
use Rattle.run_steps.specs.declared.result.Run.{Run}
use Rattle.run_steps.specs.Ran.{arrays_in, RunHeld}
use Rattle.run_turns.specs.Showing.{lists_lent, shown_from_place}
use Rattle.run_trace.specs.Cleared.{cleared}
use Rattle.call_tasks.specs.Tasks.{task_done, table_done}

module _ (rows : List ℤ) (sheet : List ℕ) (choices : List ℕ) (budget : ℕ) where
  -- what is to be run
  abbrev pub task : Task
  task = record { rows = rows; sheet = sheet; choices = choices; budget = budget }

  pub table-refused : (n p : ℕ) → check rows ≡ some (n, p) → result task ≡ refused (n, p)
  table-refused n p e = rw (result-stages task, e)

  module _ (ok : check rows ≡ none) where
    pub sheet-refused : (n p : ℕ) → sheet_fault rows sheet ≡ some (n, p) → result task ≡ refused (n, p)
    sheet-refused n p e = rw (result-stages task, ok, e)

    module _ (e : sheet_fault rows sheet ≡ none) where
      pub budget-refused : 65536 < budget → result task ≡ refused (11, 0)
      unfolding budget_fault
      budget-refused h = rw (result-stages task, ok, e, lt-ltb 65536 budget h)

      pub task-run : budget ≤ 65536 → result task ≡ ran (run rows (readings rows sheet) choices budget)
      unfolding budget_fault
      task-run h = rw (result-stages task, ok, e, le-ltb 65536 budget h)

module _ (table sheet choices : List ℕ) (budget : ℕ) where
  pub bytes-refused : (n p : ℕ) → bytes_fault table ≡ some (n, p) → result_of_bytes table sheet choices budget ≡ refused (n, p)
  bytes-refused n p e = rw (result-of-bytes table sheet choices budget, e)

  pub rows-done : bytes_fault table ≡ none → result_of_bytes table sheet choices budget ≡ result (task (rows_of table) sheet choices budget)
  rows-done e = rw (result-of-bytes table sheet choices budget, e)

-- what a run holds is the reply that it comes to
pub held-reply : (rows : List ℤ) (q : meaning.RunResult) (r : Run) → RunHeld rows q r → ◌≡◌ {A = Reply} (record { answer = Ran r.outcome r.steps r.ready; buffers = arrays_in r }) (reply_of rows blank (ran q))
held-reply rows q r h = λ i. record { answer = Ran (h.outcome i) (h.steps i) (h.ready i); buffers = h.arrays i }

-- a refusal leaves the lists; a run stores what it shows
module _ (t : Task) (l : TraceLists) (r : Reply) where
  pub task-refused : (n p : ℕ) → result t ≡ refused (n, p) → r ≡ record { answer = Refused n p; buffers = blank } → ◌≡◌ {A = TracedReply} (record { reply = r; lists = l }) (task_done t l)
  task-refused n p e h = rw (e, h)

  pub task-ran : (q : meaning.RunResult) (m : TraceLists) → result t ≡ ran q → r ≡ reply_of t.rows blank (ran q)
      → m ≡ shown_from_place 0 (trace t.rows (readings t.rows t.sheet) t.choices t.budget) (lists_lent (cleared l.ready_counts) (cleared l.taken_rows))
      → ◌≡◌ {A = TracedReply} (record { reply = r; lists = m }) (task_done t l)
  task-ran q m e h k = rw (e, h, k)

module _ (table sheet choices : List ℕ) (budget : ℕ) (l : TraceLists) where
  pub table-done-refused : (n p : ℕ) (r : Reply) → bytes_fault table ≡ some (n, p) → r ≡ record { answer = Refused n p; buffers = blank } → ◌≡◌ {A = TracedReply} (record { reply = r; lists = l }) (table_done table sheet choices budget l)
  table-done-refused n p r e h = rw (bytes-refused table sheet choices budget n p e, h)

  pub table-done-rows : bytes_fault table ≡ none → task_done (task (rows_of table) sheet choices budget) l ≡ table_done table sheet choices budget l
  table-done-rows e = rw (rows-done table sheet choices budget e)
