-- What a task comes to, with arrays of zeros lent and two lists of any length.
use Rattle.std.specs.Prelude.{◌≡◌, Result as Done, List, ℕ, ℤ}
use Rattle.std.proofs.Math.Option.{none}
use Rattle.meaning.specs.TableBytes.{rows_of}
use Rattle.meaning.specs.Sheet.{sheet_fault, readings}
use Rattle.meaning.specs.Answers.{Task, result, result_of_bytes, reply_of}
use Rattle.meaning.specs.Trace.{trace, TraceLists, TracedReply}
use Rattle.machine.specs.Held.{blank, KeptReadings}
use Rattle.run_steps.specs.declared.result.Run.{Run}
use Rattle.write_buffers.specs.declared.Refusal.{Refusal}
use Rattle.write_buffers.specs.Replies.{reply_in}
use Rattle.run_trace.specs.Cleared.{lists_left}

-- of rows
abbrev pub task_done : Task → TraceLists → TracedReply
task_done t l =
    record {
      reply = reply_of t.rows blank (result t);
      lists = lists_left (result t) (trace t.rows (readings t.rows t.sheet) t.choices t.budget) l;
    }

-- of a table's bytes
abbrev pub table_done : List ℕ → List ℕ → List ℕ → ℕ → TraceLists → TracedReply
table_done table sheet choices budget l =
    record {
      reply = reply_of (rows_of table) blank (result_of_bytes table sheet choices budget);
      lists = lists_left (result_of_bytes table sheet choices budget) (trace (rows_of table) (readings (rows_of table) sheet) choices budget) l;
    }

-- the task of rows, a sheet, choices and a budget
abbrev pub task_with : List ℤ → List ℕ → List ℕ → ℕ → Task
task_with rows sheet choices budget = record { rows = rows; sheet = sheet; choices = choices; budget = budget }

-- what is handed back, and the two lists, are what a task comes to; what the call of a table's bytes comes to
abbrev pub DoneAs : Task → Done Run Refusal → TraceLists → TraceLists → Type 0
DoneAs t d first lists = record { reply = reply_in d; lists = lists } ≡ task_done t first

abbrev pub TableDoneAs : List ℕ → List ℕ → List ℕ → ℕ → Done Run Refusal → TraceLists → TraceLists → Type 0
TableDoneAs table sheet choices budget d first lists = record { reply = reply_in d; lists = lists } ≡ table_done table sheet choices budget first

-- a sheet is not refused, and the arrays keep its readings
abbrev pub SheetKept : List ℤ → List ℕ → List ℤ → List ℕ → ℕ → Type 0
SheetKept rows sheet values given lines = (sheet_fault rows sheet ≡ none) × KeptReadings rows (readings rows sheet) values given lines
