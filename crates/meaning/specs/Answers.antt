-- The verdicts, and the answer to a call with what it leaves in the lent buffers: made of the one list of stages.
use Rattle.std.specs.Prelude.{List, ◌++◌, map, ℕ, ℤ}
use Rattle.std.proofs.Math.Option.{Option, none, some}
use Rattle.meaning.specs.Refusals.{Refusal, Stage, first_fault}
use Rattle.meaning.specs.Stages.{Limits, limits, Table, of_numbers, of_bytes, rows_given, Call, in_rows, input_stages, stages_before_usage, table_stages, stages}
use Rattle.meaning.specs.Usage.{pairs_compared}
use Rattle.meaning.specs.Sheet.{readings}
use Rattle.meaning.specs.Buffers.{Buffers, encode}
use Rattle.meaning.specs.Run.{RunResult, run}
use Rattle.meaning.specs.declared.Answer.{Answer}
use Rattle.meaning.specs.declared.Answer.TheVariants.{Refused, Ran}
use Rattle.meaning.specs.declared.Verdict.{Verdict}
use Rattle.meaning.specs.declared.Verdict.TheVariants.{Accepted, Rejected}
use Rattle.meaning.specs.declared.Checked.{Checked}

-- the verdict on a table: "A table is accepted if these rules refuse nothing in it"
abbrev pub table_fault : Stage Table
table_fault t = first_fault table_stages t

-- on rows
unfoldable pub check : Stage (List ℤ)
check rows = table_fault (of_numbers rows)

-- on bytes
unfoldable pub check_bytes : Stage (List ℕ)
check_bytes table = table_fault (of_bytes table)

-- the verdict as the checker's public entries answer it
abbrev pub verdict_of : Option Refusal → Verdict
verdict_of none = Accepted
verdict_of (some f) = Rejected f.0 f.1

-- no pair is compared in a table that a stage before refuses
abbrev pub if_passed : Option Refusal → ℕ → ℕ
if_passed none k = k
if_passed (some f) k = 0

-- "the count of pairs compared" in a table
abbrev pub pairs_in : Table → ℕ
pairs_in t = let k = pairs_compared (rows_given t) in if_passed (first_fault (input_stages ++ map in_rows stages_before_usage) t) k

-- a verdict and the count "beside" it, as the public entries that count answer
abbrev pub checked : Option Refusal → ℕ → Checked
checked f k = record { verdict = verdict_of f; pairs = k }

-- on rows
unfoldable pub check_counted : List ℤ → Checked
check_counted rows = checked (check rows) (pairs_in (of_numbers rows))

-- on bytes
unfoldable pub check_bytes_counted : List ℕ → Checked
check_bytes_counted table = checked (check_bytes table) (pairs_in (of_bytes table))

-- a refusal, or a run
pub data Result : Type 0 where
  refused : Refusal → Result
  ran : RunResult → Result

-- by a refusal, if there is one
abbrev pub unless : Option Refusal → Result → Result
unless none r = r
unless (some f) r = refused f

-- the run of a call
abbrev pub run_of : Call → RunResult
run_of c = run (rows_given c.table) (readings (rows_given c.table) c.sheet) c.choices c.budget

-- the result of a call, within limits: the refusal of the first stage at fault, or else the run
abbrev pub result_of : Limits → Call → Result
result_of l c =
    let done = ran (run_of c) in
    unless (first_fault (stages l) c) done

-- what is to be run: rows, readings, choices and the budget
pub record Task : Type 0 where
  pub rows : List ℤ
  pub sheet : List ℕ
  pub choices : List ℕ
  pub budget : ℕ

-- a call on rows
abbrev pub on_rows : Task → Option Buffers → Call
on_rows t b = record { lent = b; table = of_numbers t.rows; sheet = t.sheet; choices = t.choices; budget = t.budget }

-- a call on a table's bytes
abbrev pub on_bytes : List ℕ → List ℕ → List ℕ → ℕ → Option Buffers → Call
on_bytes table sheet choices budget b = record { lent = b; table = of_bytes table; sheet = sheet; choices = choices; budget = budget }

-- the result of a task, with nothing lent
unfoldable pub result : Task → Result
result t = result_of limits (on_rows t none)

-- of a task whose table is bytes
unfoldable pub result_of_bytes : List ℕ → List ℕ → List ℕ → ℕ → Result
result_of_bytes table sheet choices budget = result_of limits (on_bytes table sheet choices budget none)

-- what a call answers and leaves in the lent buffers
pub record Reply : Type 0 where
  pub answer : Answer
  pub buffers : Buffers

-- "Refused calls write to no lent buffer"
abbrev pub reply_of : List ℤ → Buffers → Result → Reply
reply_of rows b (refused f) = record { answer = Refused f.0 f.1; buffers = b }
reply_of rows b (ran r) = record { answer = Ran r.outcome r.steps r.ready; buffers = encode rows r.state b }

-- the entry for rows lent as numbers
unfoldable pub reply : Task → Buffers → Reply
reply t b = reply_of t.rows b (result_of limits (on_rows t (some b)))

-- the entry for a table's bytes
unfoldable pub reply_to_bytes : List ℕ → List ℕ → List ℕ → ℕ → Buffers → Reply
reply_to_bytes table sheet choices budget b = reply_of (rows_given (of_bytes table)) b (result_of limits (on_bytes table sheet choices budget (some b)))
