-- Calls on a text: the verdict, and the answer with what a call leaves in the lent buffers. 12, 13 and 3 stand "after 1", and before all that the rows are refused for.
use Rattle.std.specs.Prelude.{List, ℕ}
use Rattle.std.proofs.Math.Option.{Option, none, some}
use Rattle.meaning.specs.Refusals.{Refusal, Stage, either}
use Rattle.meaning.specs.Buffers.{Buffers}
use Rattle.meaning.specs.Stages.{buffer_fault}
use Rattle.meaning.specs.Answers.{check, Task, Reply, reply}
use Rattle.meaning.specs.declared.Answer.TheVariants.{Refused}
use Rattle.grammar.specs.TextRows.{text_rows}
use Rattle.grammar.specs.TextRead.{text_fault}

-- the verdict on a text: that of the text, then that on its rows
unfoldable pub check_text : Stage (List ℕ)
check_text text = let later = check (text_rows text) in either (text_fault text) later

-- what is to be run: the rows of a text, readings, choices and the budget
abbrev pub task_of_text : List ℕ → List ℕ → List ℕ → ℕ → Task
task_of_text text sheet choices budget = record { rows = text_rows text; sheet = sheet; choices = choices; budget = budget }

-- a refusal, if there is one, which leaves the lent buffers; or else a reply
abbrev pub reply_unless : Option Refusal → Buffers → Reply → Reply
reply_unless none b r = r
reply_unless (some f) b r = record { answer = Refused f.0 f.1; buffers = b }

-- 1; then 12, 13 and 3
abbrev pub fault_before_rows : List ℕ → Stage Buffers
fault_before_rows text b = let later = text_fault text in either (buffer_fault b) later

-- the entry for a text: those, or else the reply to its rows
unfoldable pub reply_to_text : List ℕ → List ℕ → List ℕ → ℕ → Buffers → Reply
reply_to_text text sheet choices budget b =
    let on_rows = reply (task_of_text text sheet choices budget) b in
    reply_unless (fault_before_rows text b) b on_rows
