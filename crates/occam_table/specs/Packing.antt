-- Answers as one number: the low 8 bits are the refusal's number, 0 for none; the next 8 the outcome's, 0 for none; the rest the place of a refusal, or
-- for a run its steps and, from bit 40 on, how many steps are ready after it. A check with its count has that from bit 32 on.
use Rattle.std.specs.Prelude.{ℕ, ◌+◌, ◌*◌, Result, Ok, Err}
use Rattle.meaning.specs.declared.Outcome.{Outcome}
use Rattle.meaning.specs.declared.Outcome.TheVariants.{Ended, Stuck, Broken, Spent}
use Rattle.meaning.specs.declared.Answer.{Answer}
use Rattle.meaning.specs.declared.Answer.TheVariants.{Refused, Ran}
use Rattle.meaning.specs.declared.Verdict.{Verdict}
use Rattle.meaning.specs.declared.Verdict.TheVariants.{Accepted, Rejected}
use Rattle.meaning.specs.declared.Checked.{Checked}
use Rattle.read_text.specs.declared.Refused as read

-- an outcome's number
abbrev pub outcome_number : Outcome → ℕ
outcome_number Ended = 1
outcome_number Stuck = 2
outcome_number Broken = 3
outcome_number Spent = 4

-- a verdict: 0, or a refusal's number with its place
abbrev pub verdict_number : Verdict → ℕ
verdict_number Accepted = 0
verdict_number (Rejected n p) = n + 65536 * p

-- a verdict and, by 2 to the 32, the count of pairs compared
abbrev pub checked_number : Checked → ℕ
checked_number c = verdict_number c.verdict + 4294967296 * c.pairs

-- what reading a text comes to: 0 with the count of rows, or a refusal's number with its place
abbrev pub read_number : Result ℕ read.Refused → ℕ
read_number (Ok n) = 65536 * n
read_number (Err f) = f.number + 65536 * f.place

-- an answer: a refusal's number with its place, or an outcome with its steps and, by 2 to the 40, the ready steps
abbrev pub answer_number : Answer → ℕ
answer_number (Refused n p) = n + 65536 * p
answer_number (Ran o k n) = 256 * outcome_number o + 65536 * k + 1099511627776 * n
