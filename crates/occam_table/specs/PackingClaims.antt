-- One number, one answer, as types: what a C caller may conclude from the number of an exported function.
use Rattle.std.specs.Prelude.{◌≡◌, List, ℕ, ◌≤◌, ℤ, Result, Ok, Err}
use Rattle.meaning.specs.Buffers.{Buffers}
use Rattle.meaning.specs.Answers.{Task, check, check_bytes, verdict_of, check_counted, check_bytes_counted, reply, reply_to_bytes}
use Rattle.meaning.specs.Trace.{TraceLists, reply_traced, reply_to_bytes_traced}
use Rattle.meaning.specs.declared.Answer.{Answer}
use Rattle.meaning.specs.declared.Answer.TheVariants.{Refused, Ran}
use Rattle.meaning.specs.declared.Verdict.{Verdict}
use Rattle.meaning.specs.declared.Verdict.TheVariants.{Accepted, Rejected}
use Rattle.meaning.specs.declared.Checked.{Checked}
use Rattle.grammar.specs.TextCalls.{check_text, reply_to_text}
use Rattle.read_text.specs.Reading.{text_read}
use Rattle.read_text.specs.declared.Refused as read
use Rattle.occam_table.specs.Packing.{verdict_number, checked_number, read_number, answer_number}

-- the answers that can be given: a run of 65,536 steps at most with 1,024 ready at most, or one of the numbered refusals, 1 to 14
abbrev pub PossibleAnswer : Answer → Type 0
PossibleAnswer (Refused number place) = (1 ≤ number) × (number ≤ 14)
PossibleAnswer (Ran outcome steps total) = (steps ≤ 65536) × (total ≤ 1024)

-- the verdicts that can be given: accepted, or one of the refusals 2 to 14
abbrev pub PossibleVerdict : Verdict → Type 0
PossibleVerdict Accepted = Unit {0}
PossibleVerdict (Rejected number place) = (2 ≤ number) × (number ≤ 14)

-- what reading a text can come to: 1,024 rows at most, or one of the refusals
abbrev pub PossibleRead : Result ℕ read.Refused → Type 0
PossibleRead (Ok n) = n ≤ 1024
PossibleRead (Err f) = (1 ≤ f.number) × (f.number ≤ 14)

-- with a count: the place of a refusal is at most 1,026
abbrev pub PlaceWithin : Verdict → Type 0
PlaceWithin Accepted = Unit {0}
PlaceWithin (Rejected number place) = place ≤ 1026

abbrev pub PossibleChecked : Checked → Type 0
PossibleChecked c = PossibleVerdict c.verdict × PlaceWithin c.verdict

-- two such answers with one number are one answer; so are two verdicts, alone or with their counts
abbrev pub AnswersTold : Type 0
AnswersTold = (a b : Answer) → PossibleAnswer a → PossibleAnswer b → answer_number a ≡ answer_number b → a ≡ b

abbrev pub VerdictsTold : Type 0
VerdictsTold = (v w : Verdict) → PossibleVerdict v → PossibleVerdict w → verdict_number v ≡ verdict_number w → v ≡ w

abbrev pub ChecksTold : Type 0
ChecksTold = (c d : Checked) → PossibleChecked c → PossibleChecked d → checked_number c ≡ checked_number d → c ≡ d

abbrev pub ReadsTold : Type 0
ReadsTold = (r s : Result ℕ read.Refused) → PossibleRead r → PossibleRead s → read_number r ≡ read_number s → r ≡ s

-- every call, traced or not, and every check, counted or not, gives such a one
abbrev pub CallsPossible : Type 0
CallsPossible = ((t : Task) (b : Buffers) → PossibleAnswer (reply t b).answer)
    × ((table sheet choices : List ℕ) (budget : ℕ) (b : Buffers) → PossibleAnswer (reply_to_bytes table sheet choices budget b).answer)

abbrev pub TracedPossible : Type 0
TracedPossible = ((t : Task) (b : Buffers) (l : TraceLists) → PossibleAnswer (reply_traced t b l).reply.answer)
    × ((table sheet choices : List ℕ) (budget : ℕ) (b : Buffers) (l : TraceLists) → PossibleAnswer (reply_to_bytes_traced table sheet choices budget b l).reply.answer)

abbrev pub ChecksPossible : Type 0
ChecksPossible = ((rows : List ℤ) → PossibleVerdict (verdict_of (check rows))) × ((table : List ℕ) → PossibleVerdict (verdict_of (check_bytes table)))

abbrev pub CountedPossible : Type 0
CountedPossible = ((rows : List ℤ) → PossibleChecked (check_counted rows)) × ((table : List ℕ) → PossibleChecked (check_bytes_counted table))

-- and so does every call on a text, its verdict, and its reading
abbrev pub TextsPossible : Type 0
TextsPossible = ((text : List ℕ) → PossibleVerdict (verdict_of (check_text text)))
    × ((text sheet choices : List ℕ) (budget : ℕ) (b : Buffers) → PossibleAnswer (reply_to_text text sheet choices budget b).answer)
    × ((text : List ℕ) (rows : List ℤ) → PossibleRead (text_read text rows).0)
