-- The demands about calls on texts: each statement that `agreement` makes of a call, for the entry that takes a text (`reply_to_text`).
use Rattle.std.specs.Prelude.{◌≡◌, ◌≢◌, ◌⊎◌, false, List, ℕ, suc, ◌≤◌, ◌<◌, ℤ, length}
use Rattle.std.proofs.Math.Option.{none, some}
use Rattle.meaning.specs.declared.Outcome.{Outcome}
use Rattle.meaning.specs.declared.Answer.TheVariants.{Refused, Ran}
use Rattle.meaning.specs.Limits.{max_rows}
use Rattle.meaning.specs.Lines.{lines}
use Rattle.meaning.specs.Refusals.{Refusal}
use Rattle.meaning.specs.Declarations.{declarations}
use Rattle.meaning.specs.State.{State}
use Rattle.meaning.specs.Labels.{Label}
use Rattle.meaning.specs.Sheet.{sheet_fault, readings}
use Rattle.meaning.specs.Buffers.{Buffers, too_short}
use Rattle.meaning.specs.Answers.{reply}
use Rattle.meaning.specs.Order.{OrderOf, RestOf}
use Rattle.agreement.specs.Statements.{NoAlt, OneRest, CallsAnswer}
use Rattle.agreement.specs.CallClaims.{LeavesBuffers, RefusesShort, RunsOrder, TakesOrder, KeepsMissing, KeepsAbsences}
use Rattle.agreement.specs.RefusalClaims.{TableRefusal, CallRefusal}
use Rattle.agreement.specs.BufferClaims.{LeavesState}
use Rattle.agreement.specs.CommonClaims.{RunsBegin, RunsMeet}
use Rattle.grammar.specs.TextRows.{text_rows}
use Rattle.grammar.specs.TextRead.{text_fault}
use Rattle.grammar.specs.TextCalls.{check_text, task_of_text, reply_to_text}

-- the answer to a text is the answer to its rows, or the refusal found in the text
abbrev pub TextAsRows : Type 0
TextAsRows = (text sheet choices : List ℕ) (budget : ℕ) (b : Buffers)
    → (text_fault text ≡ none → reply_to_text text sheet choices budget b ≡ reply (task_of_text text sheet choices budget) b)
    × ((f : Refusal) → too_short b ≡ false → text_fault text ≡ some f → reply_to_text text sheet choices budget b ≡ record { answer = Refused f.0 f.1; buffers = b })

-- "A refusal changes no buffer lent to us"
abbrev pub RefusedUntouchedText : Type 0
RefusedUntouchedText = (text sheet choices : List ℕ) (budget : ℕ) → LeavesBuffers (reply_to_text text sheet choices budget)

-- "a lent buffer is too short": refused by 1, whatever the text
abbrev pub ShortRefusedText : Type 0
ShortRefusedText = (text sheet choices : List ℕ) (budget : ℕ) → RefusesShort (reply_to_text text sheet choices budget)

-- a text that ran is not refused
abbrev pub RanUnrefusedText : Type 0
RanUnrefusedText = (text sheet choices : List ℕ) (budget : ℕ) (b : Buffers) (outcome : Outcome) (steps total : ℕ)
    → (reply_to_text text sheet choices budget b).answer ≡ Ran outcome steps total → text_fault text ≡ none

-- Refusals --------------------------------------------------------------------------------------------------------------------------

-- a refusal of a text itself: its number and its place
pub data TextRefusal (text : List ℕ) : ℕ → ℕ → Type 0 where
  -- 12, a line, "line 0" if too long, or the one after the last
  wrong-line : {line : ℕ} → line ≤ suc (length (lines text)) → TextRefusal text 12 line
  -- 13, a line
  misnamed-line : {line : ℕ} → 1 ≤ line → line ≤ length (lines text) → TextRefusal text 13 line
  -- 3, 1,024
  too_many_rows : TextRefusal text 3 max_rows

-- how the rows of a text that is read are refused: not with 2, 3 or 5, and with 4 only at a declaration ("[0]INT x:")
abbrev pub OfReadText : List ℤ → ℕ → ℕ → Type 0
OfReadText rows number place = (number ≢ 2) × (number ≢ 3) × (number ≢ 5) × (number ≡ 4 → place < declarations rows)

-- the verdict on a text refuses with one of these, or its rows with 4 (at a declaration), 6 to 9 or 14
abbrev pub TextRefused : Type 0
TextRefused = (text : List ℕ) (number place : ℕ) → check_text text ≡ some (number, place)
    → TextRefusal text number place ⊎ (TableRefusal (text_rows text) number place × OfReadText (text_rows text) number place)

-- a call on a text refuses with one of these, or as a call on its rows does, but never with 2, 3 or 5, and with 4 only at a declaration
abbrev pub TextCallRefused : Type 0
TextCallRefused = (text sheet choices : List ℕ) (budget : ℕ) (b : Buffers) (number place : ℕ)
    → (reply_to_text text sheet choices budget b).answer ≡ Refused number place
    → TextRefusal text number place ⊎ (CallRefusal (text_rows text) number place × OfReadText (text_rows text) number place)

-- Demand 2 --------------------------------------------------------------------------------------------------------------------------

-- every answered run is that of an order of allowed steps
abbrev pub RunAnsweredText : Type 0
RunAnsweredText = (text sheet choices : List ℕ) (budget : ℕ) → RunsOrder (reply_to_text text sheet choices budget) (task_of_text text sheet choices budget)

-- every order of at most 65,536 steps is that of a call with some 16-bit choices
abbrev pub OrderAnsweredText : Type 0
OrderAnsweredText = (text sheet : List ℕ) → check_text text ≡ none → sheet_fault (text_rows text) sheet ≡ none → TakesOrder (reply_to_text text sheet) (text_rows text) sheet

-- a run leaves the state that its order comes to, and that state can be read back
abbrev pub ReadBackText : Type 0
ReadBackText = (text sheet choices : List ℕ) (budget : ℕ) → LeavesState (reply_to_text text sheet choices budget) (task_of_text text sheet choices budget)

-- missing stays missing, in cells and in host outputs
abbrev pub MissingAnsweredText : Type 0
MissingAnsweredText = (text sheet choices : List ℕ) (budget : ℕ) → KeepsMissing (reply_to_text text sheet choices budget) (task_of_text text sheet choices budget)

abbrev pub ListsAnsweredText : Type 0
ListsAnsweredText = (text sheet choices : List ℕ) (budget : ℕ) → KeepsAbsences (reply_to_text text sheet choices budget) (task_of_text text sheet choices budget)

-- Demand 3 --------------------------------------------------------------------------------------------------------------------------

-- if one order comes to rest, no order is longer, each at rest ends there, and every call answers accordingly
abbrev pub Demand3Text : Type 0
Demand3Text = (text sheet : List ℕ) → check_text text ≡ none → sheet_fault (text_rows text) sheet ≡ none → NoAlt (text_rows text)
    → (l : List Label) (s : State) → OrderOf (text_rows text) (readings (text_rows text) sheet) l s → RestOf (text_rows text) (readings (text_rows text) sheet) s
    → OneRest (text_rows text) (readings (text_rows text) sheet) l s
    × CallsAnswer (λ choices budget b. reply_to_text text sheet choices budget b) (text_rows text) l s

-- request 14: what two calls leave in the strips, and that they can be gone on with to one result
abbrev pub CallsBeginText : Type 0
CallsBeginText = (text sheet : List ℕ) → NoAlt (text_rows text) → RunsBegin (text_rows text) (λ choices budget b. reply_to_text text sheet choices budget b)

abbrev pub CallsMeetText : Type 0
CallsMeetText = (text sheet : List ℕ) → NoAlt (text_rows text) → RunsMeet (λ choices budget b. reply_to_text text sheet choices budget b)
