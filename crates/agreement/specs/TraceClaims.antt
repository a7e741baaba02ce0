-- What is claimed of the total of ready steps and of traced runs: by the rules of steps, what the numbers are, and what a traced call leaves.
use Rattle.std.specs.Prelude.{◌≡◌, ◌↔◌, true, false, List, ◌∷◌, ◌++◌, map, ℕ, ◌<◌, ◌≤◌, ℤ, length}
use Rattle.std.proofs.Math.Option.{none}
use Rattle.meaning.specs.declared.Outcome.{Outcome}
use Rattle.meaning.specs.declared.Answer.TheVariants.{Refused, Ran}
use Rattle.meaning.specs.Limits.{max_budget}
use Rattle.meaning.specs.Rows.{row_count}
use Rattle.meaning.specs.State.{State}
use Rattle.meaning.specs.Labels.{Label, order_row}
use Rattle.meaning.specs.Readings.{Sheet}
use Rattle.meaning.specs.Order.{OrderOf, ChosenOf, RestOf}
use Rattle.meaning.specs.Run.{run}
use Rattle.meaning.specs.Sheet.{readings}
use Rattle.meaning.specs.Buffers.{Buffers}
use Rattle.meaning.specs.Answers.{check, Task, Reply, reply, reply_to_bytes}
use Rattle.meaning.specs.Trace.{Shown, trace, TraceLists, lists_too_short, TracedReply, reply_traced, reply_to_bytes_traced}
use Rattle.agreement.specs.Statements.{Reached, ReadyTotal}
use Rattle.agreement.specs.CallClaims.{task_of_bytes, RanAs}
use Rattle.agreement.specs.BufferClaims.{HoldsAt, UntouchedPast}

-- The total ------------------------------------------------------------------------------------------------------------------------

-- where orders come, a state has one total of ready steps, no greater than the number of rows
abbrev pub OneTotal : Type 0
OneTotal = (rows : List ℤ) → check rows ≡ none → (sheet : Sheet) (s : State) → Reached rows sheet s
    → (total : ℕ) × ReadyTotal rows sheet s total × (total ≤ row_count rows) × ((other : ℕ) → ReadyTotal rows sheet s other → other ≡ total)

-- "At rest no step is ready": in every state the total is 0 exactly at rest
abbrev pub RestTotal : Type 0
RestTotal = (rows : List ℤ) (sheet : Sheet) (s : State) (total : ℕ) → ReadyTotal rows sheet s total → (total ≡ 0) ↔ RestOf rows sheet s

-- Traces ---------------------------------------------------------------------------------------------------------------------------

-- a trace has as many entries as the run has steps; of every table
abbrev pub TraceLength : Type 0
TraceLength = (rows : List ℤ) (sheet : Sheet) (choices : List ℕ) (budget : ℕ) → length (trace rows sheet choices budget) ≡ (run rows sheet choices budget).steps

-- an order of steps is shown: an entry for each step, with the row that orders it, and with the total of ready steps of the state in which
-- it is taken, which is the state that the steps before it come to
pub record Shows (rows : List ℤ) (sheet : Sheet) (l : List Label) (shown : List Shown) : Type 0 where
  pub entries : length shown ≡ length l
  pub taken-rows : map (λ (x : Shown). x.row) shown ≡ map order_row l
  pub ready-counts : (before later : List Label) (x : Label) → l ≡ before ++ (x ∷ later) → (s : State) → OrderOf rows sheet before s
      → (total : ℕ) × HoldsAt (map (λ (x : Shown). x.ready) shown) (length before) total × ReadyTotal rows sheet s total

-- a trace shows the order that the run takes: the one that its choices pick, as long as its steps (there is one by `RunTakesOrder`)
abbrev pub TraceShows : Type 0
TraceShows = (rows : List ℤ) → check rows ≡ none → (sheet : Sheet) (choices : List ℕ) (budget : ℕ) (l : List Label) (s : State)
    → ChosenOf rows sheet choices l s → length l ≡ (run rows sheet choices budget).steps → Shows rows sheet l (trace rows sheet choices budget)

-- Traced calls ---------------------------------------------------------------------------------------------------------------------

-- both lists have a place for every step that a budget allows
pub record ListsLong (l : TraceLists) : Type 0 where
  pub ready-counts : max_budget ≤ length l.ready_counts
  pub taken-rows : max_budget ≤ length l.taken_rows

abbrev pub ListsShortExactly : Type 0
ListsShortExactly = (l : TraceLists) → (lists_too_short l ≡ false) ↔ ListsLong l

-- a list `after` a run that lent it as it was `before` holds these numbers, then 0 up to place 65,536; past that it is untouched
pub record ListHolds (numbers before after : List ℕ) : Type 0 where
  pub number : (i n : ℕ) → HoldsAt numbers i n → HoldsAt after i n
  pub unused : (i : ℕ) → length numbers ≤ i → i < max_budget → HoldsAt after i 0
  pub past : UntouchedPast max_budget before after

-- a traced call answers and leaves what the untraced call does; where a list is too short it is refused by 1, and leaves all as it was
abbrev pub AnswersUntraced : (Buffers → TraceLists → TracedReply) → (Buffers → Reply) → Type 0
AnswersUntraced call untraced = (b : Buffers) (l : TraceLists)
    → (lists_too_short l ≡ false → (call b l).reply ≡ untraced b)
    × (lists_too_short l ≡ true → call b l ≡ record { reply = record { answer = Refused 1 0; buffers = b }; lists = l })

abbrev pub TracedAsUntraced : Type 0
TracedAsUntraced = ((t : Task) → AnswersUntraced (reply_traced t) (reply t))
    × ((table sheet choices : List ℕ) (budget : ℕ) → AnswersUntraced (reply_to_bytes_traced table sheet choices budget) (reply_to_bytes table sheet choices budget))

-- "A refusal changes no buffer lent to us", and neither list
abbrev pub LeavesLists : (Buffers → TraceLists → TracedReply) → Type 0
LeavesLists call = (b : Buffers) (l : TraceLists) (number place : ℕ) → (call b l).reply.answer ≡ Refused number place
    → call b l ≡ record { reply = record { answer = Refused number place; buffers = b }; lists = l }

abbrev pub TracedUntouched : Type 0
TracedUntouched = ((t : Task) → LeavesLists (reply_traced t))
    × ((table sheet choices : List ℕ) (budget : ℕ) → LeavesLists (reply_to_bytes_traced table sheet choices budget))

-- a traced call on this task ran: as an untraced one, by an order of steps, and that order is shown in the two lists
pub record TracedAs (t : Task) (b : Buffers) (l : TraceLists) (r : TracedReply) (outcome : Outcome) (steps total : ℕ) : Type 0 where
  pub lists-long : ListsLong l
  pub run : RanAs t b r.reply outcome steps total
  pub shown : List Shown
  pub shows : Shows t.rows (readings t.rows t.sheet) run.labels shown
  pub counts-held : ListHolds (map (λ (x : Shown). x.ready) shown) l.ready_counts r.lists.ready_counts
  pub rows-held : ListHolds (map (λ (x : Shown). x.row) shown) l.taken_rows r.lists.taken_rows

abbrev pub ShowsOrder : (Buffers → TraceLists → TracedReply) → Task → Type 0
ShowsOrder call t = (b : Buffers) (l : TraceLists) (outcome : Outcome) (steps total : ℕ) → (call b l).reply.answer ≡ Ran outcome steps total
    → TracedAs t b l (call b l) outcome steps total

-- on rows, and on a table's bytes
abbrev pub TracedAnswered : Type 0
TracedAnswered = ((t : Task) → ShowsOrder (reply_traced t) t)
    × ((table sheet choices : List ℕ) (budget : ℕ) → ShowsOrder (reply_to_bytes_traced table sheet choices budget) (task_of_bytes table sheet choices budget))
