-- The demands about calls: what a reader of a public entry's contract (`reply`, `reply_to_bytes`) may conclude from an answer, as types.
use Rattle.std.specs.Prelude.{◌≡◌, ◌≢◌, ◌↔◌, true, false, ℕ, ◌+◌, ◌<◌, ◌≤◌, ℤ, pos, length, get_or}
use Rattle.std.proofs.Math.Option.{none, some}
use mathlib.Core.List.{List, ◌∷◌, ◌++◌, Memᴰ}
use Rattle.meaning.specs.declared.Outcome.{Outcome}
use Rattle.meaning.specs.declared.Outcome.TheVariants.{Spent}
use Rattle.meaning.specs.declared.Answer.TheVariants.{Refused, Ran}
use Rattle.meaning.specs.Limits.{max_budget, max_cells}
use Rattle.meaning.specs.Refusals.{Refusal}
use Rattle.meaning.specs.Rows.{row_count}
use Rattle.meaning.specs.Declarations.{has_role, sum_below, host_channels_at, capacity_at}
use Rattle.meaning.specs.Values.{Message}
use Rattle.meaning.specs.TableBytes.{bytes_fault, rows_of}
use Rattle.meaning.specs.State.{State, program}
use Rattle.meaning.specs.Labels.{Label}
use Rattle.meaning.specs.Sheet.{sheet_fault, readings}
use Rattle.meaning.specs.Buffers.{Buffers, too_short, encode}
use Rattle.meaning.specs.Answers.{Task, check, reply, reply_to_bytes, Reply}
use Rattle.meaning.specs.Order.{OrderOf, RestOf, outcome_of, ChosenOf}
use Rattle.agreement.specs.Statements.{StepOf, ReadyTotal}
use Rattle.agreement.specs.MissingClaims.{list_at, Delivers, WritesHost}

-- Each statement is made once of a call, as what it answers and leaves by the buffers lent to it, and then for the two entries: for a task
-- on rows, and for a table's bytes.

-- the task on the rows of a table's bytes
abbrev pub task_of_bytes : List ℕ → List ℕ → List ℕ → ℕ → Task
task_of_bytes table sheet choices budget = record { rows = rows_of table; sheet = sheet; choices = choices; budget = budget }

-- "A refusal changes no buffer lent to us"
abbrev pub LeavesBuffers : (Buffers → Reply) → Type 0
LeavesBuffers call = (b : Buffers) (number place : ℕ) → (call b).answer ≡ Refused number place → (call b).buffers ≡ b

abbrev pub RefusedUntouched : Type 0
RefusedUntouched = (t : Task) → LeavesBuffers (reply t)

abbrev pub RefusedUntouchedBytes : Type 0
RefusedUntouchedBytes = (table sheet choices : List ℕ) (budget : ℕ) → LeavesBuffers (reply_to_bytes table sheet choices budget)

-- "a lent buffer is too short": refused by 1, whatever else is at fault, faulty bytes included
abbrev pub RefusesShort : (Buffers → Reply) → Type 0
RefusesShort call = (b : Buffers) → too_short b ≡ true → call b ≡ record { answer = Refused 1 0; buffers = b }

abbrev pub ShortRefused : Type 0
ShortRefused = ((t : Task) → RefusesShort (reply t)) × ((table sheet choices : List ℕ) (budget : ℕ) → RefusesShort (reply_to_bytes table sheet choices budget))

-- the answer to a table's bytes is the answer to its rows, or the refusal found in the bytes
abbrev pub BytesAsRows : Type 0
BytesAsRows = (table sheet choices : List ℕ) (budget : ℕ) (b : Buffers)
    → (bytes_fault table ≡ none → reply_to_bytes table sheet choices budget b ≡ reply (record { rows = rows_of table; sheet = sheet; choices = choices; budget = budget }) b)
    × ((f : Refusal) → too_short b ≡ false → bytes_fault table ≡ some f → reply_to_bytes table sheet choices budget b ≡ record { answer = Refused f.0 f.1; buffers = b })

-- a call on this task ran, with this reply, outcome, steps and total of ready steps: nothing refuses it, and what it answers and leaves is that of one order of
-- steps, the one that its choices pick, up to rest or its budget
pub record RanAs (t : Task) (b : Buffers) (r : Reply) (outcome : Outcome) (steps total : ℕ) : Type 0 where
  pub buffers-long : too_short b ≡ false
  pub table-accepted : check t.rows ≡ none
  pub sheet-accepted : sheet_fault t.rows t.sheet ≡ none
  pub budget-allowed : t.budget ≤ max_budget
  pub labels : List Label
  pub end : State
  pub order : OrderOf t.rows (readings t.rows t.sheet) labels end
  pub chosen : ChosenOf t.rows (readings t.rows t.sheet) t.choices labels end
  pub steps-taken : length labels ≡ steps
  pub steps-within : steps ≤ t.budget
  pub left : r.buffers ≡ encode t.rows end b
  -- "rest is reported exactly if none is allowed"
  pub rest-exactly : (outcome ≢ Spent) ↔ RestOf t.rows (readings t.rows t.sheet) end
  pub rest-outcome : RestOf t.rows (readings t.rows t.sheet) end → outcome ≡ outcome_of t.rows end
  pub spent-exactly : (outcome ≡ Spent) ↔ ((steps ≡ t.budget) × ((x : Label) × ((s : State) × StepOf t.rows (readings t.rows t.sheet) end x s)))
  -- the total: how many steps are ready at its end, 0 exactly at rest, and no more than rows
  pub ready-total : ReadyTotal t.rows (readings t.rows t.sheet) end total
  pub rest-total : (total ≡ 0) ↔ RestOf t.rows (readings t.rows t.sheet) end
  pub total-within : total ≤ row_count t.rows

-- demand 2 about calls: every answered run is that of an order of allowed steps
abbrev pub RunsOrder : (Buffers → Reply) → Task → Type 0
RunsOrder call t = (b : Buffers) (outcome : Outcome) (steps total : ℕ) → (call b).answer ≡ Ran outcome steps total → RanAs t b (call b) outcome steps total

abbrev pub RunAnswered : Type 0
RunAnswered = (t : Task) → RunsOrder (reply t) t

abbrev pub RunAnsweredBytes : Type 0
RunAnsweredBytes = (table sheet choices : List ℕ) (budget : ℕ) → RunsOrder (reply_to_bytes table sheet choices budget) (task_of_bytes table sheet choices budget)

-- and the bytes of a table that ran are not refused
abbrev pub RanUnrefused : Type 0
RanUnrefused = (table sheet choices : List ℕ) (budget : ℕ) (b : Buffers) (outcome : Outcome) (steps total : ℕ)
    → (reply_to_bytes table sheet choices budget b).answer ≡ Ran outcome steps total → bytes_fault table ≡ none

-- demand 2 about calls: "Every step so allowed can be chosen": every order of at most 65,536 steps is that of a call with some 16-bit choices
abbrev pub TakesOrder : (List ℕ → ℕ → Buffers → Reply) → List ℤ → List ℕ → Type 0
TakesOrder call rows sheet = (l : List Label) (s : State) → OrderOf rows (readings rows sheet) l s → length l ≤ max_budget → (b : Buffers) → too_short b ≡ false
    → (choices : List ℕ) × ((c : ℕ) → Memᴰ c choices → c < 65536)
    × ((outcome : Outcome) × ((total : ℕ) × ReadyTotal rows (readings rows sheet) s total
    × (call choices (length l) b ≡ record { answer = Ran outcome (length l) total; buffers = encode rows s b })))

abbrev pub OrderAnswered : Type 0
OrderAnswered = (rows : List ℤ) (sheet : List ℕ) → check rows ≡ none → sheet_fault rows sheet ≡ none
    → TakesOrder (λ choices budget. reply (record { rows = rows; sheet = sheet; choices = choices; budget = budget })) rows sheet

abbrev pub OrderAnsweredBytes : Type 0
OrderAnsweredBytes = (table sheet : List ℕ) → bytes_fault table ≡ none → check (rows_of table) ≡ none → sheet_fault (rows_of table) sheet ≡ none
    → TakesOrder (reply_to_bytes table sheet) (rows_of table) sheet

-- a number stands in a cell after an order of steps: one of its steps handed it to that cell
pub record HandedTo (rows : List ℤ) (sheet : List ℕ) (l : List Label) (i : ℕ) (z : ℤ) : Type 0 where
  pub before : List Label
  pub label : Label
  pub later : List Label
  pub at : State
  pub parts : l ≡ before ++ (label ∷ later)
  pub order : OrderOf rows (readings rows sheet) before at
  pub handed : Delivers (program rows) (readings rows sheet) at label i (some z)

-- missing stays missing, about calls: after a run a cell's mark is 0 and its number 0, or its mark is 1 and its number was assigned or
-- input by a step of the order that the run took
abbrev pub HandedCells : Task → Buffers → Reply → Outcome → ℕ → ℕ → Type 0
HandedCells t b r outcome steps total = (run : RanAs t b r outcome steps total) × ((i : ℕ) → i < max_cells
    → let m = get_or r.buffers.marks i 0 in
    let z = get_or r.buffers.cells i (pos 0) in
    (m ≢ 0 → (m ≡ 1) × HandedTo t.rows t.sheet run.labels i z) × (m ≡ 0 → z ≡ pos 0))

abbrev pub KeepsMissing : (Buffers → Reply) → Task → Type 0
KeepsMissing call t = (b : Buffers) (outcome : Outcome) (steps total : ℕ) → (call b).answer ≡ Ran outcome steps total → HandedCells t b (call b) outcome steps total

abbrev pub MissingAnswered : Type 0
MissingAnswered = (t : Task) → KeepsMissing (reply t) t

abbrev pub MissingAnsweredBytes : Type 0
MissingAnsweredBytes = (table sheet choices : List ℕ) (budget : ℕ) → KeepsMissing (reply_to_bytes table sheet choices budget) (task_of_bytes table sheet choices budget)

-- a message stands in a host output list after an order of steps: one of its steps wrote it, when the list held the messages before it
pub record WrittenToHost (rows : List ℤ) (sheet : List ℕ) (l : List Label) (p i : ℕ) (m : Message) : Type 0 where
  pub before : List Label
  pub label : Label
  pub later : List Label
  pub at : State
  pub parts : l ≡ before ++ (label ∷ later)
  pub order : OrderOf rows (readings rows sheet) before at
  pub written : WritesHost (program rows) (readings rows sheet) at label p m
  pub held : length (list_at at p) ≡ i

-- the same of host outputs: after a run, of a role 2 channel declared at row c, each position of its strip below its count has mark 1 and a number
-- that a step of the order wrote to the channel at that place of its list, or mark 0 and number 0, and a step wrote the absence there
abbrev pub HandedLists : Task → Buffers → Reply → Outcome → ℕ → ℕ → Type 0
HandedLists t b r outcome steps total = (run : RanAs t b r outcome steps total) × ((c : ℕ) → has_role 2 t.rows c ≡ true
    → let p = sum_below (host_channels_at 2 t.rows) c in (i : ℕ) → i < get_or r.buffers.counts p 0
    → let m = get_or r.buffers.output_marks (sum_below (capacity_at t.rows) c + i) 0 in
    let z = get_or r.buffers.numbers (sum_below (capacity_at t.rows) c + i) (pos 0) in
    (m ≢ 0 → (m ≡ 1) × WrittenToHost t.rows t.sheet run.labels p i (some z)) × (m ≡ 0 → (z ≡ pos 0) × WrittenToHost t.rows t.sheet run.labels p i none))

abbrev pub KeepsAbsences : (Buffers → Reply) → Task → Type 0
KeepsAbsences call t = (b : Buffers) (outcome : Outcome) (steps total : ℕ) → (call b).answer ≡ Ran outcome steps total → HandedLists t b (call b) outcome steps total

abbrev pub ListsAnswered : Type 0
ListsAnswered = (t : Task) → KeepsAbsences (reply t) t

abbrev pub ListsAnsweredBytes : Type 0
ListsAnsweredBytes = (table sheet choices : List ℕ) (budget : ℕ) → KeepsAbsences (reply_to_bytes table sheet choices budget) (task_of_bytes table sheet choices budget)
