-- What a run leaves in the seven lent buffers, position by position, and that results can be read back. The types name nothing of how `encode` is made.
use Rattle.std.specs.Prelude.{◌≡◌, ◌↔◌, true, false, List, [], ℕ, ◌+◌, ◌<◌, ◌≤◌, ℤ, pos, length, get_or}
use Rattle.std.proofs.Math.Option.{none, some}
use Rattle.std.proofs.Math.ListN.{get_elem?}
use Rattle.meaning.specs.declared.Outcome.{Outcome}
use Rattle.meaning.specs.declared.Answer.TheVariants.{Ran}
use Rattle.meaning.specs.Limits.{max_rows, max_cells, max_host_channels, max_capacity}
use Rattle.meaning.specs.Rows.{row_count}
use Rattle.meaning.specs.Declarations.{declarations, sum_below, has_role, host_channels_at, capacity_at, total_cells, host_channels}
use Rattle.meaning.specs.Values.{Message}
use Rattle.meaning.specs.State.{State}
use Rattle.meaning.specs.Readings.{Sheet}
use Rattle.meaning.specs.Buffers.{Buffers, too_short, encode}
use Rattle.meaning.specs.Decode.{decode}
use Rattle.meaning.specs.Answers.{Task, check, Reply, reply, reply_to_bytes}
use Rattle.agreement.specs.Statements.{Reached}
use Rattle.agreement.specs.CallClaims.{task_of_bytes, RanAs}

-- "Each lent buffer must be as long as its limit above"
pub record LongEnough (b : Buffers) : Type 0 where
  pub cells : max_cells ≤ length b.cells
  pub marks : max_cells ≤ length b.marks
  pub states : max_rows ≤ length b.states
  pub places : max_host_channels ≤ length b.places
  pub numbers : max_capacity ≤ length b.numbers
  pub counts : max_host_channels ≤ length b.counts
  pub output-marks : max_capacity ≤ length b.output_marks

abbrev pub TooShortExactly : Type 0
TooShortExactly = (b : Buffers) → (too_short b ≡ false) ↔ LongEnough b

-- Reached states ----------------------------------------------------------------------------------------------------------------

-- a state for each row, a message for each cell, a place for each role 1 channel, and for each role 2 channel a list of messages
pub record AsDeclared (rows : List ℤ) (s : State) : Type 0 where
  pub states : length s.states ≡ row_count rows
  pub cells : length s.store.cells ≡ total_cells rows
  pub places : length s.store.places ≡ host_channels 1 rows
  pub outputs : length s.store.outputs ≡ host_channels 2 rows

abbrev pub ReachedAsDeclared : Type 0
ReachedAsDeclared = (rows : List ℤ) (sheet : Sheet) (s : State) → check rows ≡ none → Reached rows sheet s → AsDeclared rows s

-- What the buffers hold ---------------------------------------------------------------------------------------------------------

-- position i of a list holds v
abbrev pub HoldsAt : {A : Type 0} → List A → ℕ → A → Type 0
HoldsAt l i v = get_elem? l i ≡ some v

-- "what is past the limit is untouched", and the buffer is as long as it was
pub record UntouchedPast {A : Type 0} (limit : ℕ) (before after : List A) : Type 0 where
  pub past-limit : (i : ℕ) → limit ≤ i → get_elem? after i ≡ get_elem? before i
  pub as_long : length after ≡ length before

module _ (rows : List ℤ) (r : ℕ) where
  -- row r declares a host output channel
  abbrev pub ToHost : Type 0
  ToHost = has_role 2 rows r ≡ true

  -- its number among those channels, "in row order"
  abbrev pub output_number : ℕ
  output_number = sum_below (host_channels_at 2 rows) r

  -- "A strip follows the one before it by capacity": the sum of the capacities that rows before it declare
  abbrev pub strip_begins : ℕ
  strip_begins = sum_below (capacity_at rows) r

  -- "An output channel's list is what its host writes passed"
  abbrev pub list_in : State → List Message
  list_in s = get_or s.store.outputs output_number []

-- "A run leaves cells, set marks, row states, places in the readings, and each output channel's strip and count, all in row order.
-- ... Unset cells and unused places hold 0": the buffers `after` a run that lent them as they were `before`
pub record BuffersHold (rows : List ℤ) (s : State) (before after : Buffers) : Type 0 where
  pub set-cell : (i : ℕ) (z : ℤ) → HoldsAt s.store.cells i (some z) → HoldsAt after.cells i z × HoldsAt after.marks i 1
  pub unset-cell : (i : ℕ) → HoldsAt s.store.cells i none → HoldsAt after.cells i (pos 0) × HoldsAt after.marks i 0
  pub unused-cell : (i : ℕ) → total_cells rows ≤ i → i < max_cells → HoldsAt after.cells i (pos 0) × HoldsAt after.marks i 0
  pub row-state : (r n : ℕ) → HoldsAt s.states r n → HoldsAt after.states r n
  pub unused-state : (r : ℕ) → row_count rows ≤ r → r < max_rows → HoldsAt after.states r 0
  pub place : (c n : ℕ) → HoldsAt s.store.places c n → HoldsAt after.places c n
  pub unused-place : (c : ℕ) → host_channels 1 rows ≤ c → c < max_host_channels → HoldsAt after.places c 0
  -- "the strip holds that list, and the count is its length"; "a set mark beside each value", and "an absence has mark 0 and value 0"
  pub strip : (r : ℕ) → ToHost rows r → (i : ℕ) (z : ℤ) → HoldsAt (list_in rows r s) i (some z)
      → HoldsAt after.numbers (strip_begins rows r + i) z × HoldsAt after.output_marks (strip_begins rows r + i) 1
  pub absence-in-strip : (r : ℕ) → ToHost rows r → (i : ℕ) → HoldsAt (list_in rows r s) i none
      → HoldsAt after.numbers (strip_begins rows r + i) (pos 0) × HoldsAt after.output_marks (strip_begins rows r + i) 0
  pub unused-in-strip : (r : ℕ) → ToHost rows r → (i : ℕ) → length (list_in rows r s) ≤ i → i < capacity_at rows r
      → HoldsAt after.numbers (strip_begins rows r + i) (pos 0) × HoldsAt after.output_marks (strip_begins rows r + i) 0
  pub unused-number : (i : ℕ) → strip_begins rows (declarations rows) ≤ i → i < max_capacity → HoldsAt after.numbers i (pos 0) × HoldsAt after.output_marks i 0
  pub count : (r : ℕ) → ToHost rows r → HoldsAt after.counts (output_number rows r) (length (list_in rows r s))
  pub unused-count : (c : ℕ) → host_channels 2 rows ≤ c → c < max_host_channels → HoldsAt after.counts c 0
  pub cells-past : UntouchedPast max_cells before.cells after.cells
  pub marks-past : UntouchedPast max_cells before.marks after.marks
  pub states-past : UntouchedPast max_rows before.states after.states
  pub places-past : UntouchedPast max_host_channels before.places after.places
  pub numbers-past : UntouchedPast max_capacity before.numbers after.numbers
  pub counts_past : UntouchedPast max_host_channels before.counts after.counts
  pub output-marks-past : UntouchedPast max_capacity before.output_marks after.output_marks

-- what `encode` leaves of a reached state holds it so, and nothing else does
abbrev pub EncodeHolds : Type 0
EncodeHolds = (rows : List ℤ) (sheet : Sheet) (s : State) → check rows ≡ none → Reached rows sheet s → (b : Buffers) → LongEnough b
    → BuffersHold rows s b (encode rows s b) × ((c : Buffers) → BuffersHold rows s b c → c ≡ encode rows s b)

-- Results can be read back ------------------------------------------------------------------------------------------------------

-- the state of a run comes back from the buffers
abbrev pub DecodedState : Type 0
DecodedState = (rows : List ℤ) (sheet : Sheet) (s : State) → check rows ≡ none → Reached rows sheet s → (b : Buffers) → decode rows (encode rows s b) ≡ s

-- so equal buffers mean equal states
abbrev pub EqualBuffers : Type 0
EqualBuffers = (rows : List ℤ) (sheet other : Sheet) (s t : State) → check rows ≡ none → Reached rows sheet s → Reached rows other t
    → (b c : Buffers) → encode rows s b ≡ encode rows t c → s ≡ t

-- a call that ran has left the state that its order comes to, and that state comes back
abbrev pub LeavesState : (Buffers → Reply) → Task → Type 0
LeavesState call t = (b : Buffers) (outcome : Outcome) (steps total : ℕ) → (call b).answer ≡ Ran outcome steps total
    → (run : RanAs t b (call b) outcome steps total) × BuffersHold t.rows run.end b (call b).buffers × (decode t.rows (call b).buffers ≡ run.end)

-- on rows, and on a table's bytes
abbrev pub ResultsReadBack : Type 0
ResultsReadBack = ((t : Task) → LeavesState (reply t) t)
    × ((table sheet choices : List ℕ) (budget : ℕ) → LeavesState (reply_to_bytes table sheet choices budget) (task_of_bytes table sheet choices budget))
