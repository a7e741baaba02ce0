-- Coherent states: what holds of row states and data wherever an order comes. It is an invariant: the start has it, and every step keeps it.
use Rattle.std.specs.Prelude.{◌≡◌, ◌≢◌, ◌⊎◌, true, false, ℕ, ◌+◌, ◌≤◌, ℤ, length, get_or}
use mathlib.Core.List.{List, [], Memᴰ}
use Rattle.meaning.specs.Rows.{row_count}
use Rattle.meaning.specs.Declarations.{Variable, sink_at}
use Rattle.meaning.specs.Tree.{Expr, IfChoice, AltOption, Action, sequence, parallel, conditional, loop, alternation, block, Process, node, Processes, also, rows_in, rows_beneath}
use Rattle.meaning.specs.SettlingRules.{Among, All, Inside}
use Rattle.meaning.specs.State.{State, state_of, any_of, program, whole}
use Rattle.meaning.specs.Labels.{Label}
use Rattle.meaning.specs.Readings.{Sheet}
use Rattle.meaning.specs.Order.{is_stopped, OrderOf}
use Rattle.meaning.specs.Answers.{check}
use Rattle.std.proofs.Math.Option.{none}

-- the states of a row
pub data RowState : ℕ → Type 0 where
  idle : RowState 0
  running : RowState 1
  ended : RowState 2
  stopped : (reason : ℕ) → RowState (10 + reason)

-- one process stands before another
pub data Before (p q : Process) : Processes → Type 0 where
  before-first : {ms : Processes} → Among q ms → Before p q (also p ms)
  before-later : {o : Process} {ms : Processes} → Before p q ms → Before p q (also o ms)

module _ (s : List ℕ) where
  -- all these rows are idle
  abbrev pub AllIdle : List ℕ → Type 0
  AllIdle rs = (x : ℕ) → Memᴰ x rs → get_or s x 0 ≡ 0

  -- none of these rows is running or stopped
  abbrev pub NoneAtWork : List ℕ → Type 0
  NoneAtWork rs = (x : ℕ) → Memᴰ x rs → (get_or s x 0 ≡ 0) ⊎ (get_or s x 0 ≡ 2)

  -- processes that have ended, then at most one that is running or stopped, then idle ones: before one that is not idle all have ended
  abbrev pub OneByOne : Processes → Type 0
  OneByOne ms = (p q : Process) → Before p q ms → state_of s q ≢ 0 → state_of s p ≡ 2

  -- at most one is not idle
  abbrev pub AtMostOne : Processes → Type 0
  AtMostOne ms = (p q : Process) → Among p ms → Among q ms → state_of s p ≢ 0 → state_of s q ≢ 0 → p ≡ q

  -- the row states of a process and of all that stands in it
  pub record CoherentRows (whole : Process) : Type 0 where
    pub known-states : (x : ℕ) → RowState (get_or s x 0)
    pub beneath-idle : (a : Action) (r : ℕ) (ms : Processes) → Inside whole (node a r ms) → get_or s r 0 ≡ 0 → AllIdle (rows_beneath ms)
    pub beneath-ended : (a : Action) (r : ℕ) (ms : Processes) → Inside whole (node a r ms) → get_or s r 0 ≡ 2 → NoneAtWork (rows_beneath ms)
    pub beneath-stopped : (a : Action) (r : ℕ) (ms : Processes) → Inside whole (node a r ms) → (reason : ℕ) → get_or s r 0 ≡ 10 + reason → AllIdle (rows_beneath ms)
    -- a SEQ, and one that has ended
    pub in-sequence : (r : ℕ) (ms : Processes) → Inside whole (node sequence r ms) → OneByOne ms
    pub ended-sequence : (r : ℕ) (ms : Processes) → Inside whole (node sequence r ms) → get_or s r 0 ≡ 2 → All 2 s ms
    -- a block that has ended
    pub ended-block : (v : Variable) (r : ℕ) (ms : Processes) → Inside whole (node (block v) r ms) → get_or s r 0 ≡ 2 → All 2 s ms
    -- a PAR that has ended
    pub ended-parallel : (r : ℕ) (ms : Processes) → Inside whole (node parallel r ms) → get_or s r 0 ≡ 2 → All 2 s ms
    -- an IF, an ALT, a WHILE, and a WHILE that has ended
    pub in-conditional : (ts : List IfChoice) (r : ℕ) (ms : Processes) → Inside whole (node (conditional ts) r ms) → AtMostOne ms
    pub in-alternation : (bs : List AltOption) (r : ℕ) (ms : Processes) → Inside whole (node (alternation bs) r ms) → AtMostOne ms
    pub in-loop : (e : Expr) (b r : ℕ) (ms : Processes) → Inside whole (node (loop e b) r ms) → AtMostOne ms
    pub ended-loop : (e : Expr) (b r : ℕ) (ms : Processes) → Inside whole (node (loop e b) r ms) → get_or s r 0 ≡ 2 → AllIdle (rows_beneath ms)
    -- rows that are no process of the whole, such as those of guards
    pub no-process : (x : ℕ) → ¬ Memᴰ x (rows_in whole) → get_or s x 0 ≡ 0

pub record Coherent (rows : List ℤ) (sheet : Sheet) (s : State) : Type 0 where
  -- a state for each row
  pub size : length s.states ≡ row_count rows
  pub rows-coherent : CoherentRows s.states (whole (program rows))
  -- no channel has given more than its values
  pub places-left : (c : ℕ) → get_or s.store.places c 0 ≤ length (get_or sheet c [])
  -- no list is longer than the capacity of its channel, which row r declares
  pub room-kept : (r : ℕ) → (sink_at rows r).host ≡ true → length (get_or s.store.outputs (sink_at rows r).number []) ≤ (sink_at rows r).capacity

-- every state that an order of an accepted table reaches is coherent
abbrev pub OrdersCoherent : Type 0
OrdersCoherent = (rows : List ℤ) → check rows ≡ none → (sheet : Sheet) (l : List Label) (s : State) → OrderOf rows sheet l s → Coherent rows sheet s

-- in no such state has the root ended while a row is stopped
abbrev pub EndedOrBroken : Type 0
EndedOrBroken = (rows : List ℤ) → check rows ≡ none → (sheet : Sheet) (l : List Label) (s : State) → OrderOf rows sheet l s
    → get_or s.states (program rows).root 0 ≡ 2 → any_of is_stopped s.states ≡ false

-- in such a state all beneath a process is idle where the processes directly beneath it are
abbrev pub ProcessesTell : Type 0
ProcessesTell = (rows : List ℤ) → check rows ≡ none → (sheet : Sheet) (l : List Label) (s : State) → OrderOf rows sheet l s
    → (a : Action) (r : ℕ) (ms : Processes) → Inside (whole (program rows)) (node a r ms) → All 0 s.states ms → AllIdle s.states (rows_beneath ms)

-- "when a WHILE's body ends, every row beneath the WHILE becomes idle": in no such state has the body of a running WHILE ended
abbrev pub WhileReset : Type 0
WhileReset = (rows : List ℤ) → check rows ≡ none → (sheet : Sheet) (l : List Label) (s : State) → OrderOf rows sheet l s
    → (e : Expr) (b r : ℕ) (ms : Processes) → Inside (whole (program rows)) (node (loop e b) r ms) → get_or s.states r 0 ≡ 1
    → (body : Process) → Among body ms → state_of s.states body ≢ 2
