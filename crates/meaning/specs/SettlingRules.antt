-- Settling as rules on states, one for each phrase of the paper: each changes row states, and the start of a block cells.
use Rattle.std.specs.Prelude.{◌≡◌, List, ℕ, get_or, set}
use Rattle.meaning.specs.Declarations.{Variable}
use Rattle.meaning.specs.Tree.{Expr, IfChoice, AltOption, Action, skip, sequence, parallel, conditional, loop, alternation, block, Process, node, Processes, empty, also, row_of, rows_beneath}
use Rattle.meaning.specs.State.{State, state_of, make_idle, with_state, unset}

-- a process is one of some processes
pub data Among (q : Process) : Processes → Type 0 where
  among_first : {ms : Processes} → Among q (also q ms)
  among_later : {p : Process} {ms : Processes} → Among q ms → Among q (also p ms)

-- every one of them is in a state
pub data All (n : ℕ) (s : List ℕ) : Processes → Type 0 where
  all_none : All n s empty
  all_more : {p : Process} {ms : Processes} → state_of s p ≡ n → All n s ms → All n s (also p ms)

-- a process is the first of them that has not ended
pub data Next (s : List ℕ) (q : Process) : Processes → Type 0 where
  next_here : {ms : Processes} → Next s q (also q ms)
  next-after : {p : Process} {ms : Processes} → state_of s p ≡ 2 → Next s q ms → Next s q (also p ms)

-- a process is the whole process, or stands beneath it
pub data Inside (whole : Process) : Process → Type 0 where
  itself : Inside whole whole
  beneath : {a : Action} {r : ℕ} {ms : Processes} {q : Process} → Inside whole (node a r ms) → Among q ms → Inside whole q

-- a running process that stands in the whole process
abbrev pub Runs : Process → State → Action → ℕ → Processes → Type 0
Runs whole s a r ms = Inside whole (node a r ms) × (get_or s.states r 0 ≡ 1)

module _ (whole : Process) where
  -- one change of settling, from a state to a state
  pub data Settles (s : State) : State → Type 0 where
    -- "a started SKIP ends"
    skip-ends : {r : ℕ} {ms : Processes} → Runs whole s skip r ms → Settles s (with_state r 2 s)
    -- "a SEQ starts its first member, and each next when the last ends"
    seq-starts : {r : ℕ} {ms : Processes} {q : Process} → Runs whole s sequence r ms → Next s.states q ms → state_of s.states q ≡ 0
        → Settles s (with_state (row_of q) 1 s)
    -- "a PAR starts all"
    par-starts : {r : ℕ} {ms : Processes} {q : Process} → Runs whole s parallel r ms → Among q ms → state_of s.states q ≡ 0
        → Settles s (with_state (row_of q) 1 s)
    -- "both end when all members have ended, at once if none"
    seq-ends : {r : ℕ} {ms : Processes} → Runs whole s sequence r ms → All 2 s.states ms → Settles s (with_state r 2 s)
    par-ends : {r : ℕ} {ms : Processes} → Runs whole s parallel r ms → All 2 s.states ms → Settles s (with_state r 2 s)
    -- "an IF or ALT ends with its chosen process"
    if-ends : {ts : List IfChoice} {r : ℕ} {ms : Processes} {q : Process} → Runs whole s (conditional ts) r ms → Among q ms → state_of s.states q ≡ 2
        → Settles s (with_state r 2 s)
    alt-ends : {bs : List AltOption} {r : ℕ} {ms : Processes} {q : Process} → Runs whole s (alternation bs) r ms → Among q ms → state_of s.states q ≡ 2
        → Settles s (with_state r 2 s)
    -- "when a WHILE's body ends, every row beneath the WHILE becomes idle"
    while-again : {e : Expr} {b r : ℕ} {ms : Processes} {q : Process} → Runs whole s (loop e b) r ms → Among q ms → state_of s.states q ≡ 2
        → Settles s (record { states = make_idle (rows_beneath ms) s.states; store = s.store })
    -- of a block, "Starting it unsets all cells of the variable": a started block unsets them and starts its process
    block-starts : {v : Variable} {r : ℕ} {ms : Processes} {q : Process} → Runs whole s (block v) r ms → Next s.states q ms → state_of s.states q ≡ 0
        → Settles s (record { states = set s.states (row_of q) 1; store = unset v s.store })
    -- "it ends with its process"
    block-ends : {v : Variable} {r : ℕ} {ms : Processes} → Runs whole s (block v) r ms → All 2 s.states ms → Settles s (with_state r 2 s)

  -- any number of changes
  pub data Settling : State → State → Type 0 where
    no_change : {s : State} → Settling s s
    next-change : {s t u : State} → Settles s t → Settling t u → Settling s u

  -- no rule applies
  abbrev pub Final : State → Type 0
  Final s = (t : State) → ¬ Settles s t

  -- "after settling": where the rules lead, and none applies
  pub record SettlesTo (s t : State) : Type 0 where
    pub by-rules : Settling s t
    pub final : Final t
