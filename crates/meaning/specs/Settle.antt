-- Settling as one walk over the process, and the blocks that start in that walk; the start of a run, and the state after a step, by both.
use Rattle.std.specs.Prelude.{Bool, true, false, ◌&&◌, List, [], ◌∷◌, ◌++◌, map, ℕ, zero, suc, set}
use Rattle.meaning.specs.Tree.{Action, stop, skip, sequence, parallel, assign, input, output, conditional, loop, alternation, block, Process, node, Processes, empty, also, row_of, rows_beneath}
use Rattle.meaning.specs.Declarations.{Variable}
use Rattle.meaning.specs.State.{State, Program, whole, state_of, make_idle, any_of, all_unset, Effect, changed, unset_all}

-- the state of each process
abbrev pub states_of : Processes → List ℕ → List ℕ
states_of empty s = []
states_of (also p ms) s = state_of s p ∷ states_of ms s

-- how a running process starts those beneath it: each in its turn, every one, or none without a step
pub data Mode : Type 0 where
  in_turn together by_step : Mode

abbrev pub mode : Action → Mode
mode stop = by_step
mode skip = in_turn
mode sequence = in_turn
mode parallel = together
mode (assign v e f) = by_step
mode (input i) = by_step
mode (output c e f) = by_step
mode (conditional ts) = by_step
mode (loop e b) = by_step
mode (alternation bs) = by_step
mode (block v) = in_turn

-- may an idle one be started
abbrev pub starts : Mode → Bool
starts in_turn = true
starts together = true
starts by_step = false

-- how the processes after one that is left in state n are walked
abbrev pub next_mode : Mode → ℕ → Mode
next_mode in_turn zero = by_step
next_mode in_turn (suc zero) = by_step
next_mode in_turn (suc (suc zero)) = in_turn
next_mode in_turn (suc (suc (suc n))) = by_step
next_mode together n = together
next_mode by_step n = by_step

abbrev pub is_ended : ℕ → Bool
is_ended zero = false
is_ended (suc zero) = false
is_ended (suc (suc zero)) = true
is_ended (suc (suc (suc n))) = false

-- idle or ended
abbrev pub is_idle_or_ended : ℕ → Bool
is_idle_or_ended zero = true
is_idle_or_ended (suc zero) = false
is_idle_or_ended (suc (suc zero)) = true
is_idle_or_ended (suc (suc (suc n))) = false

abbrev pub all_of : (ℕ → Bool) → List ℕ → Bool
all_of f [] = true
all_of f (x ∷ l) = f x && all_of f l

-- do these states close the process above: "when all members have ended"; of an IF, ALT or WHILE, when the one that was started has
abbrev pub complete : Mode → List ℕ → Bool
complete in_turn l = all_of is_ended l
complete together l = all_of is_ended l
complete by_step l = all_of is_idle_or_ended l && any_of is_ended l

-- does closing end the process; if not, "every row beneath the WHILE becomes idle"
abbrev pub ends_when_closed : Action → Bool
ends_when_closed stop = true
ends_when_closed skip = true
ends_when_closed sequence = true
ends_when_closed parallel = true
ends_when_closed (assign v e f) = true
ends_when_closed (input i) = true
ends_when_closed (output c e f) = true
ends_when_closed (conditional ts) = true
ends_when_closed (loop e b) = false
ends_when_closed (alternation bs) = true
ends_when_closed (block v) = true

abbrev pub closing : Bool → Bool → ℕ → List ℕ → List ℕ → List ℕ
closing true true r rs s = set s r 2
closing true false r rs s = make_idle rs s
closing false e r rs s = s

-- a process of state n at row r, which g settles once it is running
abbrev pub visit : ℕ → Bool → ℕ → (List ℕ → List ℕ) → List ℕ → List ℕ
visit zero true r g s = g (set s r 1)
visit zero false r g s = s
visit (suc zero) b r g s = g s
visit (suc (suc n)) b r g s = s

-- a running process settles; so do those beneath it, walked by a mode
unfoldable mutual
  pub settle_running : Process → List ℕ → List ℕ
  settle_running (node a r ms) s = let t = settle_each ms (mode a) s in let c = closing (complete (mode a) (states_of ms t)) (ends_when_closed a) r (rows_beneath ms) t in c

  pub settle_each : Processes → Mode → List ℕ → List ℕ
  settle_each empty m s = s
  settle_each (also p ms) m s = let t = visit (state_of s p) (starts m) (row_of p) (λ u. settle_running p u) s in settle_each ms (next_mode m (state_of t p)) t

-- a process that may be started is started if it is idle; a running one settles
unfoldable pub settle : Process → Bool → List ℕ → List ℕ
settle p b s = visit (state_of s p) b (row_of p) (settle_running p) s

-- the variable whose cells a process unsets when it starts one beneath it: a block's
abbrev pub local_of : Action → List Variable
local_of stop = []
local_of skip = []
local_of sequence = []
local_of parallel = []
local_of (assign v e f) = []
local_of (input i) = []
local_of (output c e f) = []
local_of (conditional ts) = []
local_of (loop e b) = []
local_of (alternation bs) = []
local_of (block v) = v ∷ []

-- these, where a process of state n is idle and may be started
abbrev pub if_started : ℕ → Bool → List Variable → List Variable
if_started zero true vs = vs
if_started zero false vs = []
if_started (suc n) b vs = []

-- the blocks that start where a process of state n at row r is visited, if g lists those of its settling once it is running
abbrev pub visit_begun : ℕ → Bool → ℕ → (List ℕ → List Variable) → List ℕ → List Variable
visit_begun zero true r g s = g (set s r 1)
visit_begun zero false r g s = []
visit_begun (suc zero) b r g s = g s
visit_begun (suc (suc n)) b r g s = []

-- the variables of the blocks that start, in the walk of settling, from row states s; vs are those of the process above
unfoldable mutual
  pub begun_running : Process → List ℕ → List Variable
  begun_running (node a r ms) s = begun_each ms (mode a) (local_of a) s

  pub begun_each : Processes → Mode → List Variable → List ℕ → List Variable
  begun_each empty m vs s = []
  begun_each (also p ms) m vs s =
      let t = settle p (starts m) s in
      if_started (state_of s p) (starts m) vs
      ++ (visit_begun (state_of s p) (starts m) (row_of p) (λ u. begun_running p u) s ++ begun_each ms (next_mode m (state_of t p)) vs t)

-- the same of a process that may be started
unfoldable pub begun : Process → Bool → List ℕ → List Variable
begun p b s = visit_begun (state_of s p) b (row_of p) (begun_running p) s

-- "from all process rows idle the root has started and settled"; all cells unset, nothing read or written
unfoldable pub start : Program → State
start P = record { states = settle (whole P) true (map (λ (p : Process). 0) P.processes); store = all_unset P }

-- "after settling": the changes are made, then the whole process settles, and the cells of the blocks that start in this become unset
unfoldable pub settled : Program → Effect → State → State
settled P e s =
    let c = changed e s in
    record { states = settle (whole P) false c.states; store = unset_all (begun (whole P) false c.states) c.store }
