-- The state of a run: cells, places in the readings and output lists (data), and row states. What a step changes.
use Rattle.std.specs.Prelude.{Bool, false, ◌||◌, List, [], ◌∷◌, map, ℕ, zero, suc, ℤ, get_or, set, replicate}
use Rattle.std.proofs.Math.Option.{none}
use Rattle.meaning.specs.Declarations.{Variable, root, total_cells, host_channels}
use Rattle.meaning.specs.Tree.{Process, Content, contents, or_stop, row_of}
use Rattle.meaning.specs.Values.{Message}

-- cells, each none (unset) or a number; how many values each role 1 channel has given; what each role 2 channel has been given
pub record Store : Type 0 where
  pub cells : List Message
  pub places : List ℕ
  pub outputs : List (List Message)

-- the row states, by row: "idle (0), running (1), ended (2) or stopped (10 plus the reason)"; beside them the data
pub record State : Type 0 where
  pub states : List ℕ
  pub store : Store

-- the state of a process
abbrev pub state_of : List ℕ → Process → ℕ
state_of s p = get_or s (row_of p) 0

-- these rows become idle
abbrev pub make_idle : List ℕ → List ℕ → List ℕ
make_idle [] s = s
make_idle (r ∷ rs) s = make_idle rs (set s r 0)

-- whether some row state passes a test
abbrev pub any_of : (ℕ → Bool) → List ℕ → Bool
any_of f [] = false
any_of f (x ∷ l) = f x || any_of f l

-- what a run needs of a table: the process at each row (STOP where there is none), the root's row, and the sizes of a state
pub record Program : Type 0 where
  pub processes : List Process
  pub root : ℕ
  pub cells : ℕ
  pub inputs : ℕ
  pub outputs : ℕ

unfoldable pub program : List ℤ → Program
program rows =
    record {
      processes = map (λ (p : Content). or_stop p.process) (contents rows);
      root = root rows;
      cells = total_cells rows;
      inputs = host_channels 1 rows;
      outputs = host_channels 2 rows;
    }

module _ (P : Program) where
  -- the process at a row
  unfoldable pub process_at : ℕ → Process
  process_at r = get_or P.processes r (or_stop none)

  -- the whole process
  unfoldable pub whole : Process
  whole = process_at P.root

  -- "all cells are unset, nothing has been read from or written to the host"
  abbrev pub all_unset : Store
  all_unset = record { cells = replicate P.cells none; places = replicate P.inputs 0; outputs = replicate P.outputs [] }

-- a change of one cell, one place, one output list
pub data Write : Type 0 where
  write_cell : ℕ → Message → Write
  write_place : ℕ → ℕ → Write
  write_output : ℕ → List Message → Write

abbrev pub write : Write → Store → Store
write (write_cell a v) x = record { cells = set x.cells a v; places = x.places; outputs = x.outputs }
write (write_place a v) x = record { cells = x.cells; places = set x.places a v; outputs = x.outputs }
write (write_output a v) x = record { cells = x.cells; places = x.places; outputs = set x.outputs a v }

abbrev pub write_all : List Write → Store → Store
write_all [] x = x
write_all (w ∷ ws) x = write_all ws (write w x)

-- a change of the state of row `at` to `become`, which the running row `by` makes
pub record StateChange : Type 0 where
  pub by : ℕ
  pub at : ℕ
  pub become : ℕ

abbrev pub change_state : StateChange → List ℕ → List ℕ
change_state m s = set s m.at m.become

abbrev pub change_states : List StateChange → List ℕ → List ℕ
change_states [] s = s
change_states (m ∷ l) s = change_states l (change_state m s)

-- what a step does: changes of row states, changes of data
pub record Effect : Type 0 where
  pub changes : List StateChange
  pub writes : List Write

-- the changes of a step are made
abbrev pub changed : Effect → State → State
changed e s = record { states = change_states e.changes s.states; store = write_all e.writes s.store }

-- row r gets state n; nothing else changes
abbrev pub with_state : ℕ → ℕ → State → State
with_state r n s = record { states = set s.states r n; store = s.store }

-- n cells from a on become unset
abbrev pub unset_from : ℕ → ℕ → List Message → List Message
unset_from a zero cells = cells
unset_from a (suc n) cells = unset_from (suc a) n (set cells a none)

-- "unsets all cells of the variable"
abbrev pub unset : Variable → Store → Store
unset v x = record { cells = unset_from v.first v.size x.cells; places = x.places; outputs = x.outputs }

-- all cells of these variables become unset
abbrev pub unset_all : List Variable → Store → Store
unset_all [] x = x
unset_all (v ∷ vs) x = unset_all vs (unset v x)
