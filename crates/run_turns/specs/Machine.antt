-- What the machine holds between two steps, and the one invariant that ties it to a state of the run's order.
use Rattle.std.specs.Prelude.{◌≡◌, List, ℕ, ◌-◌, ◌≤◌, ℤ, length, drop}
use Rattle.meaning.specs.State.{State, program, whole}
use Rattle.meaning.specs.Labels.{Label}
use Rattle.meaning.specs.Readings.{Sheet}
use Rattle.meaning.specs.Ready.{intent_at, ready}
use Rattle.meaning.specs.Order.{OrderOf}
use Rattle.meaning.specs.Run.{go, run}
use Rattle.meaning.specs.Trace.{TraceLists, trace, shown_from}
use Rattle.meaning.specs.Buffers.{Buffers}
use Rattle.machine.specs.Held.{HoldsState}
use Rattle.machine.specs.Counts.{kept_of, Counted}
use Rattle.run_notes.specs.declared.Notes.{Notes}
use Rattle.run_noted.specs.Noted.{noted_by}
use Rattle.run_turns.specs.Showing.{shown_from_place}

-- the arrays of its state; by row the members left of a running PAR; the rows that came to work last; what is noted of the rows at work
pub record Machine : Type 0 where
  pub arrays : Buffers
  pub left : List ℕ
  pub came : List ℕ
  pub notes : Notes

abbrev pub machine_of : Buffers → List ℕ → List ℕ → Notes → Machine
machine_of b l c m = record { arrays = b; left = l; came = c; notes = m }

-- the arrays hold state s, the counts of members left are right, and there is room for the rows that come to work and the blocks that start
pub record HeldAt (rows : List ℤ) (s : State) (b : Buffers) (left came : List ℕ) : Type 0 where
  pub holds : HoldsState rows s b
  pub left-size : 1024 ≤ length left
  pub came-size : 4098 ≤ length came
  pub counted : Counted (whole (program rows)) (kept_of b.states left came)

-- a run under way: after n steps it goes on from state s of an order, and the two lists of a traced run hold what the steps so far showed
pub record Underway (rows : List ℤ) (sheet : Sheet) (choices : List ℕ) (budget : ℕ) (first : TraceLists) (n : ℕ) (s : State) (lists : TraceLists) : Type 0 where
  pub labels : List Label
  pub order : OrderOf rows sheet labels s
  pub within : n ≤ budget
  pub goes : run rows sheet choices budget ≡ go (program rows) sheet (budget - n) n (drop n choices) s
  pub shows : shown_from_place 0 (trace rows sheet choices budget) first ≡ shown_from_place n (shown_from (program rows) sheet (budget - n) (drop n choices) s (ready (program rows) sheet s)) lists

-- the invariant: after n steps the machine holds a state of the run's order, and notes of each row what it would do there
pub record Stands (rows : List ℤ) (sheet : Sheet) (choices : List ℕ) (budget : ℕ) (first : TraceLists) (n : ℕ) (lists : TraceLists) (M : Machine) : Type 0 where
  pub state : State
  pub under : Underway rows sheet choices budget first n state lists
  pub held : HeldAt rows state M.arrays M.left M.came
  pub noted : M.notes ≡ noted_by rows (intent_at (program rows) sheet state)
