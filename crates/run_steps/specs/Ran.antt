-- What a run leaves: the outcome, the length of its order, how many steps are ready after it, and the arrays that hold its last state.
use Rattle.std.specs.Prelude.{◌≡◌, List, ℕ, ℤ}
use Rattle.meaning.specs.Readings.{Sheet}
use Rattle.meaning.specs.Run as meaning
use Rattle.meaning.specs.Trace.{TraceLists, trace}
use Rattle.meaning.specs.Buffers.{Buffers, encode}
use Rattle.machine.specs.Held.{blank}
use Rattle.run_steps.specs.declared.result.Run.{Run}
use Rattle.run_turns.specs.Results.{arrays_with}
use Rattle.run_turns.specs.Showing.{shown_from_place}

-- the arrays of a run
abbrev pub arrays_in : Run → Buffers
arrays_in r = arrays_with r.state r.states r.outputs

-- a run has the outcome, the steps, the total and the state of a result
pub record RunHeld (rows : List ℤ) (q : meaning.RunResult) (r : Run) : Type 0 where
  pub outcome : r.outcome ≡ q.outcome
  pub steps : r.steps ≡ q.steps
  pub ready : r.ready ≡ q.ready
  pub arrays : arrays_in r ≡ encode rows q.state blank

-- a run is that of a table on a sheet, with these choices and this budget, and the two lists show its trace over what they held first
abbrev pub RunShown : List ℤ → Sheet → List ℕ → ℕ → Run → TraceLists → TraceLists → Type 0
RunShown rows sheet choices budget r first lists = RunHeld rows (meaning.run rows sheet choices budget) r × (lists ≡ shown_from_place 0 (trace rows sheet choices budget) first)
