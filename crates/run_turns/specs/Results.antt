-- The outcome of a run at rest, and when an outcome, steps, a total and arrays are those of a result.
use Rattle.std.specs.Prelude.{◌≡◌, List, ℕ, ℤ, get_or, take, eqb}
use Rattle.meaning.specs.declared.Outcome.{Outcome}
use Rattle.meaning.specs.declared.Outcome.TheVariants.{Ended, Stuck, Broken}
use Rattle.meaning.specs.Basics.{if_else}
use Rattle.meaning.specs.State.{any_of}
use Rattle.meaning.specs.Order.{is_stopped}
use Rattle.meaning.specs.Run as meaning
use Rattle.meaning.specs.Buffers.{Buffers, encode}
use Rattle.machine.specs.Held.{blank}
use Rattle.run_values.specs.declared.store.State.{State}
use Rattle.run_changes.specs.declared.Outputs.{Outputs}

-- the outcome at rest of n rows, by their states
abbrev pub rest_outcome : ℕ → ℕ → List ℕ → Outcome
rest_outcome root n states = if_else (eqb (get_or states root 0) 2) Ended (if_else (any_of is_stopped (take n states)) Broken Stuck)

-- an outcome, a number of steps, a total of ready steps and arrays are those of a result
pub record ResultReached (rows : List ℤ) (q : meaning.RunResult) (o : Outcome) (n total : ℕ) (b : Buffers) : Type 0 where
  pub outcome : o ≡ q.outcome
  pub steps : n ≡ q.steps
  pub ready : total ≡ q.ready
  pub arrays : b ≡ encode rows q.state blank

-- the arrays of a run under way: those of its state, with the row states and the strips beside it
abbrev pub arrays_of : State → List ℕ → List ℤ → List ℕ → List ℕ → Buffers
arrays_of x states numbers counts output_marks =
    record { cells = x.values; marks = x.marks; states = states; places = x.places; numbers = numbers; counts = counts; output_marks = output_marks }

-- the same where the strips are what the run has given
abbrev pub arrays_with : State → List ℕ → Outputs → Buffers
arrays_with x states o = arrays_of x states o.numbers o.counts o.marks
