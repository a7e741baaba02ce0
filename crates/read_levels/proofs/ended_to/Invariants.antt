use mathlib.Core.Path.{◌≡◌}
use mathlib.Core.Bool.{true}
use Rattle.read_levels.specs.Steps.{ended_to}
use Rattle.read_levels.proofs.ended_to.Given as goal

abbrev pub invariant-loop-d : goal.invariant-loop-d
invariant-loop-d l = ended_to l.stack l.low l.d ≡ true
