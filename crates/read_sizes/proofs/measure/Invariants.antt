use mathlib.Core.List.{List}
use Prim.Native.Nat.{◌≤◌}
use Rattle.read_layout.specs.Standing.{Standing}
use Rattle.read_sizes.specs.Sizes.{Measured}
use Rattle.read_sizes.proofs.SumSteps.{SummedFrom}
use Rattle.read_sizes.proofs.measure.Given as goal

abbrev pub invariant-loop-at : goal.invariant-loop-at
invariant-loop-at l = (l.at ≤ l.count) × (l.count ≤ 1024) × ((ys : List Standing) → Measured l.kinds l.count l.levels l.owns ys → SummedFrom l.kinds l.levels l.owns ys l.at l.initial.beneath l.initial.after l.initial.rest l.beneath l.after l.rest l.left l.last)
