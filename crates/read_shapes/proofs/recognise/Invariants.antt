use mathlib.Core.Path.{◌≡◌}
use Prim.Native.Nat.{◌≤◌, ◌<◌}
use Rattle.read_shapes.specs.Phrases.{phrase_in}
use Rattle.read_shapes.specs.Numbers.{kind_at}
use Rattle.read_shapes.proofs.RecogniseSteps.{answer_at}
use Rattle.read_shapes.proofs.recognise.Given as goal

abbrev pub invariant-loop-sort : goal.invariant-loop-sort
invariant-loop-sort l = (l.depth ≤ l.sort-index) × (l.kind < 8) × (answer_at l.sorts l.stack l.mode l.kind l.depth l.sort-index ≡ phrase_in (kind_at l.first) l.sorts)
