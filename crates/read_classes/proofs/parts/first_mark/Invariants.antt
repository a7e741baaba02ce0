use mathlib.Core.Path.{◌≡◌}
use Prim.Native.Nat.{◌+◌}
use lib.ListN.{drop}
use Rattle.read_classes.specs.Parts.{mark_at}
use Rattle.read_classes.proofs.parts.first_mark.Given as goal

abbrev pub invariant-loop-at : goal.invariant-loop-at
invariant-loop-at l = l.at + mark_at (drop l.at l.sorts) ≡ mark_at l.sorts
