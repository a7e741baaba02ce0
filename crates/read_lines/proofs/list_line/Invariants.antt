use Prim.Native.Nat.{◌-◌}
use lib.ListN.{length}
use Rattle.read_lines.proofs.ListSteps.{Scanned}
use Rattle.read_lines.proofs.list_line.Given as goal

abbrev pub invariant-loop-place : goal.invariant-loop-place
invariant-loop-place l = Scanned l.text l.at l.first l.initial.sorts l.initial.values l.sorts l.values l.place l.count

abbrev pub decreases-loop-place : goal.decreases-loop-place
decreases-loop-place l = length l.text - l.place
