use Rattle.read_counts.proofs.CountSteps.{Noted}
use Rattle.read_counts.proofs.own_rows.Given as goal

abbrev pub invariant-loop-line : goal.invariant-loop-line
invariant-loop-line l = Noted l.count l.kinds l.ends l.sorts l.initial.owns l.owns l.line l.first
