use Rattle.read_counts.proofs.CountSteps.{Summed}
use Rattle.read_counts.proofs.count_rows.Given as goal

abbrev pub invariant-loop-line : goal.invariant-loop-line
invariant-loop-line l = Summed l.count l.kinds l.ends l.sorts l.rows l.line l.first
