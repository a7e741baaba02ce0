use Rattle.read_sheet.proofs.DecimalSteps.{Compared}
use Rattle.read_sheet.proofs.header.is_decimal.Given as goal

abbrev pub invariant-loop-rest : goal.invariant-loop-rest
invariant-loop-rest l = Compared l.field l.n l.at l.rest

abbrev pub decreases-loop-rest : goal.decreases-loop-rest
decreases-loop-rest l = l.rest
