use Rattle.read_uses.proofs.LineSteps.{Resolving}
use Rattle.read_uses.proofs.resolve_line.Given as goal

abbrev pub invariant-loop-at : goal.invariant-loop-at
invariant-loop-at l = Resolving l.text l.declares l.seen l.sorts l.initial.values l.mark l.at l.values
