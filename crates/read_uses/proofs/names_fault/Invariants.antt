use Rattle.read_uses.proofs.NameSteps.{Checking}
use Rattle.read_uses.proofs.names_fault.Given as goal

abbrev pub invariant-loop-line : goal.invariant-loop-line
invariant-loop-line l = Checking l.text l.count l.kinds l.ends l.sorts l.initial.values l.line l.first l.seen l.values
