use Rattle.read_sheet.proofs.LineSteps.{Halfway}
use Rattle.read_sheet.proofs.lines.read_line.Given as goal

abbrev pub invariant-loop-j : goal.invariant-loop-j
invariant-loop-j l = Halfway l.sheet l.from l.count l.line l.initial.values l.initial.marks l.values l.marks l.at l.j
