use Prim.Native.Nat.{◌-◌}
use lib.ListN.{length}
use Rattle.read_sheet.proofs.SheetSteps.{Passed}
use Rattle.read_sheet.proofs.read_sheet.Given as goal

abbrev pub invariant-loop-at : goal.invariant-loop-at
invariant-loop-at l = Passed l.rows l.sheet l.initial.values l.initial.marks l.count l.first l.values l.marks l.line l.at

abbrev pub decreases-loop-at : goal.decreases-loop-at
decreases-loop-at l = length l.sheet - l.at
