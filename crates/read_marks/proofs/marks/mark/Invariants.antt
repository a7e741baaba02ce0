use Rattle.read_marks.proofs.MarkLoop.{MarkLoop}
use Rattle.read_marks.proofs.marks.mark.Given as goal

abbrev pub invariant-loop-k : goal.invariant-loop-k
invariant-loop-k l = MarkLoop l.sorts l.k l.depth l.had l.starts l.marks
