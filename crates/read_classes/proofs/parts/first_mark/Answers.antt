-- The loop keeps where the first mark is: so many tokens on. Assumes nothing.
use native.Mathlib.Omega.{arith}
use Rattle.read_classes.proofs.MarkSteps.{mark-none, mark-here, mark-later}
use Rattle.read_classes.proofs.parts.first_mark.Goals as goal

pub returns-then-sort-ge-SKIP : goal.returns-then-sort-ge-SKIP
returns-then-sort-ge-SKIP c = mark-here c.args.sorts.now c.loop-at.at c.loop-at.invariant (omega arith) c.if-sort-ge-SKIP.true

pub loop-at-preserved : goal.loop-at-preserved
loop-at-preserved c = mark-later c.args.sorts.now c.loop-at.at c.loop-at.invariant (omega arith) c.if-sort-ge-SKIP.false

pub returns : goal.returns
returns c = let e = mark-none c.args.sorts.now c.loop-at.at c.loop-at.invariant (omega arith) in omega arith
