-- The loop keeps that the levels before the level may end. Assumes nothing.
use mathlib.Core.Path.{sym}
use native.Mathlib.Omega.{arith}
use Rattle.read_levels.proofs.EndedSteps.{ended-low, ended-fails, ended-all-passed, ended-next}
use Rattle.read_levels.proofs.ended_to.Goals as goal

pub loop-d-init : goal.loop-d-init
loop-d-init c = ended-low c.args.stack.now c.args.low c.args.low (omega arith)

pub returns-then-stack-d-ge-ONE_PROCESS : goal.returns-then-stack-d-ge-ONE_PROCESS
returns-then-stack-d-ge-ONE_PROCESS c = sym (ended-fails c.args.stack.now c.args.low c.args.depth c.loop-d.d (omega arith) c.loop-d-test.true c.if-stack-d-ge-ONE_PROCESS.true)

pub loop-d-preserved : goal.loop-d-preserved
loop-d-preserved c = ended-next c.args.stack.now c.args.low c.loop-d.d (omega arith) c.if-stack-d-ge-ONE_PROCESS.false c.loop-d.invariant

pub returns : goal.returns
returns c = sym (ended-all-passed c.args.stack.now c.args.low c.args.depth c.loop-d.d c.loop-d.auto.d-end c.loop-d-test.false c.loop-d.invariant)
