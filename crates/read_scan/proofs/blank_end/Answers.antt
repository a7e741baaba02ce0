-- The loop keeps where the spaces end. Assumes nothing.
use mathlib.Core.Path.{refl, ◌∙◌}
use native.Mathlib.Omega.{arith}
use Rattle.read_scan.proofs.BlankSteps.{blanks-ended, blanks-stop, blanks-go-on}
use Rattle.read_scan.proofs.blank_end.Goals as goal

pub loop-at-init : goal.loop-at-init
loop-at-init c = refl

pub returns-then-line-at-ne32 : goal.returns-then-line-at-ne32
returns-then-line-at-ne32 c =
    let e = blanks-stop c.args.line.now c.loop-at.at (omega arith) c.if-line-at-ne32.true in
    omega arith

pub loop-at-preserved : goal.loop-at-preserved
loop-at-preserved c =
    let e = blanks-go-on c.args.line.now c.loop-at.at (omega arith) c.if-line-at-ne32.false in
    omega arith

pub returns : goal.returns
returns c = c.max.ensures ∙ blanks-ended c.args.line.now c.loop-at.at c.args.from c.loop-at.auto.at-end c.loop-at-test.false c.loop-at.invariant
