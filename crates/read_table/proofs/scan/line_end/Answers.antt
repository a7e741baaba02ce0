-- The loop keeps where the line ends. Assumes nothing.
use mathlib.Core.Path.{refl}
use native.Mathlib.Omega.{arith}
use Rattle.meaning.proofs.ScanLaws.{size-end, size-feed, size-more}
use Rattle.read_table.proofs.scan.line_end.Goals as goal

pub loop-at-init : goal.loop-at-init
loop-at-init c = refl

pub returns-then-bytes-at-eq10 : goal.returns-then-bytes-at-eq10
returns-then-bytes-at-eq10 c =
    let e = size-feed c.args.bytes.now c.loop-at.at c.loop-at-test.true c.if-bytes-at-eq10.true in
    omega (arith, c.loop-at.invariant)

pub loop-at-preserved : goal.loop-at-preserved
loop-at-preserved c =
    let e = size-more c.args.bytes.now c.loop-at.at c.loop-at-test.true c.if-bytes-at-eq10.false in
    omega (arith, c.loop-at.invariant)

pub returns : goal.returns
returns c =
    let bytes = c.args.bytes.now in
    let e = size-end bytes c.loop-at.at c.loop-at-test.false in
    grind (arith, size-end bytes c.args.from, e, c.loop-at.invariant)
