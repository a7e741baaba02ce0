-- The loop keeps where the field ends. Assumes nothing.
use mathlib.Core.Path.{refl}
use native.Mathlib.Omega.{arith}
use Rattle.read_table.proofs.ScanSteps.{field-past-end, field-at-comma, field-at-feed, field-goes-on}
use Rattle.read_table.proofs.scan.field_end.Goals as goal
use Rattle.read_table.proofs.scan.field_end.Goals.{then-bytes-at-eq44-via-then-bytes-at-eq44, then-bytes-at-eq44-via-else-bytes-at-eq44+then-bytes-at-eq10}

pub loop-at-init : goal.loop-at-init
loop-at-init c = refl

pub returns-then-bytes-at-eq44 : goal.returns-then-bytes-at-eq44
returns-then-bytes-at-eq44 c =
    let bytes = c.args.bytes.now in
    elim c.then-bytes-at-eq44.branch [
      | then-bytes-at-eq44-via-then-bytes-at-eq44 w ↦
          let e = field-at-comma bytes c.loop-at.at c.loop-at-test.true w.if-bytes-at-eq44.true in
          omega (arith, c.loop-at.invariant)
      | then-bytes-at-eq44-via-else-bytes-at-eq44+then-bytes-at-eq10 w ↦
          let e = field-at-feed bytes c.loop-at.at c.loop-at-test.true w.if-bytes-at-eq44.false w.if-bytes-at-eq10.true in
          omega (arith, c.loop-at.invariant)
    ]

pub loop-at-preserved : goal.loop-at-preserved
loop-at-preserved c =
    let e = field-goes-on c.args.bytes.now c.loop-at.at c.loop-at-test.true c.if-bytes-at-eq44.false c.if-bytes-at-eq10.false in
    omega (arith, c.loop-at.invariant)

pub returns : goal.returns
returns c =
    let bytes = c.args.bytes.now in
    let e = field-past-end bytes c.loop-at.at c.loop-at-test.false in
    grind (arith, field-past-end bytes c.args.from, e, c.loop-at.invariant)
