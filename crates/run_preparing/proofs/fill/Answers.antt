-- `fill` meets its contract. The loop's invariant: the list holds the numbers of the rows below r, and then zeros.
use mathlib.Core.Path.{sym, subst}
use Prim.Native.Nat.{◌+◌, ◌≤◌}
use native.Mathlib.Omega.{arith}
use Rattle.agreement.proofs.TableFit.{rows-limit}
use Rattle.run_code.proofs.RowKinds.{declarations-few}
use Rattle.run_preparing.specs.Notes.{Filled}
use Rattle.run_preparing.proofs.Filling.{whole, row_put_lem}
use Rattle.run_preparing.proofs.fill.Goals as goal

pub loop-r-init : goal.loop-r-init
loop-r-init c =
    let rows = c.args.rows.now in
    let e = c.declarations-r.ensures in (
      omega (arith, e, declarations-few rows),
      rows-limit rows c.requires.accepted,
      omega (arith, e),
      rw e c.requires.filled,
    )

pub row_at-row-requires : goal.row_at-row-requires
row_at-row-requires c =
    let l = c.loop-r in
    record { accepted = c.requires.accepted; filled = (l.invariant.2, c.loop-r-test.true, l.invariant.3); noted = c.requires.noted }

pub put-requires : goal.put-requires
put-requires c = let l = c.loop-r in omega (arith, l.invariant.1, c.loop-r-test.true)

pub loop-r-preserved : goal.loop-r-preserved
loop-r-preserved c =
    let l = c.loop-r in
    let rows = c.args.rows.now in
    let t = c.loop-r-test.true in
    let w = c.row_at-row in
    let h : l.r ≤ 1024 = omega (arith, l.invariant.1, t) in (
      omega (arith, t),
      l.invariant.1,
      omega (arith, l.invariant.2),
      subst (Filled rows (l.r + 1)) (sym c.put.ensures) (row_put_lem rows l.code l.r w.result w.ensures h l.invariant.3),
    )

pub returns : goal.returns
returns c =
    let l = c.loop-r in
    whole c.args.rows.now l.code l.r (omega (arith, c.loop-r-test.false)) (omega (arith, l.invariant.0, l.invariant.1)) l.invariant.3
