-- `in_all` meets its contract. The PARs before row r have been searched and have no clash; the measure is what is left of the rows.
use mathlib.Core.Path.{sym, ◌∙◌}
use native.Mathlib.Omega.{arith}
use Rattle.check_usage.proofs.FirstClash.{row-clashes, row-passes, rows_end}
use Rattle.check_usage.proofs.in_all.Goals as goal

pub returns-in-Err : goal.returns-in-Err
returns-in-Err c =
    let p = c.in_par.ensures in
    let most = rw c.in-Err.is at p.1 in
    (sym (c.loop-r.invariant.0 ∙ row-clashes c.args.rows.now c.args.number c.loop-r.r c.loop-r.pairs (omega arith) p.0 c.in-Err.is), omega (arith, most, c.loop-r.invariant.1, c.requires.0.few))

pub loop-r-preserved : goal.loop-r-preserved
loop-r-preserved c =
    let p = c.in_par in
    let most = rw c.in-Ok.is at p.ensures.1 in (
      c.loop-r.invariant.0 ∙ row-passes c.args.rows.now c.args.number c.loop-r.r c.loop-r.pairs (omega arith) p.ensures.0 c.in-Ok.is,
      omega (arith, most, c.loop-r.invariant.1),
      p.auto.members ∙ c.loop-r.invariant.2,
    )

pub returns : goal.returns
returns c =
    (sym (c.loop-r.invariant.0 ∙ rows_end c.args.rows.now c.args.number c.loop-r.r c.loop-r.pairs (omega arith)), omega (arith, c.loop-r.invariant.1, c.requires.0.few))
