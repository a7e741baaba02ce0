-- `referred` meets its contract: the operand, or 1,024 where it is past the table.
use mathlib.Core.Path.{sym, ◌∙◌}
use Rattle.run_code.proofs.Referred.{present-here, present-past}
use Rattle.run_preparing.proofs.referred.Goals as goal

pub returns-then-n-rows : goal.returns-then-n-rows
returns-then-n-rows c =
    let e = c.operand-n.ensures in
    e ∙ sym (present-here c.args.rows.now _ (rw e at c.if-n-rows.true))

pub returns : goal.returns
returns c =
    let e = c.operand-n.ensures in
    sym (present-past c.args.rows.now _ (rw e at c.if-n-rows.false))
