-- `target` meets its contract: its cells are changed and used, and its subscript stands in it.
use Rattle.base_sets.proofs.SetLaws.{three-calls}
use Rattle.check_components.proofs.ExprMarks.{target-marks}
use Rattle.check_components.proofs.target.Goals as goal

pub returns : goal.returns
returns c =
    three-calls _ _ _ _ c.cells.ensures c.cells-2.ensures c.expression.ensures (target-marks c.args.rows.now c.args.r c.operand.ensures)
