-- `of_output` meets its contract: the layout gives the channel that the output names.
use Rattle.base_sets.proofs.SetLaws.{three-calls}
use Rattle.check_components.proofs.ExprMarks.{of-output-marks}
use Rattle.check_components.proofs.NamedLaws.{sink-named}
use Rattle.check_components.proofs.of_output.Goals as goal

pub returns : goal.returns
returns c =
    let v = sink-named c.args.rows.now c.args.names.now c.requires.1.named c.args.r c.natural.ensures c.sink_at-c.ensures in
    three-calls _ _ _ _ c.count.ensures c.expression.ensures c.expression-2.ensures (of-output-marks c.args.rows.now c.args.r v.0 v.1 c.operand-at.ensures c.operand.ensures)
