-- `of_input` meets its contract: the layout gives the channel that the input names.
use Rattle.base_sets.proofs.SetLaws.{three-calls}
use Rattle.check_components.proofs.ExprMarks.{of-input-marks}
use Rattle.check_components.proofs.NamedLaws.{source-named}
use Rattle.check_components.proofs.of_input.Goals as goal

pub returns : goal.returns
returns c =
    let v = source-named c.args.rows.now c.args.names.now c.requires.1.named c.args.r c.natural.ensures c.source_at-c.ensures in
    three-calls _ _ _ _ c.target_at.ensures c.expression.ensures c.count.ensures (of-input-marks c.args.rows.now c.args.r v.0 v.1 c.operand-e.ensures c.operand.ensures)
