-- `cells` meets its contract: the layout gives the variable that the row names.
use mathlib.Core.Path.{ap}
use Rattle.base_sets.specs.Sets.{in_sort}
use Rattle.base_sets.proofs.SetLaws.{one-call}
use Rattle.check_components.proofs.ExprMarks.{cells_are}
use Rattle.check_components.proofs.NamedLaws.{variable-named}
use Rattle.check_components.proofs.cells.Goals as goal

pub returns : goal.returns
returns c =
    let v = variable-named c.args.rows.now c.args.names.now c.requires.2.named c.args.r c.natural.ensures c.variable_at-v.ensures in
    one-call _ _ c.count.ensures (ap (in_sort c.args.sort) (cells_are c.args.rows.now c.args.r v.0 v.1 c.operand.ensures))
