-- `target` meets its contract, by what the row is.
use mathlib.Core.Path.{sym, ◌∙◌}
use Rattle.run_values.specs.Cells.{state_cells}
use Rattle.run_values.proofs.CodeValues.{fixed-target, element-target}
use Rattle.run_values.proofs.target.Goals as goal

pub returns-then-place-ne4 : goal.returns-then-place-ne4
returns-then-place-ne4 c rows p =
    fixed-target p c.args.r c.requires.inside (state_cells c.args.state.now) c.place.ensures c.if-place-ne4.true c.fixed_cell.ensures

pub returns : goal.returns
returns c rows p =
    element-target p c.args.r c.requires.inside (state_cells c.args.state.now) (sym c.place.ensures ∙ c.if-place-ne4.false) (c.index.ensures rows p)
