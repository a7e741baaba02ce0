-- `passed` meets its contract, by what the row is: an element passes what its cell holds, any other expression its value.
use mathlib.Core.Path.{refl, sym, ◌∙◌}
use Rattle.run_values.specs.Cells.{state_cells}
use Rattle.run_values.proofs.CodeValues.{cell-target, outside-target, element-target, element-passed, other-passed}
use Rattle.run_values.proofs.passed.Goals as goal

pub returns-in-2 : goal.returns-in-2
returns-in-2 c rows p =
    let is = (sym c.place.ensures ∙ c.in-2.is) in
    element-passed p c.args.r c.requires.inside (state_cells c.args.state.now) 2 is refl (cell-target p c.args.r c.requires.inside (state_cells c.args.state.now) is c.place-in-2.ensures) c.cell_sent.ensures

pub returns-in-3 : goal.returns-in-3
returns-in-3 c rows p =
    let is = (sym c.place.ensures ∙ c.in-3.is) in
    element-passed p c.args.r c.requires.inside (state_cells c.args.state.now) 3 is refl (outside-target p c.args.r c.requires.inside (state_cells c.args.state.now) is) refl

pub returns-in-4 : goal.returns-in-4
returns-in-4 c rows p =
    let is = (sym c.place.ensures ∙ c.in-4.is) in
    element-passed p c.args.r c.requires.inside (state_cells c.args.state.now) 4 is refl (element-target p c.args.r c.requires.inside (state_cells c.args.state.now) is (c.index.ensures rows p)) c.cell_sent-in-4.ensures

pub returns-in_default : goal.returns-in_default
returns-in_default c rows p =
    other-passed p c.args.r c.requires.inside (state_cells c.args.state.now) c.place.ensures c.in_default.in_default-own.rest.0.0.1 c.in_default.in_default-own.rest.0.1 c.in_default.in_default-own.rest.1 (c.eval.ensures rows p) c.value_sent.ensures
