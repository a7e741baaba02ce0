-- `assigned` meets its contract, by what the row is.
use mathlib.Core.Path.{sym, ◌∙◌}
use native.Mathlib.Omega.{arith}
use Rattle.run_values.specs.Cells.{state_cells}
use Rattle.run_values.proofs.CodeValues.{cell-assigned, element-assigned, other-assigned}
use Rattle.run_values.proofs.assigned.Goals as goal

pub index-requires : goal.index-requires
index-requires c =
    let what = c.place.ensures in
    let is = c.in-48.is in
    record { table = c.requires.table; inside = (c.requires.inside, omega arith) }

pub returns-in-46 : goal.returns-in-46
returns-in-46 c rows p =
    cell-assigned p c.args.r c.requires.inside (state_cells c.args.state.now) (sym c.place.ensures ∙ c.in-46.is) c.place-in-46.ensures

pub returns-in-48 : goal.returns-in-48
returns-in-48 c rows p =
    element-assigned p c.args.r c.requires.inside (state_cells c.args.state.now) (sym c.place.ensures ∙ c.in-48.is) (c.index.ensures rows p)

pub returns-in_default : goal.returns-in_default
returns-in_default c rows p =
    other-assigned p c.args.r c.requires.inside (state_cells c.args.state.now) c.place.ensures c.in_default.in_default-own.rest.0.1 c.in_default.in_default-own.rest.1
