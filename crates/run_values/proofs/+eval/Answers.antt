-- `eval` meets its contract: by what the row is, from the values of its operands. An operand is a higher row, so the distance to row 1,025 falls.
use borrow.Author.Rules.{rules}
use mathlib.Core.Path.{sym, ap, ◌∙◌}
use native.Mathlib.Omega.{arith}
use mir.Syntax.{w32}
use mir.Val.{SFits}
use mir.ValLaws.{to_z-of_z}
use Rattle.meaning.specs.Values.{read_cell}
use Rattle.run_values.specs.Cells.{state_cells}
use Rattle.run_values.proofs.CodeValues as values
use Rattle.run_values.proofs.+eval.Goals as goal

pub eval-i-requires : goal.eval-i-requires
eval-i-requires t c =
    let a = values.subscript-higher c.requires.table.1 c.args.r c.requires.inside (sym c.place.ensures ∙ c.in-4.is) c.place-in-4.ensures in
    (omega (arith, c.decreases, a), (c.requires.table, a.1))

pub eval-requires : goal.eval-requires
eval-requires t c =
    let a = values.operand-higher c.requires.table.1 c.args.r c.requires.inside (sym c.place.ensures ∙ c.in-5.is) c.place-b.ensures in
    (omega (arith, c.decreases, a), (c.requires.table, a.1))

pub returns-then-op-ne2 : goal.returns-then-op-ne2
returns-then-op-ne2 t c =
    λ rows p. values.monadic-value p c.args.r c.requires.inside (state_cells c.args.state.now) (sym c.place.ensures ∙ c.in-5.is) c.place-op.ensures c.if-op-ne2.true c.place-b.ensures (c.eval.ensures rows p) c.monadic_of.ensures

pub place-requires-in-5 : goal.place-requires-in-5
place-requires-in-5 t c =
    let a = values.operand-higher c.requires.table.1 c.args.r c.requires.inside (sym c.place.ensures ∙ c.in-5.is) c.place-b.ensures in
    record { inside = (a.1, omega arith) }

pub fixed_cell-requires : goal.fixed_cell-requires
fixed_cell-requires t c =
    record { inside = (values.operand-higher c.requires.table.1 c.args.r c.requires.inside (sym c.place.ensures ∙ c.in-5.is) c.place-b.ensures).1 }

pub returns-then-place-ne4 : goal.returns-then-place-ne4
returns-then-place-ne4 t c =
    λ rows p. values.given-value p c.args.r c.requires.inside (state_cells c.args.state.now) (sym c.place.ensures ∙ c.in-5.is) c.place-op.ensures c.if-op-ne2.false c.place-b.ensures
    (values.fixed-target p _ (values.operand-higher p c.args.r c.requires.inside (sym c.place.ensures ∙ c.in-5.is) c.place-b.ensures).1 (state_cells c.args.state.now) c.place-in-5.ensures c.if-place-ne4.true c.fixed_cell.ensures) c.given.ensures

pub place-requires-in-5-2 : goal.place-requires-in-5-2
place-requires-in-5-2 t c =
    let a = values.operand-higher c.requires.table.1 c.args.r c.requires.inside (sym c.place.ensures ∙ c.in-5.is) c.place-b.ensures in
    record { inside = (a.1, omega arith) }

pub eval-i-requires-in-5 : goal.eval-i-requires-in-5
eval-i-requires-in-5 t c =
    let a = values.operand-higher c.requires.table.1 c.args.r c.requires.inside (sym c.place.ensures ∙ c.in-5.is) c.place-b.ensures in
    let b = values.subscript-higher c.requires.table.1 _ a.1 (sym c.place-in-5.ensures ∙ c.if-place-ne4.false) c.place-in-5-2.ensures in
    (omega (arith, c.decreases, a, b), (c.requires.table, b.1))

pub subscripted-requires-in-5 : goal.subscripted-requires-in-5
subscripted-requires-in-5 t c =
    record { table = c.requires.table; inside = (values.operand-higher c.requires.table.1 c.args.r c.requires.inside (sym c.place.ensures ∙ c.in-5.is) c.place-b.ensures).1 }

pub eval-v-requires : goal.eval-v-requires
eval-v-requires t c =
    let a = values.first-higher c.requires.table.1 c.args.r c.requires.inside (sym c.place.ensures ∙ c.in-6.is) c.place-in-6.ensures in
    (omega (arith, c.decreases, a), (c.requires.table, a.1))

pub returns-then-decides : goal.returns-then-decides
returns-then-decides t c =
    let f : SFits w32 c.in-Number.x = search rules in
    let d = rw (to_z-of_z w32 c.in-Number.x f) at c.decides.ensures in
    let e = rw (to_z-of_z w32 c.in-Number.x f) at c.decided.ensures in
    λ rows p. values.first-decides p c.args.r c.requires.inside (state_cells c.args.state.now) (sym c.place.ensures ∙ c.in-6.is) c.place-op-in-6.ensures c.place-in-6.ensures (c.eval-v.ensures rows p) c.in-Number.is (sym d ∙ c.if-decides.true) e

pub eval-requires-in-Number : goal.eval-requires-in-Number
eval-requires-in-Number t c =
    let a = values.second-higher c.requires.table.1 c.args.r c.requires.inside (sym c.place.ensures ∙ c.in-6.is) c.place-in-Number.ensures in
    (omega (arith, c.decreases, a), (c.requires.table, a.1))

pub returns-in-1 : goal.returns-in-1
returns-in-1 t c =
    λ rows p. values.literal-value p c.args.r c.requires.inside (state_cells c.args.state.now) (sym c.place.ensures ∙ c.in-1.is) (to_z-of_z w32 c.literal.result (record { sfits = c.literal.type_inv }) ∙ c.literal.ensures)

pub returns-in-2 : goal.returns-in-2
returns-in-2 t c =
    λ rows p. values.cell-value p c.args.r c.requires.inside (state_cells c.args.state.now) (sym c.place.ensures ∙ c.in-2.is) c.place-in-2.ensures c.cell.ensures

pub returns-in-3 : goal.returns-in-3
returns-in-3 t c =
    λ rows p. values.outside-value p c.args.r c.requires.inside (state_cells c.args.state.now) (sym c.place.ensures ∙ c.in-3.is)

pub returns-in-4 : goal.returns-in-4
returns-in-4 t c =
    λ rows p. values.element-value p c.args.r c.requires.inside (state_cells c.args.state.now) (sym c.place.ensures ∙ c.in-4.is) c.place-in-4.ensures (c.eval-i.ensures rows p) (c.cell_at.ensures ∙ ap (read_cell (state_cells c.args.state.now)) c.subscripted.ensures)

pub returns-else-place-ne4 : goal.returns-else-place-ne4
returns-else-place-ne4 t c =
    λ rows p. values.given-value p c.args.r c.requires.inside (state_cells c.args.state.now) (sym c.place.ensures ∙ c.in-5.is) c.place-op.ensures c.if-op-ne2.false c.place-b.ensures
    (values.element-index p _ (values.operand-higher p c.args.r c.requires.inside (sym c.place.ensures ∙ c.in-5.is) c.place-b.ensures).1 (state_cells c.args.state.now) (sym c.place-in-5.ensures ∙ c.if-place-ne4.false) c.place-in-5-2.ensures (c.eval-i-in-5.ensures rows p) c.subscripted-in-5.ensures) c.given-in-5.ensures

pub returns-in-Missing : goal.returns-in-Missing
returns-in-Missing t c =
    λ rows p. values.first-missing p c.args.r c.requires.inside (state_cells c.args.state.now) (sym c.place.ensures ∙ c.in-6.is) c.place-op-in-6.ensures c.place-in-6.ensures (c.eval-v.ensures rows p) c.in-Missing.is

pub returns-else-decides : goal.returns-else-decides
returns-else-decides t c =
    let f : SFits w32 c.in-Number.x = search rules in
    let d = rw (to_z-of_z w32 c.in-Number.x f) at c.decides.ensures in
    let e = rw (to_z-of_z w32 c.in-Number.x f) at c.dyadic_after.ensures in
    λ rows p. values.both-operands p c.args.r c.requires.inside (state_cells c.args.state.now) (sym c.place.ensures ∙ c.in-6.is) c.place-op-in-6.ensures c.place-in-6.ensures (c.eval-v.ensures rows p) c.in-Number.is (sym d ∙ c.if-decides.false) c.place-in-Number.ensures (c.eval-in-Number.ensures rows p) e

pub returns-in_default : goal.returns-in_default
returns-in_default t c =
    λ rows p. values.other-value p c.args.r c.requires.inside (state_cells c.args.state.now) c.place.ensures c.in_default.in_default-own.rest.0.0.0.0.0.1 c.in_default.in_default-own.rest.0.0.0.0.1 c.in_default.in_default-own.rest.0.0.0.1 c.in_default.in_default-own.rest.0.0.1 c.in_default.in_default-own.rest.0.1 c.in_default.in_default-own.rest.1
