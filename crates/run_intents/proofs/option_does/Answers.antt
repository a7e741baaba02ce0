-- `option_does` meets its contract, by what the guard's row is and by its boolean.
use Rattle.run_intents.proofs.Guards.{guard-inside, guarded-bare, option-bare, option-stops, option-closed, option-open}
use Rattle.run_code.proofs.Inside.{first-inside}
use Rattle.run_values.specs.Cells.{state_cells}
use mathlib.Core.Path.{sym, ◌∙◌}
use native.Mathlib.Omega.{arith}
use mir.ValLaws.{to_z-of_z}
use mir.Val.{SFits}
use mir.Syntax.{w32}
use borrow.Author.Rules.{rules}
use Rattle.run_intents.proofs.option_does.Goals as goal

pub place-requires : goal.place-requires
place-requires c =
    record { inside = (guard-inside c.requires.table.1 c.args.j c.requires.row.0 c.requires.row.1 c.place-g.ensures, omega arith) }

pub guarded-requires-clause-bare : goal.guarded-requires-clause-bare
guarded-requires-clause-bare c = (guard-inside c.requires.table.1 c.args.j c.requires.row.0 c.requires.row.1 c.place-g.ensures, λ e. c.if-place-ne43.true (c.place.ensures ∙ e))

pub returns-then-place-ne43 : goal.returns-then-place-ne43
returns-then-place-ne43 c =
    λ rows p. option-bare p c.args.lines (state_cells c.args.state.now) c.args.state.now.places c.args.j c.requires.row.0 c.requires.row.1 c.place-g.ensures c.place-process.ensures (c.guarded.ensures rows p)

pub place-requires-2 : goal.place-requires-2
place-requires-2 c =
    record { inside = (guard-inside c.requires.table.1 c.args.j c.requires.row.0 c.requires.row.1 c.place-g.ensures, omega arith) }

pub eval-v-requires-clause-inside : goal.eval-v-requires-clause-inside
eval-v-requires-clause-inside c = rw c.place-2.ensures (first-inside c.requires.table.1 _ (guard-inside c.requires.table.1 c.args.j c.requires.row.0 c.requires.row.1 c.place-g.ensures))

pub place-requires-then-is_true : goal.place-requires-then-is_true
place-requires-then-is_true c =
    record { inside = (guard-inside c.requires.table.1 c.args.j c.requires.row.0 c.requires.row.1 c.place-g.ensures, omega arith) }

pub guarded-requires-then-is_true-clause-bare : goal.guarded-requires-then-is_true-clause-bare
guarded-requires-then-is_true-clause-bare c = guarded-bare c.requires.table.1 _ (guard-inside c.requires.table.1 c.args.j c.requires.row.0 c.requires.row.1 c.place-g.ensures) c.place.ensures c.if-place-ne43.false c.place-then-is_true.ensures

pub returns-then-is_true : goal.returns-then-is_true
returns-then-is_true c =
    let f : SFits w32 c.in-Number.x = search rules in
    let d = rw (to_z-of_z w32 c.in-Number.x f) at c.is_true.ensures in
    λ rows p. option-open p c.args.lines (state_cells c.args.state.now) c.args.state.now.places c.args.j c.requires.row.0 c.requires.row.1 c.place-g.ensures c.place-process.ensures (guard-inside c.requires.table.1 c.args.j c.requires.row.0 c.requires.row.1 c.place-g.ensures) c.place.ensures c.if-place-ne43.false c.place-2.ensures (c.eval-v.ensures rows p) c.in-Number.is (sym d ∙ c.if-is_true.true) c.place-then-is_true.ensures (c.guarded-then-is_true.ensures rows p)

pub returns-in-Missing : goal.returns-in-Missing
returns-in-Missing c =
    λ rows p. option-stops p c.args.lines (state_cells c.args.state.now) c.args.state.now.places c.args.j c.requires.row.0 c.requires.row.1 c.place-g.ensures c.place-process.ensures (guard-inside c.requires.table.1 c.args.j c.requires.row.0 c.requires.row.1 c.place-g.ensures) c.place.ensures c.if-place-ne43.false c.place-2.ensures (c.eval-v.ensures rows p) c.in-Missing.is

pub returns-else-is_true : goal.returns-else-is_true
returns-else-is_true c =
    let f : SFits w32 c.in-Number.x = search rules in
    let d = rw (to_z-of_z w32 c.in-Number.x f) at c.is_true.ensures in
    λ rows p. option-closed p c.args.lines (state_cells c.args.state.now) c.args.state.now.places c.args.j c.requires.row.0 c.requires.row.1 c.place-g.ensures c.place-process.ensures (guard-inside c.requires.table.1 c.args.j c.requires.row.0 c.requires.row.1 c.place-g.ensures) c.place.ensures c.if-place-ne43.false c.place-2.ensures (c.eval-v.ensures rows p) c.in-Number.is (sym d ∙ c.if-is_true.false)
