-- `choices_do` meets its contract: a choice by its boolean, and else the next choices, which are in a higher row.
use Rattle.run_code.proofs.Inside.{third-inside}
use Rattle.run_intents.proofs.Choices.{next-higher, no-choice, choice-stops, choice-starts, choice-passed}
use Rattle.run_values.specs.Cells.{state_cells}
use mathlib.Core.Path.{sym, ◌∙◌}
use native.Mathlib.Omega.{arith}
use mir.ValLaws.{to_z-of_z}
use mir.Val.{SFits}
use mir.Syntax.{w32}
use borrow.Author.Rules.{rules}
use Rattle.run_intents.proofs.+choices_do.Goals as goal

pub returns-then-place-ne41 : goal.returns-then-place-ne41
returns-then-place-ne41 t c =
    λ rows p. no-choice p c.args.m c.requires.inside (state_cells c.args.state.now) c.place.ensures c.if-place-ne41.true

pub eval-v-requires : goal.eval-v-requires
eval-v-requires t c =
    record { table = c.requires.table; inside = rw c.place-2.ensures (third-inside c.requires.table.1 c.args.m c.requires.inside (omega (arith, c.place.ensures, c.if-place-ne41.false))) }

pub returns-then-is_true : goal.returns-then-is_true
returns-then-is_true t c =
    let f : SFits w32 c.in-Number.x = search rules in
    let d = rw (to_z-of_z w32 c.in-Number.x f) at c.is_true.ensures in
    λ rows p. choice-starts p c.args.m c.requires.inside (state_cells c.args.state.now) c.place.ensures c.if-place-ne41.false c.place-2.ensures (c.eval-v.ensures rows p) c.in-Number.is (sym d ∙ c.if-is_true.true) c.place-then-is_true.ensures

pub choices_do-requires : goal.choices_do-requires
choices_do-requires t c =
    let a = next-higher c.requires.table.1 c.args.m c.requires.inside c.place.ensures c.if-place-ne41.false c.place-in-Number.ensures in
    (omega (arith, c.decreases, a), (c.requires.table, a.1))

pub returns-in-Missing : goal.returns-in-Missing
returns-in-Missing t c =
    λ rows p. choice-stops p c.args.m c.requires.inside (state_cells c.args.state.now) c.place.ensures c.if-place-ne41.false c.place-2.ensures (c.eval-v.ensures rows p) c.in-Missing.is

pub returns-else-is_true : goal.returns-else-is_true
returns-else-is_true t c =
    let f : SFits w32 c.in-Number.x = search rules in
    let d = rw (to_z-of_z w32 c.in-Number.x f) at c.is_true.ensures in
    λ rows p. choice-passed p c.args.m c.requires.inside (state_cells c.args.state.now) c.place.ensures c.if-place-ne41.false c.place-2.ensures (c.eval-v.ensures rows p) c.in-Number.is (sym d ∙ c.if-is_true.false) c.place-in-Number.ensures (c.choices_do.ensures rows p)
