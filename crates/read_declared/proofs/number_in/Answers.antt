-- By the first number. Assumes nothing.
use lib.IntN.{pos}
use lib.ListN.{get_or}
use mir.Syntax.{w32}
use mir.Val.{SFits}
use mir.ValLaws.{to_z-of_z}
use borrow.Author.Rules.{rules}
use Rattle.read_declared.proofs.FirstSteps.{number-there, number-absent}
use Rattle.read_declared.proofs.number_in.Goals as goal

pub returns-else-at-sorts : goal.returns-else-at-sorts
returns-else-at-sorts c =
    let a = c.args in
    number-absent a.sorts.now a.values.now c.first_of-at.result c.first_of-at.ensures c.if-at-sorts.false

pub returns-then-at-sorts : goal.returns-then-at-sorts
returns-then-at-sorts c =
    let a = c.args in
    let fits : SFits w32 (get_or a.values.now c.first_of-at.result (pos 0)) = search rules in
    rw (to_z-of_z w32 _ fits) (number-there a.sorts.now a.values.now c.first_of-at.result c.first_of-at.ensures c.if-at-sorts.true)
