-- `dyadic_of` meets its contract, by the cases of the first operand and by whether it decides.
use borrow.Author.Rules.{rules}
use mathlib.Core.Path.{sym}
use mir.Syntax.{w32}
use mir.Val.{SFits}
use mir.ValLaws.{to_z-of_z}
use Rattle.meaning.specs.Values.{dyadic_of}
use Rattle.base_numbers.proofs.operands.dyadic_of.Goals as goal

pub returns-then-decides : goal.returns-then-decides
unfolding dyadic_of
returns-then-decides c =
    let f : SFits w32 c.in-Number.x = search rules in
    let d = rw (to_z-of_z w32 _ f) at c.decides.ensures in
    rw (c.in-Number.is, sym d, c.if-decides.true) (rw (to_z-of_z w32 _ f) at c.decided.ensures)

pub returns-in-Missing : goal.returns-in-Missing
unfolding dyadic_of
returns-in-Missing c = rw c.in-Missing.is

pub returns-else-decides : goal.returns-else-decides
unfolding dyadic_of
returns-else-decides c =
    let f : SFits w32 c.in-Number.x = search rules in
    let d = rw (to_z-of_z w32 _ f) at c.decides.ensures in
    rw (c.in-Number.is, sym d, c.if-decides.false) (rw (to_z-of_z w32 _ f) at c.dyadic_after.ensures)
