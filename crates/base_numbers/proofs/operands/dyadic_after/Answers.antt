-- `dyadic_after` meets its contract, by the cases of the second operand.
use borrow.Author.Rules.{rules}
use mir.Syntax.{w32}
use mir.ValLaws.{to_z-of_z}
use Rattle.base_numbers.proofs.operands.dyadic_after.Goals as goal

pub returns-in-Number : goal.returns-in-Number
returns-in-Number c = rw c.in-Number.is (rw (to_z-of_z w32 c.in-Number.y (search rules), to_z-of_z w32 _ c.ranges.x) at c.dyadic.ensures)

pub returns-in-Missing : goal.returns-in-Missing
returns-in-Missing c = rw c.in-Missing.is
