-- `monadic_of` meets its contract, by the cases of the operand.
use borrow.Author.Rules.{rules}
use mir.Syntax.{w32}
use mir.ValLaws.{to_z-of_z}
use Rattle.base_numbers.proofs.operands.monadic_of.Goals as goal

pub returns-in-Number : goal.returns-in-Number
returns-in-Number c = rw c.in-Number.is (rw (to_z-of_z w32 c.in-Number.x (search rules)) at c.monadic.ensures)

pub returns-in-Missing : goal.returns-in-Missing
returns-in-Missing c = rw c.in-Missing.is
