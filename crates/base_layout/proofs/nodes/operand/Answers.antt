-- `operand` meets its contract, by the test whether the row is a higher one.
use mathlib.Core.Path.{sym}
use borrow.Author.Tests.{lt-ltb, le-ltb}
use Rattle.base_layout.specs.Operands.{operand_at}
use Rattle.base_layout.proofs.nodes.operand.Goals as goal

pub returns-then-r-b : goal.returns-then-r-b
unfolding operand_at
returns-then-r-b c = rw (sym c.natural-b.ensures) (simp (lt-ltb _ _ c.if-r-b.true))

pub returns-else-r-b : goal.returns-else-r-b
unfolding operand_at
returns-else-r-b c = rw (sym c.natural-b.ensures) (simp (le-ltb _ _ c.if-r-b.false))
