-- By how many bytes are left. Assumes nothing.
use borrow.Author.Tests.{lt-ltb, le-ltb}
use Rattle.read_scan.proofs.reach.Goals as goal

pub returns-then-line-from-lt32 : goal.returns-then-line-from-lt32
returns-then-line-from-lt32 c = rw (lt-ltb _ _ c.if-line-from-lt32.true)

pub returns-else-line-from-lt32 : goal.returns-else-line-from-lt32
returns-else-line-from-lt32 c = rw (le-ltb _ _ c.if-line-from-lt32.false)
