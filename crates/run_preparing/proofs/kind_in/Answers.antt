use borrow.Author.Tests.{lt-ltb, le-ltb}
use Rattle.run_code.specs.Prepared.{kind_in}
use Rattle.run_preparing.proofs.kind_in.Goals as goal

pub returns-then-r-rows : goal.returns-then-r-rows
unfolding kind_in
returns-then-r-rows c = rw c.natural.ensures (simp (lt-ltb _ _ c.if-r-rows.true))

pub returns : goal.returns
unfolding kind_in
returns c = simp (le-ltb _ _ c.if-r-rows.false)
