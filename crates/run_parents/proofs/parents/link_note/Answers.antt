-- `link_note` meets its contract, by its test.
use borrow.Author.Tests.{lt-ltb, le-ltb}
use Rattle.meaning.specs.Rows.{row_count}
use Rattle.run_parents.proofs.parents.link_note.Goals as goal

pub returns-then-t-rows : goal.returns-then-t-rows
returns-then-t-rows c = let a = c.args in rw (lt-ltb a.t (row_count a.rows.now) c.if-t-rows.true)

pub returns : goal.returns
returns c = let a = c.args in rw (le-ltb a.t (row_count a.rows.now) c.if-t-rows.false)
