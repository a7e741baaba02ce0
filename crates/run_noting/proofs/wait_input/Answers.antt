-- `wait_input` meets its contract.
use Rattle.run_notes.specs.Notes.{wait_input}
use Rattle.run_notes.proofs.Changes.{test-yes, test-no}
use Rattle.run_noting.proofs.wait_input.Goals as goal

pub returns-then-notes-p-ne0 : goal.returns-then-notes-p-ne0
unfolding wait_input
returns-then-notes-p-ne0 c = rw (test-no c.if-notes-p-ne0.true, c.raise.ensures)

pub returns-else-notes-p-ne0 : goal.returns-else-notes-p-ne0
unfolding wait_input
returns-else-notes-p-ne0 c = rw (test-yes c.if-notes-p-ne0.false)
