-- `wait_output` meets its contract.
use Rattle.run_notes.specs.Notes.{wait_output}
use Rattle.run_notes.proofs.Changes.{test-yes, test-no}
use Rattle.run_noting.proofs.wait_output.Goals as goal

pub returns-then-i-ne0 : goal.returns-then-i-ne0
unfolding wait_output
returns-then-i-ne0 c = λ rows p. rw (test-no c.if-i-ne0.true) (c.wake.ensures rows p)

pub returns-else-i-ne0 : goal.returns-else-i-ne0
unfolding wait_output
returns-else-i-ne0 c = λ rows p. rw (test-yes c.if-i-ne0.false)
