-- `wake` meets its contract.
use Rattle.run_notes.specs.Notes.{wake}
use Rattle.run_notes.proofs.Changes.{test-yes, test-no}
use Rattle.run_noting.proofs.wake.Goals as goal

pub returns-then-notes-i-eq9 : goal.returns-then-notes-i-eq9
unfolding wake
returns-then-notes-i-eq9 c = λ rows p. rw (test-yes c.if-notes-i-eq9.true, ← c.first_option.ensures.options rows p) (c.wake_options.ensures rows p)

pub returns-else-notes-i-eq9 : goal.returns-else-notes-i-eq9
unfolding wake
returns-else-notes-i-eq9 c = λ rows p. rw (test-no c.if-notes-i-eq9.false, c.raise.ensures)
