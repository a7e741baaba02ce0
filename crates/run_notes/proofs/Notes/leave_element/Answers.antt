-- `leave_element` meets its contract, by what the note of the row is.
use Rattle.run_notes.specs.Notes.{leave_element}
use Rattle.run_notes.proofs.Changes.{test-no}
use Rattle.run_notes.proofs.Notes.leave_element.Goals as goal

pub returns-in-7 : goal.returns-in-7
unfolding leave_element
returns-in-7 c = rw c.in-7.is

pub returns-in-8 : goal.returns-in-8
unfolding leave_element
returns-in-8 c = rw c.in-8.is

pub returns-in_default : goal.returns-in_default
unfolding leave_element
returns-in_default c = rw (test-no c.in_default.in_default-own.rest.0.1, test-no c.in_default.in_default-own.rest.1)
