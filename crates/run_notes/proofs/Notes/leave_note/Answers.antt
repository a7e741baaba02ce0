-- `leave_note` meets its contract.
use Rattle.run_notes.specs.Notes.{leave_note}
use Rattle.run_notes.proofs.Notes.leave_note.Goals as goal

pub returns : goal.returns
unfolding leave_note
returns c = rw (← c.leave_element.ensures, ← c.lower.ensures) (rw c.from.ensures at c.store.ensures)
