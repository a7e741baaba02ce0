-- `leave` meets its contract.
use Rattle.run_notes.proofs.Changes.{row-left}
use Rattle.run_notes.proofs.Notes.leave.Goals as goal

pub returns : goal.returns
returns c = λ rows p. row-left rows _ _ (c.leave_offers.ensures rows p) c.leave_note.ensures
