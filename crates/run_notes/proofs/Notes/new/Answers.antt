-- `new` meets its contract.
use Rattle.run_notes.proofs.Notes.new.Goals as goal

pub returns : goal.returns
returns c = rw c.clear.ensures
