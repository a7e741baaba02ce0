-- `prepare` meets its contract: the notes of the rows, the declarations, and the other rows.
use Rattle.agreement.proofs.TableFit.{rows-limit}
use Rattle.run_preparing.proofs.NotedRows.{noted-rows}
use Rattle.run_preparing.proofs.prepare.Goals as goal

pub note_owners-requires : goal.note_owners-requires
note_owners-requires c = rows-limit _ c.requires.accepted

pub note_parents-requires : goal.note_parents-requires
note_parents-requires c =
    let ok = c.requires.accepted in
    record { accepted = ok; room = (rows-limit _ ok, rows-limit _ ok) }

pub fill-requires : goal.fill-requires
fill-requires c =
    let ok = c.requires.accepted in
    let p = c.note_parents.ensures in
    record { accepted = ok; filled = c.declare.ensures; noted = noted-rows _ (rows-limit _ ok) _ _ _ p.notes p.links c.note_owners.ensures }
