-- `leave_options` meets its contract. A next link is a higher row, so the distance to row 1,025 falls.
use Rattle.std.proofs.Common.{refl, arith}
use Rattle.run_notes.proofs.Changes.{none_left, next-left}
use Rattle.run_notes.proofs.Links.{option-row, next-link, option-here, no-option}
use Rattle.run_notes.proofs.Notes.+leave_options.Goals as goal

pub leave_note-requires : goal.leave_note-requires
leave_note-requires t c = option-row c.requires.table.1 c.args.m c.requires.inside c.place.ensures c.if-place-eq42.true

pub leave_options-requires : goal.leave_options-requires
leave_options-requires t c =
    let l = next-link c.requires.table.1 c.args.m c.requires.inside c.place.ensures c.if-place-eq42.true c.place-then-place-eq42.ensures in
    (omega (arith, c.decreases, l), (c.requires.table, l.1))

pub returns-then-place-eq42 : goal.returns-then-place-eq42
returns-then-place-eq42 t c = λ rows p.
    let o = option-here p c.args.m c.requires.inside c.place.ensures c.if-place-eq42.true c.place-then-place-eq42.ensures in
    next-left _ _ o refl c.leave_note.ensures (c.leave_options.ensures rows p)

pub returns-else-place-eq42 : goal.returns-else-place-eq42
returns-else-place-eq42 t c = λ rows p. none_left _ (no-option p c.args.m c.requires.inside c.place.ensures c.if-place-eq42.false)
