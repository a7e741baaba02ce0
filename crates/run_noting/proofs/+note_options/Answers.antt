-- `note_options` meets its contract. A next link is a higher row, so the distance to row 1,025 falls.
use native.Mathlib.Omega.{arith}
use mathlib.Core.Path.{refl, sym, ap, ◌∙◌}
use Rattle.run_noting.proofs.Changes.{no-options, option-lacks, later-lacks, option-noted}
use Rattle.run_notes.proofs.Links.{option-row, next-link, option-here, no-option}
use Rattle.run_notes.specs.Notes.{note_numbers}
use Rattle.run_noting.proofs.+note_options.Goals as goal

pub returns-then-place-ne42 : goal.returns-then-place-ne42
returns-then-place-ne42 t c = λ rows p. no-options rows _ _ _ (no-option p c.args.m c.requires.inside.1 c.place.ensures c.if-place-ne42.true) c.from.ensures

pub option_does-requires : goal.option_does-requires
option_does-requires t c = record { table = c.requires.table; row = (c.requires.inside.1, sym c.place.ensures ∙ c.if-place-ne42.false) }

pub returns-then-n-eq1 : goal.returns-then-n-eq1
returns-then-n-eq1 t c = λ rows p.
    let o = option-here p c.args.m c.requires.inside.1 c.place.ensures c.if-place-ne42.false refl in
    option-lacks rows _ _ _ o (c.from-n.ensures ∙ ap note_numbers (c.option_does.ensures rows p)) c.if-n-eq1.true

pub note_options-z-requires : goal.note_options-z-requires
note_options-z-requires t c =
    let l = next-link c.requires.table.1 c.args.m c.requires.inside.1 c.place.ensures c.if-place-ne42.false c.place-link.ensures in
    (omega (arith, c.decreases, l), (c.requires.table, (c.requires.inside.0, l.1)))

pub returns-then-z-eq1 : goal.returns-then-z-eq1
returns-then-z-eq1 t c = λ rows p.
    let o = option-here p c.args.m c.requires.inside.1 c.place.ensures c.if-place-ne42.false c.place-link.ensures in
    later-lacks rows _ _ _ o (c.from-n.ensures ∙ ap note_numbers (c.option_does.ensures rows p)) c.if-n-eq1.false (c.note_options-z.ensures rows p) c.if-z-eq1.true

pub note_as-requires : goal.note_as-requires
note_as-requires t c = record { table = c.requires.table; inside = (c.requires.inside.0, option-row c.requires.table.1 c.args.m c.requires.inside.1 c.place.ensures c.if-place-ne42.false) }

pub returns : goal.returns
returns t c = λ rows p.
    let o = option-here p c.args.m c.requires.inside.1 c.place.ensures c.if-place-ne42.false c.place-link.ensures in
    option-noted rows _ _ _ o (c.from-n.ensures ∙ ap note_numbers (c.option_does.ensures rows p)) c.if-n-eq1.false (c.note_options-z.ensures rows p) c.if-z-eq1.false refl (c.note_as.ensures rows p)
