-- `note_row` meets its contract.
use mathlib.Core.Path.{ap, ◌∙◌}
use Rattle.run_noting.proofs.Changes.{row-selects, row-noted}
use Rattle.run_notes.specs.Notes.{note_numbers}
use Rattle.run_noting.proofs.note_row.Goals as goal

pub returns-then-n-eq9 : goal.returns-then-n-eq9
returns-then-n-eq9 c = λ rows p. rw (← (c.from-n.ensures ∙ ap note_numbers (c.does_at.ensures rows p))) (row-selects rows _ _ _ _ c.if-n-eq9.true (c.note_alt.ensures rows p))

pub returns-else-n-eq9 : goal.returns-else-n-eq9
returns-else-n-eq9 c = λ rows p. rw (← (c.from-n.ensures ∙ ap note_numbers (c.does_at.ensures rows p))) (row-noted rows _ _ _ _ c.if-n-eq9.false (c.note_as.ensures rows p))
