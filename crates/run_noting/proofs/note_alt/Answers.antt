-- `note_alt` meets its contract.
use Rattle.run_noting.proofs.Changes.{alt-stops, alt-selects}
use Rattle.run_noting.proofs.note_alt.Goals as goal

pub returns-then-n-eq1 : goal.returns-then-n-eq1
returns-then-n-eq1 c = λ rows p. alt-stops rows _ _ _ (c.first_option-m.ensures.options rows p) (c.note_options-n.ensures rows p) c.store.ensures c.if-n-eq1.true (rw c.raise.ensures)

pub returns-else-n-eq1 : goal.returns-else-n-eq1
returns-else-n-eq1 c = λ rows p. alt-selects rows _ _ _ (c.first_option-m.ensures.options rows p) (c.note_options-n.ensures rows p) c.store.ensures c.if-n-eq1.false
