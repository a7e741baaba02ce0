-- `leave_offers` meets its contract.
use Rattle.run_notes.proofs.Changes.{offers-left, no-offers}
use Rattle.run_notes.proofs.Notes.leave_offers.Goals as goal

pub returns-then-self-r-eq9 : goal.returns-then-self-r-eq9
returns-then-self-r-eq9 c = λ rows p. offers-left rows _ _ c.if-self-r-eq9.true (c.first_option.ensures.options rows p) (c.leave_options.ensures rows p)

pub returns-else-self-r-eq9 : goal.returns-else-self-r-eq9
returns-else-self-r-eq9 c = λ rows p. no-offers rows _ _ c.if-self-r-eq9.false
