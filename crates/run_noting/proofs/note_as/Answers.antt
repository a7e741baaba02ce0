-- `note_as` meets its contract, by what the note is.
use Rattle.run_noting.proofs.Changes.{noted-waits, noted-input, noted-output, noted-ready}
use Rattle.run_noting.proofs.note_as.Goals as goal

pub returns-in-0 : goal.returns-in-0
returns-in-0 c = λ rows p. noted-waits rows _ _ _ _ c.store.ensures c.in-0.is

pub returns-in-7 : goal.returns-in-7
returns-in-7 c = λ rows p. noted-input rows _ _ _ _ c.store.ensures c.in-7.is c.wait_input.ensures

pub returns-in-8 : goal.returns-in-8
returns-in-8 c = λ rows p. noted-output rows _ _ _ _ c.store.ensures c.in-8.is (c.wait_output.ensures rows p)

pub returns-in_default : goal.returns-in_default
returns-in_default c = λ rows p.
    let others = c.in_default.in_default-own.rest in
    noted-ready rows _ _ _ _ c.store.ensures others.0.0.1 others.0.1 others.1 (rw c.raise.ensures)
