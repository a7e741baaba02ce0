-- `note_all` meets its contract: each pass notes one more of the rows that are listed.
use Rattle.run_values.specs.Cells.{state_cells}
use Rattle.run_turns.proofs.TurnLaws.{one-more-noted}
use Rattle.run_turns.proofs.note_all.Goals as goal

pub loop-r-preserved : goal.loop-r-preserved
loop-r-preserved c =
    let args = c.args in
    λ rows ok. one-more-noted rows (state_cells args.state.now) args.state.now.places args.counts.now args.lines args.came.now c.loop-r.r-index c.loop-r-test.true args.notes.now
    (c.loop-r.invariant rows ok) (c.note_row.ensures rows ok)
