-- `input_does` meets its contract: what it reads of the row is what stands there.
use Rattle.run_intents.proofs.RowFacts.{input-few}
use Rattle.run_intents.proofs.Inputs.{input-found}
use Rattle.run_code.proofs.Inside.{first-inside, third-inside}
use Rattle.run_values.specs.Cells.{state_cells}
use native.Mathlib.Omega.{arith}
use Rattle.run_intents.proofs.input_does.Goals as goal

pub index-e-requires-clause-inside : goal.index-e-requires-clause-inside
index-e-requires-clause-inside c = (c.requires.row.0, omega (arith, c.requires.row.1))

pub target-t-requires-clause-inside : goal.target-t-requires-clause-inside
target-t-requires-clause-inside c = rw c.place.ensures (third-inside c.requires.table.1 c.args.r c.requires.row.0 (omega (arith, c.requires.row.1)))

pub place-requires-2 : goal.place-requires-2
place-requires-2 c =
    record { inside = (rw c.place-d.ensures (first-inside c.requires.table.1 c.args.r c.requires.row.0), omega arith) }

pub received-requires : goal.received-requires
received-requires c =
    input-few c.requires.table.1 c.args.r c.requires.row.0 c.requires.row.1 c.place-d.ensures c.place-2.ensures

pub returns : goal.returns
returns c =
    λ rows p. input-found p (state_cells c.args.state.now) c.args.r c.requires.row.0 c.args.lines c.args.state.now.places c.requires.row.1 (c.index-e.ensures rows p) c.place.ensures (c.target-t.ensures rows p) c.place-d.ensures c.place-2.ensures c.received.ensures
