-- `output_does` meets its contract: what it reads of the row is what stands there.
use Rattle.run_intents.proofs.RowFacts.{output-few}
use Rattle.run_intents.proofs.Inputs.{output-found}
use Rattle.run_code.proofs.Inside.{first-inside, third-inside}
use Rattle.run_values.specs.Cells.{state_cells}
use native.Mathlib.Omega.{arith}
use Rattle.run_intents.proofs.output_does.Goals as goal

pub index-e-requires-clause-inside : goal.index-e-requires-clause-inside
index-e-requires-clause-inside c = (c.requires.row.0, omega (arith, c.requires.row.1))

pub passed-v-requires-clause-inside : goal.passed-v-requires-clause-inside
passed-v-requires-clause-inside c = rw c.place.ensures (third-inside c.requires.table.1 c.args.r c.requires.row.0 (omega (arith, c.requires.row.1)))

pub place-requires-2 : goal.place-requires-2
place-requires-2 c =
    record { inside = (rw c.place-d.ensures (first-inside c.requires.table.1 c.args.r c.requires.row.0), omega arith) }

pub place-requires-3 : goal.place-requires-3
place-requires-3 c =
    record { inside = (rw c.place-d.ensures (first-inside c.requires.table.1 c.args.r c.requires.row.0), omega arith) }

pub sent-requires : goal.sent-requires
sent-requires c =
    output-few c.requires.table.1 c.args.r c.requires.row.0 c.requires.row.1 c.place-d.ensures c.place-2.ensures

pub returns : goal.returns
returns c =
    λ rows p. output-found p (state_cells c.args.state.now) c.args.r c.requires.row.0 c.args.counts.now c.requires.row.1 (c.index-e.ensures rows p) c.place.ensures (c.passed-v.ensures rows p) c.place-d.ensures c.place-2.ensures c.place-3.ensures c.sent.ensures
