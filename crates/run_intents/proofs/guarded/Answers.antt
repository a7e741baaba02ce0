-- `guarded` meets its contract, by what the guard's row is.
use Rattle.run_intents.proofs.Guards.{guard-starts, guard-inputs, guard-closed}
use Rattle.run_values.specs.Cells.{state_cells}
use Rattle.run_intents.proofs.guarded.Goals as goal

pub returns-in-21 : goal.returns-in-21
returns-in-21 c =
    λ rows p. guard-starts p c.args.lines (state_cells c.args.state.now) c.args.state.now.places c.args.g c.requires.bare.0 c.args.process c.place.ensures c.in-21.is

pub returns-in-23 : goal.returns-in-23
returns-in-23 c =
    λ rows p. guard-inputs p c.args.lines (state_cells c.args.state.now) c.args.state.now.places c.args.g c.requires.bare.0 c.args.process c.place.ensures c.in-23.is (c.input_does.ensures rows p)

pub returns-in_default : goal.returns-in_default
returns-in_default c =
    λ rows p. guard-closed p c.args.lines (state_cells c.args.state.now) c.args.state.now.places c.args.g c.requires.bare.0 c.args.process c.place.ensures c.in_default.in_default-own.rest.0.1 c.in_default.in_default-own.rest.1 c.requires.bare.1
