-- `does_at` meets its contract, by what the row is.
use Rattle.run_code.proofs.Inside.{third-inside, first-inside}
use Rattle.run_intents.proofs.Actions.{assigns, outside-stops, input-does, output-does, if-does, while-does, alt-does, other-does}
use Rattle.run_values.specs.Cells.{state_cells}
use mathlib.Core.Path.{refl}
use mathlib.Core.Logic.{inl, inr}
use native.Mathlib.Omega.{arith}
use Rattle.run_intents.proofs.does_at.Goals as goal

pub eval-requires-clause-inside : goal.eval-requires-clause-inside
eval-requires-clause-inside c = rw c.place-in-46.ensures (third-inside c.requires.table.1 c.args.r c.requires.inside (omega (arith, c.place.ensures, c.in-46.is)))

pub choices_do-requires-clause-inside : goal.choices_do-requires-clause-inside
choices_do-requires-clause-inside c = rw c.place-in-32.ensures (first-inside c.requires.table.1 c.args.r c.requires.inside)

pub eval-requires-in-33-clause-inside : goal.eval-requires-in-33-clause-inside
eval-requires-in-33-clause-inside c = rw c.place-in-33-2.ensures (first-inside c.requires.table.1 c.args.r c.requires.inside)

pub returns-in-46 : goal.returns-in-46
returns-in-46 c =
    λ rows p. elim c.in-46.is [
      | inl e ↦ assigns p c.args.lines (state_cells c.args.state.now) c.args.state.now.places c.args.counts.now c.args.r c.requires.inside c.place.ensures 46 e refl (c.assigned.ensures rows p) c.place-in-46.ensures (c.eval.ensures rows p) c.assignment.ensures
      | inr e ↦ assigns p c.args.lines (state_cells c.args.state.now) c.args.state.now.places c.args.counts.now c.args.r c.requires.inside c.place.ensures 48 e refl (c.assigned.ensures rows p) c.place-in-46.ensures (c.eval.ensures rows p) c.assignment.ensures
    ]

pub returns-in-47 : goal.returns-in-47
returns-in-47 c =
    λ rows p. outside-stops p c.args.lines (state_cells c.args.state.now) c.args.state.now.places c.args.counts.now c.args.r c.requires.inside c.place.ensures c.in-47.is

pub returns-in-23 : goal.returns-in-23
returns-in-23 c =
    λ rows p. input-does p c.args.lines (state_cells c.args.state.now) c.args.state.now.places c.args.counts.now c.args.r c.requires.inside c.place.ensures c.in-23.is (c.input_does.ensures rows p)

pub returns-in-24 : goal.returns-in-24
returns-in-24 c =
    λ rows p. output-does p c.args.lines (state_cells c.args.state.now) c.args.state.now.places c.args.counts.now c.args.r c.requires.inside c.place.ensures c.in-24.is (c.output_does.ensures rows p)

pub returns-in-32 : goal.returns-in-32
returns-in-32 c =
    λ rows p. if-does p c.args.lines (state_cells c.args.state.now) c.args.state.now.places c.args.counts.now c.args.r c.requires.inside c.place.ensures c.in-32.is c.place-in-32.ensures (c.choices_do.ensures rows p)

pub returns-in-33 : goal.returns-in-33
returns-in-33 c =
    λ rows p. while-does p c.args.lines (state_cells c.args.state.now) c.args.state.now.places c.args.counts.now c.args.r c.requires.inside c.place.ensures c.in-33.is c.place-in-33.ensures c.place-in-33-2.ensures (c.eval-in-33.ensures rows p) c.tested.ensures

pub returns-in-34 : goal.returns-in-34
returns-in-34 c =
    λ rows p. alt-does p c.args.lines (state_cells c.args.state.now) c.args.state.now.places c.args.counts.now c.args.r c.requires.inside c.place.ensures c.in-34.is

pub returns-in_default : goal.returns-in_default
returns-in_default c =
    λ rows p. other-does p c.args.lines (state_cells c.args.state.now) c.args.state.now.places c.args.counts.now c.args.r c.requires.inside c.place.ensures (λ z. c.in_default.in_default-own.rest.0.0.0.0.0.0.1 (inl z)) (λ z. omega arith) (λ z. c.in_default.in_default-own.rest.0.0.0.0.0.0.1 (inr z)) (λ z. omega arith) (λ z. omega arith) (λ z. omega arith) (λ z. omega arith) (λ z. omega arith)
