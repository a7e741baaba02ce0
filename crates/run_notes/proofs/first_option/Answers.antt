-- `first_option` meets its contract.
use native.Mathlib.Omega.{arith}
use Rattle.run_code.proofs.Inside.{first-inside}
use Rattle.run_notes.proofs.Links.{first-options, no-alt}
use Rattle.run_notes.proofs.first_option.Goals as goal

pub returns-then-place-eq34 : goal.returns-then-place-eq34
returns-then-place-eq34 c = record { inside = rw c.place-then-place-eq34.ensures (first-inside c.requires.table.1 c.args.r c.requires.inside); options = λ rows p. first-options p c.args.r c.requires.inside c.place.ensures c.if-place-eq34.true c.place-then-place-eq34.ensures }

pub returns : goal.returns
returns c = record { inside = omega arith; options = λ rows p. no-alt p c.args.r c.requires.inside c.place.ensures c.if-place-eq34.false }
