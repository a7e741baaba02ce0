-- The loop keeps the key of the name from the key of the bytes read. Assumes nothing.
use mathlib.Core.Path.{refl, sym, ◌∙◌}
use native.Mathlib.Omega.{arith}
use Rattle.read_names.proofs.KeySteps.{key-next, key-end}
use Rattle.read_names.proofs.key_of.Goals as goal

pub loop-b-init : goal.loop-b-init
loop-b-init c = (omega arith, refl)

pub loop-b-preserved : goal.loop-b-preserved
loop-b-preserved c =
    (omega arith, rw c.from.ensures (sym (key-next c.args.name.now c.loop-b.key c.loop-b.b-index c.loop-b-test.true) ∙ c.loop-b.invariant.1))

pub returns : goal.returns
returns c = sym (key-end c.args.name.now c.loop-b.key c.loop-b.b-index c.loop-b-test.false) ∙ c.loop-b.invariant.1
