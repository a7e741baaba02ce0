-- `quotient` meets its contract: a quotient of two 32-bit numbers fits in 64 bits.
use mathlib.Core.Path.{◌∙◌, ap}
use lib.Signed.{quot_z}
use Rattle.meaning.specs.Values.{fitted, quotient}
use Rattle.base_numbers.proofs.Bits.{zero-bits-equal, other-than-zero}
use Rattle.base_numbers.proofs.Ranges.{operation-gives, quotient_fits}
use Rattle.base_numbers.proofs.wide.quotient.Goals as goal

pub returns-then-y-eq0 : goal.returns-then-y-eq0
unfolding quotient
returns-then-y-eq0 c = simp (zero-bits-equal _ c.ranges.y c.if-y-eq0.true)

pub returns : goal.returns
unfolding quotient
returns c =
    let f = c.ranges in
    rw (other-than-zero _ f.y c.if-y-eq0.false)
    (c.fit.ensures ∙ ap fitted (rw (c.from.ensures, c.from-2.ensures) (operation-gives f.x f.y quot_z (quotient_fits f.x f.y))))
