-- `remainder` meets its contract: no remainder is larger than what is divided.
use mathlib.Core.Path.{◌∙◌, ap}
use lib.Signed.{rem_z}
use Rattle.meaning.specs.Values.{fitted, remainder}
use Rattle.base_numbers.proofs.Bits.{zero-bits-equal, other-than-zero}
use Rattle.base_numbers.proofs.Ranges.{operation-gives, remainder-fits}
use Rattle.base_numbers.proofs.wide.remainder.Goals as goal

-- The need of the division has no name of its own here, so that a `/` in place of the `%` is refused for its value (must-fail/rem_by_way_of_quotient).
pub returns-then-y-eq0 : goal.returns-then-y-eq0
unfolding remainder
returns-then-y-eq0 c = simp (zero-bits-equal _ c.ranges.y c.if-y-eq0.true)

pub returns : goal.returns
unfolding remainder
returns c =
    let f = c.ranges in
    rw (other-than-zero _ f.y c.if-y-eq0.false)
    (c.fit.ensures ∙ ap fitted (rw (c.from.ensures, c.from-2.ensures) (operation-gives f.x f.y rem_z (remainder-fits f.x f.y))))
