-- `digit_count` meets its contract. The loop's invariant: the digits counted, and those of what is left, are all and one more.
use mathlib.Core.Path.{refl}
use native.Mathlib.Omega.{arith}
use Rattle.base_numbers.proofs.Decimals.{one-digit-count, last-digit-count, ten-digits}
use Rattle.base_numbers.proofs.numerals.digit_count.Goals as goal

pub loop-rest-init : goal.loop-rest-init
loop-rest-init c = refl

pub overflow_add-count : goal.overflow_add-count
overflow_add-count c = omega (arith, ten-digits c.args.n (omega arith))

pub loop-rest-smaller : goal.loop-rest-smaller
loop-rest-smaller c = omega arith

pub loop-rest-preserved : goal.loop-rest-preserved
loop-rest-preserved c = omega (arith, last-digit-count c.loop-rest.rest c.loop-rest-test.true)

pub returns : goal.returns
returns c = omega (arith, one-digit-count c.loop-rest.rest c.loop-rest-test.false)
