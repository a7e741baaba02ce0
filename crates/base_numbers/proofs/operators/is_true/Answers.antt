-- `is_true` meets its contract: 0 is the number whose bits are 0.
use mathlib.Core.Path.{ap}
use mathlib.Core.Bool.{not}
use Rattle.base_numbers.proofs.Bits.{zero_test}
use Rattle.base_numbers.proofs.operators.is_true.Goals as goal

pub returns : goal.returns
returns c = ap not (zero_test _ c.ranges.x)
