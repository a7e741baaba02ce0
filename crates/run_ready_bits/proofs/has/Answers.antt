use Rattle.std.proofs.Common.{refl}
use Rattle.run_ready_bits.specs.Bits.{on, has}
use Rattle.run_ready_bits.proofs.has.Goals as goal

-- src/lib.rt:17:1
pub returns : goal.returns
unfolding on has
returns c = refl
