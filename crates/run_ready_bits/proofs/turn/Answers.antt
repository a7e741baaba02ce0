-- `turn` meets its contract.
use Rattle.std.proofs.Common.{refl}
use Rattle.run_ready_bits.proofs.Turns.{turn-in-place}
use Rattle.run_ready_bits.proofs.turn.Goals as goal

pub returns : goal.returns
returns c = turn-in-place c.args.bits.now c.args.r c.args.d _ _ refl refl
