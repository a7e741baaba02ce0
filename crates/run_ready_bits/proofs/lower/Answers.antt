-- `lower` meets its contract: a row that is in is turned, and another stays out.
use Rattle.run_ready_bits.proofs.Turns.{lower_in, lower-out}
use Rattle.run_ready_bits.proofs.lower.Goals as goal

pub returns-then-has : goal.returns-then-has
returns-then-has c = lower_in _ _ _ c.has.ensures _ c.if-has.true c.turn.ensures

pub returns-else-has : goal.returns-else-has
returns-else-has c = lower-out _ _ _ c.has.ensures c.if-has.false
