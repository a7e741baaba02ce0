-- `raise` meets its contract: a row that is in stays, and another is turned.
use Rattle.run_ready_bits.proofs.Turns.{raise-in, raise-out}
use Rattle.run_ready_bits.proofs.raise.Goals as goal

pub returns-then-not-has : goal.returns-then-not-has
returns-then-not-has c = raise-out _ _ _ c.has.ensures _ c.if-not-has.true c.turn.ensures

pub returns-else-not-has : goal.returns-else-not-has
returns-else-not-has c = raise-in _ _ _ c.has.ensures c.if-not-has.false
