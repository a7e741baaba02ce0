-- `sent` meets its contract, by the cases of the subscript and of what the expression gives.
use Rattle.run_values.proofs.CellLaws.{coded-back}
use Rattle.run_intents.proofs.sent.Goals as goal

pub returns-in-Ok : goal.returns-in-Ok
returns-in-Ok c = rw (c.in-At.is, c.in-Ok.is, coded-back c.in-Ok.m) c.handed_on.ensures
