-- The body of a running WHILE has not ended: else a rule of settling would apply.
use Rattle.meaning.specs.SettlingRules.{while-again}
use Rattle.agreement.specs.Coherence.{WhileReset}
use Rattle.agreement.proofs.OrdersSettle.{orders-settled}

pub while-reset : WhileReset
while-reset rows c sheet l s o e b r ms i u body m h = orders-settled rows c sheet l s o _ (while-again (i, u) m h)
