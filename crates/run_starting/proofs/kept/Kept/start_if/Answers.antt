-- `start_if` meets its contract.
use Rattle.run_starting.proofs.Starting.{starts-now, starts-not}
use Rattle.run_starting.specs.Kept.{kept_lists}
use Rattle.meaning.specs.State.{program, process_at}
use Rattle.run_starting.proofs.kept.Kept.start_if.Goals as goal

pub returns-then-n-eq1 : goal.returns-then-n-eq1
returns-then-n-eq1 c =
    λ rows P. starts-now c.args.n c.args.r (process_at (program rows) c.args.r) (kept_lists c.args.self.now) c.if-n-eq1.true (c.start_beneath.ensures rows P)

pub returns-else-n-eq1 : goal.returns-else-n-eq1
returns-else-n-eq1 c =
    λ rows P. starts-not c.args.n c.args.r (process_at (program rows) c.args.r) (kept_lists c.args.self.now) c.if-n-eq1.false
