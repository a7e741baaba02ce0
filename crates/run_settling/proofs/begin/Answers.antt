-- `begin` meets its contract.
use Rattle.run_starting.proofs.Starting.{row-starts}
use Rattle.run_starting.specs.Kept.{kept_lists}
use Rattle.run_settling.proofs.begin.Goals as goal

pub returns : goal.returns
returns c =
    λ rows P i. row-starts rows c.args.root (kept_lists c.args.kept.now) i (c.start_row.ensures rows P)
