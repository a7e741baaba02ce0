-- `change_up` meets its contract: the change, the start of its members, the way up.
use Rattle.run_settling.proofs.GoingUp.{change-goes-up}
use Rattle.run_starting.specs.Kept.{kept_lists}
use Rattle.run_settling.proofs.change_up.Goals as goal

pub start_if-requires : goal.start_if-requires
start_if-requires c =
    record { table = (c.requires.table.0, c.requires.table.1.0); row = c.requires.row }

pub returns : goal.returns
returns c =
    λ rows P i. change-goes-up rows c.args.r c.args.n (kept_lists c.args.kept.now) (c.start_if.ensures rows P) (c.settle_up.ensures rows P i)
