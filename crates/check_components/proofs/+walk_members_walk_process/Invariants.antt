use Prim.Native.Nat.{◌/◌, ◌-◌}
use lib.ListN.{length}
use Rattle.check_components.proofs.+walk_members_walk_process.Given as goal

abbrev pub decreases-walk_members : goal.decreases-walk_members
decreases-walk_members l = length l.rows.now / 4 - l.m

abbrev pub decreases-walk_process : goal.decreases-walk_process
decreases-walk_process l = length l.rows.now / 4 - l.r
