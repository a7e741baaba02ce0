use Prim.Native.Nat.{◌/◌, ◌-◌}
use lib.ListN.{length}
use Rattle.check_components.proofs.+guard_input.Given as goal

abbrev pub decreases-guard_input : goal.decreases-guard_input
decreases-guard_input l = length l.rows.now / 4 - l.g
