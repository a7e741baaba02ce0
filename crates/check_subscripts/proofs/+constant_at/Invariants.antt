use Prim.Native.Nat.{◌/◌, ◌-◌}
use lib.ListN.{length}
use Rattle.check_subscripts.proofs.+constant_at.Given as goal

abbrev pub decreases-constant_at : goal.decreases-constant_at
decreases-constant_at l = length l.rows.now / 4 - l.e
