use Prim.Native.Nat.{◌/◌, ◌-◌}
use lib.ListN.{length}
use Rattle.check_components.proofs.+expression.Given as goal

abbrev pub decreases-expression : goal.decreases-expression
decreases-expression l = length l.rows.now / 4 - l.e
