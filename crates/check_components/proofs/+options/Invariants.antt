use Prim.Native.Nat.{◌/◌, ◌-◌}
use lib.ListN.{length}
use Rattle.check_components.proofs.+options.Given as goal

abbrev pub decreases-options : goal.decreases-options
decreases-options l = length l.rows.now / 4 - l.m
