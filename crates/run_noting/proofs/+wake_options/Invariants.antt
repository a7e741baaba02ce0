use Rattle.std.proofs.Common.{◌-◌}
use Rattle.run_noting.proofs.+wake_options.Given as goal

abbrev pub decreases-wake_options : goal.decreases-wake_options
decreases-wake_options l = 1025 - l.m
