use Rattle.std.proofs.Common.{◌-◌}
use Rattle.run_starting.proofs.reset.+reset_reset_members_reset_started.Given as goal

abbrev pub decreases-reset : goal.decreases-reset
decreases-reset l = 1025 - l.r

abbrev pub decreases-reset_members : goal.decreases-reset_members
decreases-reset_members l = 1025 - l.m

abbrev pub decreases-reset_started : goal.decreases-reset_started
decreases-reset_started l = 1025 - l.m
