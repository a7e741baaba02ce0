use Rattle.std.proofs.Common.{◌-◌}
use Rattle.run_notes.proofs.Notes.+leave_options.Given as goal

abbrev pub decreases-leave_options : goal.decreases-leave_options
decreases-leave_options l = 1025 - l.m
