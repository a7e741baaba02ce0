use Rattle.std.proofs.Common.{◌-◌}
use Rattle.run_noting.proofs.+note_options.Given as goal

abbrev pub decreases-note_options : goal.decreases-note_options
decreases-note_options l = 1025 - l.m
