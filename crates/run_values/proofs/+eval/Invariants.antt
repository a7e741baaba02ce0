use Rattle.std.proofs.Common.{◌-◌}
use Rattle.run_values.proofs.+eval.Given as goal

abbrev pub decreases-eval : goal.decreases-eval
decreases-eval l = 1025 - l.r
