use Rattle.std.proofs.Common.{◌+◌, ◌-◌, ◌*◌}
use Rattle.run_starting.proofs.kept.Kept.+start_beneath_start_members_start_row.Given as goal

abbrev pub decreases-start_beneath : goal.decreases-start_beneath
decreases-start_beneath l = 2 * (1025 - l.r)

abbrev pub decreases-start_members : goal.decreases-start_members
decreases-start_members l = 2 * (1025 - l.m)

abbrev pub decreases-start_row : goal.decreases-start_row
decreases-start_row l = 2 * (1025 - l.r) + 1
