use Prim.Native.Nat.{◌-◌}
use Rattle.meaning.specs.Rows.{row_count}
use Rattle.check_usage.proofs.MemberSteps.{Put}
use Rattle.check_usage.proofs.members.members_of.Given as goal

abbrev pub invariant-loop-p : goal.invariant-loop-p
invariant-loop-p l = Put l.rows l.m l.members l.count l.at

abbrev pub decreases-loop-p : goal.decreases-loop-p
decreases-loop-p l = row_count l.rows - l.at
