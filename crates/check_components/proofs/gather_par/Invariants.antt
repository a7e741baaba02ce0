use Prim.Native.Nat.{◌-◌}
use Rattle.meaning.specs.Rows.{row_count}
use Rattle.check_components.proofs.Gathering.{Gathering}
use Rattle.check_components.proofs.gather_par.Given as goal

abbrev pub invariant-loop-all : goal.invariant-loop-all
invariant-loop-all l = Gathering l.rows l.r l.sets l.all l.at

abbrev pub decreases-loop-all : goal.decreases-loop-all
decreases-loop-all l = row_count l.rows - l.at
