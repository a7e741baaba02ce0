-- An outcome's number is from 1 to 4.
use Prim.Native.Nat.{◌≤◌}
use native.Mathlib.Omega.{arith}
use Rattle.meaning.specs.declared.Outcome.{Outcome}
use Rattle.meaning.specs.declared.Outcome.TheVariants.{Ended, Stuck, Broken, Spent}
use Rattle.occam_table.specs.Packing.{outcome_number}

pub outcome-some : (o : Outcome) → 1 ≤ outcome_number o
outcome-some Ended = omega arith
outcome-some Stuck = omega arith
outcome-some Broken = omega arith
outcome-some Spent = omega arith

pub outcome-small : (o : Outcome) → outcome_number o ≤ 4
outcome-small Ended = omega arith
outcome-small Stuck = omega arith
outcome-small Broken = omega arith
outcome-small Spent = omega arith
