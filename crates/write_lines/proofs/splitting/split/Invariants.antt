use Prim.Native.Nat.{◌-◌}
use lib.ListN.{length}
use Rattle.write_lines.proofs.Splits.{Passed}
use Rattle.write_lines.proofs.splitting.split.Given as goal

abbrev pub invariant-loop-at : goal.invariant-loop-at
invariant-loop-at l = Passed l.input l.at

abbrev pub decreases-loop-at : goal.decreases-loop-at
decreases-loop-at l = length l.input - l.at
