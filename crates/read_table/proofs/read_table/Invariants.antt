use Prim.Native.Nat.{◌-◌}
use lib.ListN.{length}
use Rattle.read_table.proofs.Reading.{Reading}
use Rattle.read_table.proofs.read_table.Given as goal

abbrev pub invariant-loop-at : goal.invariant-loop-at
invariant-loop-at l = Reading l.bytes l.initial.rows l.rows l.count l.at

abbrev pub decreases-loop-at : goal.decreases-loop-at
decreases-loop-at l = length l.bytes - l.at
