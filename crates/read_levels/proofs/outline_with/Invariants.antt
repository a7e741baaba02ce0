use Prim.Native.Nat.{◌-◌}
use lib.ListN.{length}
use Rattle.read_levels.specs.Listing.{listing}
use Rattle.read_levels.proofs.Outlining.{Outlining}
use Rattle.read_levels.proofs.outline_with.Given as goal

abbrev pub invariant-loop-at : goal.invariant-loop-at
invariant-loop-at l = Outlining l.text l.initial.levels (listing l.initial.kinds l.initial.ends l.initial.sorts l.initial.values) l.initial.stack l.levels (listing l.kinds l.ends l.sorts l.values) l.stack l.depth l.count l.first l.at

abbrev pub decreases-loop-at : goal.decreases-loop-at
decreases-loop-at l = length l.text - l.at
