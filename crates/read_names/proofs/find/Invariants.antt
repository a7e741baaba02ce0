use Prim.Native.Nat.{◌<◌}
use lib.ListN.{length}
use Rattle.read_names.specs.Listed.{names_at}
use Rattle.read_names.proofs.FindSteps.{Finding, chain_left}
use Rattle.read_names.proofs.find.Given as goal

abbrev pub invariant-loop-at : goal.invariant-loop-at
invariant-loop-at l = (l.at < 65536) × Finding (names_at l.text l.froms l.sizes) l.name l.at

abbrev pub decreases-loop-at : goal.decreases-loop-at
decreases-loop-at l = chain_left (length (names_at l.text l.froms l.sizes)) l.at
