use mathlib.Core.Path.{◌≡◌}
use mathlib.Core.List.{map}
use Prim.Native.Nat.{◌+◌, ◌≤◌}
use lib.ListN.{get_or, drop}
use Rattle.check_usage.specs.Search.{meet_by, searched}
use Rattle.check_usage.proofs.pairs.with_later.Given as goal

abbrev pub invariant-loop-j : goal.invariant-loop-j
invariant-loop-j l = (searched l.before (map (meet_by l.sets l.number (get_or l.members l.i 0)) (drop (l.i + 1) l.members)) ≡ searched l.pairs (map (meet_by l.sets l.number (get_or l.members l.i 0)) (drop l.j l.members))) × (l.pairs ≤ l.before + l.j)
