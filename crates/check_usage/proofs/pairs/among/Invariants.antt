use mathlib.Core.Path.{◌≡◌}
use Prim.Native.Nat.{◌+◌, ◌*◌, ◌≤◌}
use lib.ListN.{drop}
use Rattle.check_usage.specs.Search.{meet_by, tests_of, searched}
use Rattle.check_usage.proofs.pairs.among.Given as goal

abbrev pub invariant-loop-i : goal.invariant-loop-i
invariant-loop-i l = (searched l.before (tests_of (meet_by l.sets l.number) l.members) ≡ searched l.pairs (tests_of (meet_by l.sets l.number) (drop l.i l.members))) × (l.pairs ≤ l.before + 1024 * l.i)
