use mathlib.Core.Path.{◌≡◌}
use Prim.Native.Nat.{◌+◌, ◌*◌, ◌≤◌}
use lib.ListN.{length}
use Rattle.meaning.specs.Tree.{contents}
use Rattle.meaning.specs.Usage.{comparisons_of}
use Rattle.check_usage.specs.Search.{verdict_on}
use Rattle.check_usage.proofs.FirstClash.{from_row}
use Rattle.check_usage.proofs.in_all.Given as goal

abbrev pub invariant-loop-r : goal.invariant-loop-r
invariant-loop-r l = (verdict_on l.before (comparisons_of l.number (contents l.rows)) ≡ verdict_on l.pairs (from_row l.rows l.number l.r)) × (l.pairs ≤ l.before + 1048576 * l.r) × (length l.members ≡ 1024)
