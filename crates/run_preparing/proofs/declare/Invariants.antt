use mathlib.Core.Path.{◌≡◌}
use Prim.Native.Nat.{◌≤◌}
use Rattle.meaning.specs.Declarations.{declarations, sum_below, capacity_at}
use Rattle.base_layout.specs.Names.{sums_below}
use Rattle.run_preparing.specs.Notes.{Filled}
use Rattle.run_preparing.proofs.declare.Given as goal

abbrev pub invariant-loop-r : goal.invariant-loop-r
invariant-loop-r l = (l.r ≤ l.n) × (l.n ≡ declarations l.rows) × (l.n ≤ 1024) × (l.s ≡ sums_below l.rows l.r) × (l.strip ≡ sum_below (capacity_at l.rows) l.r) × Filled l.rows l.r l.code
