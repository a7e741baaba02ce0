use Prim.Native.Nat.{◌≤◌}
use Rattle.meaning.specs.Declarations.{declarations}
use Rattle.meaning.specs.Rows.{row_count}
use Rattle.run_preparing.specs.Notes.{Filled}
use Rattle.run_preparing.proofs.fill.Given as goal

abbrev pub invariant-loop-r : goal.invariant-loop-r
invariant-loop-r l = (l.r ≤ row_count l.rows) × (row_count l.rows ≤ 1024) × (declarations l.rows ≤ l.r) × Filled l.rows l.r l.code
