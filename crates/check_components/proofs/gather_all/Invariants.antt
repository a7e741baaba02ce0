use mathlib.Core.Path.{◌≡◌}
use Prim.Native.Nat.{◌*◌, ◌≤◌}
use lib.ListN.{length}
use Rattle.meaning.specs.Rows.{row_count}
use Rattle.check_components.specs.RowSets.{SetsFrom}
use Rattle.check_components.proofs.gather_all.Given as goal

abbrev pub invariant-loop-r : goal.invariant-loop-r
invariant-loop-r l = SetsFrom l.rows l.sets l.r × (l.r ≤ row_count l.rows) × (length l.initial.sets ≡ 16 * row_count l.rows)
