use mathlib.Core.Path.{◌≡◌}
use mathlib.Core.Bool.{false}
use Prim.Native.Nat.{ℕ, ◌≤◌, ◌<◌}
use Rattle.meaning.specs.Rows.{row_count}
use Rattle.meaning.specs.Verdict.{targets_below, tree_fault_at}
use Rattle.check_tree.proofs.first_row_fault_at.Given as goal

abbrev pub invariant-loop-r : goal.invariant-loop-r
invariant-loop-r l = (l.n ≡ row_count l.rows) × (l.d ≤ l.n) × ((j : ℕ) → j < l.r → tree_fault_at l.rows l.d (targets_below l.rows (row_count l.rows)) j ≡ false)
