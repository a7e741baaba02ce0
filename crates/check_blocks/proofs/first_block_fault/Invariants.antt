use mathlib.Core.Path.{◌≡◌}
use mathlib.Core.Bool.{false}
use Prim.Native.Nat.{ℕ, ◌<◌}
use Rattle.meaning.specs.Rows.{row_count}
use Rattle.meaning.specs.Declarations.{declarations}
use Rattle.meaning.specs.Verdict.{block_fault_at}
use Rattle.check_blocks.proofs.first_block_fault.Given as goal

abbrev pub invariant-loop-r : goal.invariant-loop-r
invariant-loop-r l = (l.d ≡ declarations l.rows) × (l.n ≡ row_count l.rows) × ((j : ℕ) → j < l.r → block_fault_at l.rows (declarations l.rows) j ≡ false)
