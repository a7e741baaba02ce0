use mathlib.Core.Path.{◌≡◌}
use Prim.Native.Nat.{◌-◌, ◌≤◌}
use lib.ListN.{length}
use Rattle.meaning.specs.Rows.{row_count}
use Rattle.meaning.specs.Declarations.{declarations}
use Rattle.base_numbering.specs.Arrays.{numbered_rows}
use Rattle.base_numbering.proofs.Lists.{RightTo}
use Rattle.base_numbering.proofs.number.Given as goal

abbrev pub invariant-loop-r : goal.invariant-loop-r
invariant-loop-r l = (l.d ≡ declarations l.rows) × (l.n ≡ row_count l.rows) × (l.d ≤ l.r) × (l.r ≤ l.n) × (length l.numbers ≡ length l.initial.numbers) × RightTo l.rows l.r l.numbers × (numbered_rows l.rows l.d (l.n - l.d) l.initial.numbers ≡ numbered_rows l.rows l.r (l.n - l.r) l.numbers)
