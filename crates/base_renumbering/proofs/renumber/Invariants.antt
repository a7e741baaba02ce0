use mathlib.Core.Path.{◌≡◌}
use Prim.Native.Nat.{ℕ, ◌*◌, ◌≤◌, ◌<◌}
use lib.ListN.{length}
use Rattle.meaning.specs.Rows.{row_count}
use Rattle.meaning.specs.Declarations.{declarations}
use Rattle.base_top_down.specs.New.{RightNumber}
use Rattle.base_renumbering.proofs.WriteLaws.{WrittenTo}
use Rattle.base_renumbering.proofs.renumber.Given as goal

abbrev pub invariant-loop-r : goal.invariant-loop-r
invariant-loop-r l = (l.d ≡ declarations l.rows) × (l.n ≡ row_count l.rows) × (l.d ≤ l.r) × (l.r ≤ l.n) × (length l.out ≡ 4 * row_count l.rows) × ((p : ℕ) → p < 4 * declarations l.rows → RightNumber l.rows l.out p) × WrittenTo l.rows l.numbers l.r l.out
