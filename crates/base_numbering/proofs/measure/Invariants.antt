use mathlib.Core.Path.{◌≡◌}
use Prim.Native.Nat.{◌≤◌}
use lib.ListN.{length}
use Rattle.meaning.specs.Rows.{row_count}
use Rattle.meaning.specs.Declarations.{declarations}
use Rattle.base_top_down.specs.New.{Sizes}
use Rattle.base_numbering.specs.Arrays.{sizes_from}
use Rattle.base_numbering.proofs.measure.Given as goal

abbrev pub invariant-loop-r : goal.invariant-loop-r
invariant-loop-r l = (l.d ≡ declarations l.rows) × (l.d ≤ l.r) × (l.r ≤ row_count l.rows) × (length l.sizes ≡ length l.initial.sizes) × Sizes l.rows l.r l.sizes × (l.sizes ≡ sizes_from l.rows l.r l.initial.sizes)
