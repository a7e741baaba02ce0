use mathlib.Core.Path.{◌≡◌}
use Rattle.meaning.specs.Rows.{row_count}
use Rattle.check_blocks.specs.Blocks.{BlocksNoted}
use Rattle.check_blocks.proofs.note_blocks.Given as goal

abbrev pub invariant-loop-r : goal.invariant-loop-r
invariant-loop-r l = (l.n ≡ row_count l.rows) × BlocksNoted l.rows l.r l.blocks
