use mathlib.Core.Path.{◌≡◌}
use Prim.Native.Nat.{◌*◌, ◌≤◌}
use Rattle.meaning.specs.Declarations.{sum_below, cells_at}
use Rattle.meaning.specs.Buffers.{decoded}
use Rattle.write_bytes.specs.Writing.{put_lines}
use Rattle.write_lines.proofs.RowLines.{cells_below}
use Rattle.write_lines.proofs.lines.put_variables.Given as goal

abbrev pub invariant-loop-r : goal.invariant-loop-r
invariant-loop-r l = (l.first ≡ sum_below (cells_at l.rows) l.r) × (l.first ≤ l.r * 4294967296) × ((l.place, l.out) ≡ put_lines (cells_below l.rows (decoded l.values l.marks) l.r) (l.at, l.initial.out))
