use mathlib.Core.Path.{◌≡◌}
use Prim.Native.Nat.{◌*◌, ◌≤◌}
use Rattle.meaning.specs.Declarations.{sum_below, host_channels_at, capacity_at}
use Rattle.meaning.specs.Buffers.{decoded}
use Rattle.write_bytes.specs.Writing.{put_lines}
use Rattle.write_lines.proofs.RowLines.{outs_below}
use Rattle.write_lines.proofs.lines.put_outputs.Given as goal

abbrev pub invariant-loop-r : goal.invariant-loop-r
invariant-loop-r l = (l.first ≡ sum_below (capacity_at l.rows) l.r) × (l.first ≤ l.r * 4294967296) × (l.port ≡ sum_below (host_channels_at 2 l.rows) l.r) × (l.port ≤ l.r * 4294967296) × ((l.place, l.out) ≡ put_lines (outs_below l.rows l.counts (decoded l.numbers l.marks) l.r) (l.at, l.initial.out))
