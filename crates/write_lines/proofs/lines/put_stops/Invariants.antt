use mathlib.Core.Path.{◌≡◌}
use lib.ListN.{length, drop}
use Rattle.meaning.specs.Printing.{stop_lines}
use Rattle.write_bytes.specs.Writing.{put_lines}
use Rattle.write_lines.proofs.lines.put_stops.Given as goal

abbrev pub invariant-loop-i : goal.invariant-loop-i
invariant-loop-i l = (length l.out ≡ length l.initial.out) × (put_lines (stop_lines l.i (drop l.i l.states)) (l.place, l.out) ≡ put_lines (stop_lines 0 l.states) (l.at, l.initial.out))
