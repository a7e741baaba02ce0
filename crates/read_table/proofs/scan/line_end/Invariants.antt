use mathlib.Core.Path.{◌≡◌}
use Prim.Native.Nat.{◌+◌}
use lib.ListN.{drop}
use Rattle.meaning.specs.Lines.{line_size}
use Rattle.read_table.proofs.scan.line_end.Given as goal

abbrev pub invariant-loop-at : goal.invariant-loop-at
invariant-loop-at l = l.at + line_size (drop l.at l.bytes) ≡ l.from + line_size (drop l.from l.bytes)
