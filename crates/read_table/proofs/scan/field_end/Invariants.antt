use mathlib.Core.Path.{◌≡◌}
use Prim.Native.Nat.{◌+◌}
use lib.ListN.{drop}
use Rattle.read_table.specs.Fields.{field_size}
use Rattle.read_table.proofs.scan.field_end.Given as goal

abbrev pub invariant-loop-at : goal.invariant-loop-at
invariant-loop-at l = l.at + field_size (drop l.at l.bytes) ≡ l.from + field_size (drop l.from l.bytes)
