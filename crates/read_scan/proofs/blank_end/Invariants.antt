use mathlib.Core.Path.{◌≡◌}
use Prim.Native.Nat.{◌+◌}
use lib.ListN.{drop}
use Rattle.read_scan.specs.Nexts.{blanks}
use Rattle.read_scan.proofs.blank_end.Given as goal

abbrev pub invariant-loop-at : goal.invariant-loop-at
invariant-loop-at l = l.at + blanks (drop l.at l.line) ≡ l.from + blanks (drop l.from l.line)
