use mathlib.Core.Path.{◌≡◌}
use mathlib.Core.List.{◌++◌}
use lib.ListN.{take, drop}
use Rattle.base_sets.specs.Sets.{set_union}
use Rattle.base_sets.proofs.join.Given as goal

abbrev pub invariant-loop-i : goal.invariant-loop-i
invariant-loop-i l = set_union l.initial.sets l.more ≡ take l.i l.sets ++ set_union (drop l.i l.sets) (drop l.i l.more)
