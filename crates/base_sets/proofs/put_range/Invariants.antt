use mathlib.Core.Path.{◌≡◌}
use Prim.Native.Nat.{◌+◌, ◌-◌}
use Rattle.meaning.specs.Usage.{numbers_from}
use Rattle.base_sets.specs.Sets.{with_all, in_sort}
use Rattle.base_sets.proofs.put_range.Given as goal

abbrev pub invariant-loop-k : goal.invariant-loop-k
invariant-loop-k l = with_all l.initial.sets (in_sort l.sort (numbers_from l.first l.n)) ≡ with_all l.sets (in_sort l.sort (numbers_from (l.first + l.k) (l.n - l.k)))
