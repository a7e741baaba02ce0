use mathlib.Core.Path.{◌≡◌}
use Rattle.meaning.specs.Rows.{row_count}
use Rattle.meaning.specs.Verdict.{targets_below}
use Rattle.check_tree.specs.Counts.{one_more_for}
use Rattle.check_tree.proofs.count_references.Given as goal

abbrev pub invariant-loop-r : goal.invariant-loop-r
invariant-loop-r l = (l.n ≡ row_count l.rows) × (l.counts ≡ one_more_for l.initial.counts (targets_below l.rows l.r))
