use Rattle.read_counts.proofs.TokenSteps.{Counted}
use Rattle.read_counts.proofs.token_rows.Given as goal

abbrev pub invariant-loop-sort : goal.invariant-loop-sort
invariant-loop-sort l = Counted l.sorts l.rows l.less l.sort-index
