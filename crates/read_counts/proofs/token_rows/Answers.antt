-- The loop keeps the rows that the tokens before the place add and take away. Assumes nothing.
use mathlib.Core.Path.{◌∙◌}
use native.Mathlib.Omega.{arith}
use Rattle.read_counts.proofs.TokenSteps.{rows_few, less-few, counted-nothing, counted-all, counted_next}
use Rattle.read_counts.proofs.token_rows.Goals as goal

pub loop-sort-init : goal.loop-sort-init
loop-sort-init c = counted-nothing c.args.sorts.now

pub overflow_add-rows : goal.overflow_add-rows
overflow_add-rows c =
    let sorts = c.args.sorts.now in
    let k = counted_next sorts c.loop-sort.rows c.loop-sort.less c.loop-sort.sort-index c.loop-sort.invariant c.loop-sort-test.true in
    omega (arith, c.sort_rows-rows.ensures, k.full, rows_few sorts, c.requires)

pub overflow_add-less : goal.overflow_add-less
overflow_add-less c =
    let sorts = c.args.sorts.now in
    let k = counted_next sorts c.loop-sort.rows c.loop-sort.less c.loop-sort.sort-index c.loop-sort.invariant c.loop-sort-test.true in
    omega (arith, c.sort_less-less.ensures, k.taken, less-few sorts, c.requires)

pub loop-sort-preserved : goal.loop-sort-preserved
loop-sort-preserved c =
    let k = counted_next c.args.sorts.now c.loop-sort.rows c.loop-sort.less c.loop-sort.sort-index c.loop-sort.invariant c.loop-sort-test.true in
    rw (c.sort_rows-rows.ensures, c.sort_less-less.ensures) k

pub returns : goal.returns
returns c =
    c.saturating_sub.ensures ∙ counted-all c.args.sorts.now c.loop-sort.rows c.loop-sort.less c.loop-sort.sort-index c.loop-sort.invariant c.loop-sort-test.false
