-- The loop keeps the rows of the lines before the line. Assumes nothing.
use native.Mathlib.Omega.{arith}
use borrow.Author.Rules.{rules}
use lib.ListN.{get_or}
use Rattle.read_counts.proofs.CountSteps.{sorts-length, the-line, summed-nothing, summed-all, summed-next}
use Rattle.read_counts.proofs.count_rows.Goals as goal

pub loop-line-init : goal.loop-line-init
loop-line-init c = summed-nothing c.args.count c.args.kinds.now c.args.ends.now c.args.sorts.now c.requires

pub bounds-kinds-line : goal.bounds-kinds-line
bounds-kinds-line c =
    let a = c.args in
    let x = the-line a.count a.kinds.now a.ends.now a.sorts.now c.requires c.loop-line.line c.loop-line.first c.loop-line.invariant.stands c.loop-line-test.true in
    x.kind-there

pub offset_bounds-ends-line : goal.offset_bounds-ends-line
offset_bounds-ends-line c =
    omega (arith, c.loop-line-test.true, c.requires.few)

pub bounds-ends-line : goal.bounds-ends-line
bounds-ends-line c =
    let a = c.args in
    let x = the-line a.count a.kinds.now a.ends.now a.sorts.now c.requires c.loop-line.line c.loop-line.first c.loop-line.invariant.stands c.loop-line-test.true in
    x.end-there

pub overflow_cast-end : goal.overflow_cast-end
overflow_cast-end c =
    let a = c.args in
    let x = the-line a.count a.kinds.now a.ends.now a.sorts.now c.requires c.loop-line.line c.loop-line.first c.loop-line.invariant.stands c.loop-line-test.true in
    omega (arith, x.ends-within, c.requires.short)

pub overflow_add-rows : goal.overflow_add-rows
overflow_add-rows c =
    let a = c.args in
    let k = summed-next a.count a.kinds.now a.ends.now a.sorts.now c.requires c.loop-line.rows c.loop-line.line c.loop-line.first c.loop-line.invariant c.loop-line-test.true in
    omega (arith, c.declaration_rows-rows.ensures, k.few, k.stands.within, k.stands.inside, c.requires.few, c.requires.short)

pub slice_bounds-line_rows-count : goal.slice_bounds-line_rows-count
slice_bounds-line_rows-count c =
    let a = c.args in
    let x = the-line a.count a.kinds.now a.ends.now a.sorts.now c.requires c.loop-line.line c.loop-line.first c.loop-line.invariant.stands c.loop-line-test.true in
    x.wide

pub slice_bounds-line_rows-start : goal.slice_bounds-line_rows-start
slice_bounds-line_rows-start c =
    let a = c.args in
    let x = the-line a.count a.kinds.now a.ends.now a.sorts.now c.requires c.loop-line.line c.loop-line.first c.loop-line.invariant.stands c.loop-line-test.true in
    search (rules, x.wide)

pub slice_bounds-line_rows-end : goal.slice_bounds-line_rows-end
slice_bounds-line_rows-end c =
    let a = c.args in
    let x = the-line a.count a.kinds.now a.ends.now a.sorts.now c.requires c.loop-line.line c.loop-line.first c.loop-line.invariant.stands c.loop-line-test.true in
    search (rules, x.wide, x.ends-within)

pub line_rows-rows-requires : goal.line_rows-rows-requires
line_rows-rows-requires c =
    let a = c.args in
    let x = the-line a.count a.kinds.now a.ends.now a.sorts.now c.requires c.loop-line.line c.loop-line.first c.loop-line.invariant.stands c.loop-line-test.true in
    omega (arith, sorts-length a.sorts.now c.loop-line.first (get_or a.ends.now c.loop-line.line 0) x.wide x.ends-within, x.ends-within, c.requires.short)

pub overflow_add-rows-in-loop-line : goal.overflow_add-rows-in-loop-line
overflow_add-rows-in-loop-line c =
    let a = c.args in
    let k = summed-next a.count a.kinds.now a.ends.now a.sorts.now c.requires c.loop-line.rows c.loop-line.line c.loop-line.first c.loop-line.invariant c.loop-line-test.true in
    omega (arith, c.declaration_rows-rows.ensures, c.line_rows-rows.ensures, k.few, k.stands.within, k.stands.inside, c.requires.few, c.requires.short)

pub loop-line-preserved : goal.loop-line-preserved
loop-line-preserved c =
    let a = c.args in
    let k = summed-next a.count a.kinds.now a.ends.now a.sorts.now c.requires c.loop-line.rows c.loop-line.line c.loop-line.first c.loop-line.invariant c.loop-line-test.true in
    rw (c.declaration_rows-rows.ensures, c.line_rows-rows.ensures) k

pub returns : goal.returns
returns c =
    let a = c.args in
    summed-all a.count a.kinds.now a.ends.now a.sorts.now c.requires c.loop-line.rows c.loop-line.line c.loop-line.first c.loop-line.invariant c.loop-line-test.false
