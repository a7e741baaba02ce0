-- The loop keeps that the rows of each line before the line are noted. Assumes nothing.
use native.Mathlib.Omega.{arith}
use borrow.Author.Rules.{rules}
use lib.ListN.{get_or}
use Rattle.read_tokens.specs.Held.{part}
use Rattle.read_counts.proofs.CountSteps.{sorts-length, the-line, noted_nothing, noted-all, noted-next}
use Rattle.read_counts.proofs.KindRows.{line-few}
use Rattle.read_counts.proofs.own_rows.Goals as goal

pub loop-line-init : goal.loop-line-init
loop-line-init c = noted_nothing c.args.count c.args.kinds.now c.args.ends.now c.args.sorts.now c.args.owns.now c.requires.0

pub offset_bounds-ends-line : goal.offset_bounds-ends-line
offset_bounds-ends-line c =
    omega (arith, c.loop-line-test.true, c.requires.1)

pub bounds-ends-line : goal.bounds-ends-line
bounds-ends-line c =
    let a = c.args in
    let x = the-line a.count a.kinds.now a.ends.now a.sorts.now c.requires.0 c.loop-line.line c.loop-line.first c.loop-line.invariant.stands c.loop-line-test.true in
    x.end-there

pub overflow_cast-end : goal.overflow_cast-end
overflow_cast-end c =
    let a = c.args in
    let x = the-line a.count a.kinds.now a.ends.now a.sorts.now c.requires.0 c.loop-line.line c.loop-line.first c.loop-line.invariant.stands c.loop-line-test.true in
    omega (arith, x.ends-within, c.requires.0.short)

pub bounds-kinds-line : goal.bounds-kinds-line
bounds-kinds-line c =
    let a = c.args in
    let x = the-line a.count a.kinds.now a.ends.now a.sorts.now c.requires.0 c.loop-line.line c.loop-line.first c.loop-line.invariant.stands c.loop-line-test.true in
    x.kind-there

pub slice_bounds-line_rows-count : goal.slice_bounds-line_rows-count
slice_bounds-line_rows-count c =
    let a = c.args in
    let x = the-line a.count a.kinds.now a.ends.now a.sorts.now c.requires.0 c.loop-line.line c.loop-line.first c.loop-line.invariant.stands c.loop-line-test.true in
    x.wide

pub slice_bounds-line_rows-start : goal.slice_bounds-line_rows-start
slice_bounds-line_rows-start c =
    let a = c.args in
    let x = the-line a.count a.kinds.now a.ends.now a.sorts.now c.requires.0 c.loop-line.line c.loop-line.first c.loop-line.invariant.stands c.loop-line-test.true in
    search (rules, x.wide)

pub slice_bounds-line_rows-end : goal.slice_bounds-line_rows-end
slice_bounds-line_rows-end c =
    let a = c.args in
    let x = the-line a.count a.kinds.now a.ends.now a.sorts.now c.requires.0 c.loop-line.line c.loop-line.first c.loop-line.invariant.stands c.loop-line-test.true in
    search (rules, x.wide, x.ends-within)

pub line_rows-requires : goal.line_rows-requires
line_rows-requires c =
    let a = c.args in
    let x = the-line a.count a.kinds.now a.ends.now a.sorts.now c.requires.0 c.loop-line.line c.loop-line.first c.loop-line.invariant.stands c.loop-line-test.true in
    omega (arith, sorts-length a.sorts.now c.loop-line.first (get_or a.ends.now c.loop-line.line 0) x.wide x.ends-within, x.ends-within, c.requires.0.short)

pub overflow_cast-owns : goal.overflow_cast-owns
overflow_cast-owns c =
    let a = c.args in
    let x = the-line a.count a.kinds.now a.ends.now a.sorts.now c.requires.0 c.loop-line.line c.loop-line.first c.loop-line.invariant.stands c.loop-line-test.true in
    let ss = part a.sorts.now c.loop-line.first (get_or a.ends.now c.loop-line.line 0) in
    omega (arith, c.line_rows.ensures, line-few (get_or a.kinds.now c.loop-line.line 0) ss, sorts-length a.sorts.now c.loop-line.first (get_or a.ends.now c.loop-line.line 0) x.wide x.ends-within, x.ends-within, c.requires.0.short)

pub offset_bounds-owns-line : goal.offset_bounds-owns-line
offset_bounds-owns-line c =
    omega (arith, c.loop-line-test.true, c.requires.1)

pub bounds-owns-line : goal.bounds-owns-line
bounds-owns-line c =
    omega (arith, c.loop-line-test.true, c.requires.1)

pub loop-line-preserved : goal.loop-line-preserved
loop-line-preserved c =
    let a = c.args in
    let k = noted-next a.count a.kinds.now a.ends.now a.sorts.now a.owns.now c.requires.0 c.loop-line.owns c.loop-line.line c.loop-line.first c.loop-line.invariant c.loop-line-test.true in
    rw c.line_rows.ensures k

pub returns : goal.returns
returns c =
    let a = c.args in
    noted-all a.count a.kinds.now a.ends.now a.sorts.now a.owns.now c.requires.0 c.loop-line.owns c.loop-line.line c.loop-line.first c.loop-line.invariant c.loop-line-test.false
