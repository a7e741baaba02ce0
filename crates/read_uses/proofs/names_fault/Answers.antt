-- The loop keeps that names are in order on the lines before one, and resolved. Assumes nothing.
use borrow.Author.Tests.{le-leb, lt-leb}
use native.Mathlib.Omega.{arith}
use Rattle.read_uses.proofs.NameSteps.{checking-start, names-known, none_left, all-resolved, at-line, line-held, fault-here, new-length, checking-declared, checking-other, checking-same}
use Rattle.read_uses.proofs.names_fault.Goals as goal
use Rattle.read_uses.proofs.names_fault.Goals.{then-declares, else-declares}

pub loop-line-init : goal.loop-line-init
loop-line-init c =
    checking-start c.args.text.now c.args.count c.args.kinds.now c.args.ends.now c.args.sorts.now c.args.values.now c.requires.0

pub bounds-ends-line : goal.bounds-ends-line
bounds-ends-line c =
    (at-line c.args.text.now c.args.count c.args.kinds.now c.args.ends.now c.args.sorts.now c.args.values.now c.requires.0 c.loop-line.line c.loop-line.first c.loop-line.seen c.loop-line.values c.loop-line.invariant c.loop-line-test.true).in-ends

pub overflow_cast-end : goal.overflow_cast-end
overflow_cast-end c = omega (arith, c.shared_slice_known-in-loop-line-1.given c.loop-line.line)

pub bounds-kinds-line : goal.bounds-kinds-line
bounds-kinds-line c =
    (at-line c.args.text.now c.args.count c.args.kinds.now c.args.ends.now c.args.sorts.now c.args.values.now c.requires.0 c.loop-line.line c.loop-line.first c.loop-line.seen c.loop-line.values c.loop-line.invariant c.loop-line-test.true).in-kinds

pub slice_bounds-resolve_line-count : goal.slice_bounds-resolve_line-count
slice_bounds-resolve_line-count c =
    (at-line c.args.text.now c.args.count c.args.kinds.now c.args.ends.now c.args.sorts.now c.args.values.now c.requires.0 c.loop-line.line c.loop-line.first c.loop-line.seen c.loop-line.values c.loop-line.invariant c.loop-line-test.true).begins

pub slice_bounds-resolve_line-start : goal.slice_bounds-resolve_line-start
slice_bounds-resolve_line-start c =
    (at-line c.args.text.now c.args.count c.args.kinds.now c.args.ends.now c.args.sorts.now c.args.values.now c.requires.0 c.loop-line.line c.loop-line.first c.loop-line.seen c.loop-line.values c.loop-line.invariant c.loop-line-test.true).begins

pub slice_bounds-resolve_line-end : goal.slice_bounds-resolve_line-end
slice_bounds-resolve_line-end c =
    (at-line c.args.text.now c.args.count c.args.kinds.now c.args.ends.now c.args.sorts.now c.args.values.now c.requires.0 c.loop-line.line c.loop-line.first c.loop-line.seen c.loop-line.values c.loop-line.invariant c.loop-line-test.true).in-sorts

pub offset_bounds-values-first : goal.offset_bounds-values-first
offset_bounds-values-first c =
    let e = (at-line c.args.text.now c.args.count c.args.kinds.now c.args.ends.now c.args.sorts.now c.args.values.now c.requires.0 c.loop-line.line c.loop-line.first c.loop-line.seen c.loop-line.values c.loop-line.invariant c.loop-line-test.true).early in
    omega (arith, e)

pub slice_bounds-resolve_line-count-in-loop-line : goal.slice_bounds-resolve_line-count-in-loop-line
slice_bounds-resolve_line-count-in-loop-line c =
    (at-line c.args.text.now c.args.count c.args.kinds.now c.args.ends.now c.args.sorts.now c.args.values.now c.requires.0 c.loop-line.line c.loop-line.first c.loop-line.seen c.loop-line.values c.loop-line.invariant c.loop-line-test.true).begins

pub slice_bounds-resolve_line-start-in-loop-line : goal.slice_bounds-resolve_line-start-in-loop-line
slice_bounds-resolve_line-start-in-loop-line c =
    (at-line c.args.text.now c.args.count c.args.kinds.now c.args.ends.now c.args.sorts.now c.args.values.now c.requires.0 c.loop-line.line c.loop-line.first c.loop-line.seen c.loop-line.values c.loop-line.invariant c.loop-line-test.true).begins

pub slice_bounds-resolve_line-end-in-loop-line : goal.slice_bounds-resolve_line-end-in-loop-line
slice_bounds-resolve_line-end-in-loop-line c =
    (at-line c.args.text.now c.args.count c.args.kinds.now c.args.ends.now c.args.sorts.now c.args.values.now c.requires.0 c.loop-line.line c.loop-line.first c.loop-line.seen c.loop-line.values c.loop-line.invariant c.loop-line-test.true).in-values

pub resolve_line-requires : goal.resolve_line-requires
resolve_line-requires c =
    (line-held c.args.text.now c.args.count c.args.kinds.now c.args.ends.now c.args.sorts.now c.args.values.now c.requires.0 c.loop-line.line c.loop-line.first c.loop-line.seen c.loop-line.values c.loop-line.invariant c.loop-line-test.true, names-known c.args.text.now c.args.count c.args.kinds.now c.args.ends.now c.args.sorts.now c.args.values.now c.requires.0 c.args.names.froms.now c.args.names.sizes.now c.args.names.roles.now c.args.names.heads.now c.args.names.nexts.now c.requires.1 c.requires.2)

pub overflow_cast-result : goal.overflow_cast-result
overflow_cast-result c =
    let s = (at-line c.args.text.now c.args.count c.args.kinds.now c.args.ends.now c.args.sorts.now c.args.values.now c.requires.0 c.loop-line.line c.loop-line.first c.loop-line.seen c.loop-line.values c.loop-line.invariant c.loop-line-test.true).small in
    omega (arith, s)

pub shape_of-values-then-resolve_line : goal.shape_of-values-then-resolve_line
shape_of-values-then-resolve_line c =
    new-length c.args.text.now c.args.count c.args.kinds.now c.args.ends.now c.args.sorts.now c.args.values.now c.requires.0 c.loop-line.line c.loop-line.first c.loop-line.seen c.loop-line.values c.loop-line.invariant c.loop-line-test.true _ _ c.resolve_line.ensures

pub returns-then-resolve_line : goal.returns-then-resolve_line
returns-then-resolve_line c =
    let r = c.resolve_line.ensures in
    (new-length c.args.text.now c.args.count c.args.kinds.now c.args.ends.now c.args.sorts.now c.args.values.now c.requires.0 c.loop-line.line c.loop-line.first c.loop-line.seen c.loop-line.values c.loop-line.invariant c.loop-line-test.true _ _ r, fault-here c.args.text.now c.args.count c.args.kinds.now c.args.ends.now c.args.sorts.now c.args.values.now c.requires.0 c.loop-line.line c.loop-line.first c.loop-line.seen c.loop-line.values c.loop-line.invariant c.loop-line-test.true _ _ r c.if-resolve_line.true, λ e. absurd cc)

pub overflow_add-seen : goal.overflow_add-seen
overflow_add-seen c =
    let f = at-line c.args.text.now c.args.count c.args.kinds.now c.args.ends.now c.args.sorts.now c.args.values.now c.requires.0 c.loop-line.line c.loop-line.first c.loop-line.seen c.loop-line.values c.loop-line.invariant c.loop-line-test.true in
    let s = f.small in
    let w = f.few in
    omega (arith, s, w)

pub loop-line-preserved : goal.loop-line-preserved
loop-line-preserved c =
    let a = c.args in
    elim c.if-declares.branch [
      | then-declares w ↦
          checking-same w.seen-is
          (checking-declared a.text.now a.count a.kinds.now a.ends.now a.sorts.now a.values.now c.requires.0 c.loop-line.line c.loop-line.first c.loop-line.seen c.loop-line.values c.loop-line.invariant c.loop-line-test.true _ _ c.resolve_line.ensures c.if-resolve_line.false (le-leb _ _ w.if-declares.true))
      | else-declares w ↦
          checking-same w.seen-is
          (checking-other a.text.now a.count a.kinds.now a.ends.now a.sorts.now a.values.now c.requires.0 c.loop-line.line c.loop-line.first c.loop-line.seen c.loop-line.values c.loop-line.invariant c.loop-line-test.true _ _ c.resolve_line.ensures c.if-resolve_line.false (lt-leb _ _ w.if-declares.false))
    ]

pub shape_of-values : goal.shape_of-values
shape_of-values c = c.loop-line.invariant.same_length

pub returns : goal.returns
returns c =
    (c.loop-line.invariant.same_length, none_left c.args.text.now c.args.count c.args.kinds.now c.args.ends.now c.args.sorts.now c.args.values.now c.requires.0 c.loop-line.line c.loop-line.first c.loop-line.seen c.loop-line.values c.loop-line.invariant c.loop-line-test.false, λ _. all-resolved c.args.text.now c.args.count c.args.kinds.now c.args.ends.now c.args.sorts.now c.args.values.now c.requires.0 c.loop-line.line c.loop-line.first c.loop-line.seen c.loop-line.values c.loop-line.invariant c.loop-line-test.false)
