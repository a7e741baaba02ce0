-- The loop keeps what `Outlining` says: the levels that the lines so far leave open, and the lines as they are listed. Assumes nothing.
use mathlib.Core.Path.{◌≡◌, sym, ◌∙◌}
use mathlib.Core.List.{List}
use Prim.Native.Nat.{ℕ, ◌+◌, ◌≤◌}
use native.Mathlib.Omega.{arith}
use lib.ListN.{length, set, length-set}
use Rattle.std.specs.Prelude.{Option, Some, Result, Ok, ok_or}
use Rattle.std.proofs.lemmas.Result.{err_from_is_err_and}
use Rattle.read_levels.proofs.Outlining.{outlining-starts, outlining-ends, outlining-unended, outlining-unspelt, levels-ready, bounded, outlining-refused, outlining-goes-on, ok_some, ok_none}
use Rattle.read_levels.proofs.outline_with.Goals as goal

-- the stack is wide enough
wide : (stack : List ℕ) → 16386 ≤ length stack → 16386 ≤ length (set stack 0 6)
wide stack h = let e = length-set stack 0 6 in omega arith

-- what `ok_or` was given
there : {A : Type 0} (o : Option A) (e : ℕ) (x : A) (r : Result A ℕ) → r ≡ ok_or o e → r ≡ Ok x → o ≡ Some x
there o e x r i j = ok_some o e x (sym i ∙ j)

pub loop-at-init : goal.loop-at-init
loop-at-init c = outlining-starts c.args.text.now _ _ c.requires.0 c.args.stack.now c.requires.1

pub returns-in_err-line : goal.returns-in_err-line
returns-in_err-line c =
    let p = err_from_is_err_and c.from_residual.result c.from_residual.ensures.1 in
    let (n, e) = ok_none c.list_line.result (c.loop-at.count + 1) c.in_err-line.field-0.0 (sym c.ok_or.ensures.value ∙ c.in_err-line.was) in
    rw (p.1, p.2, sym e) (outlining-unspelt c.args.text.now _ _ c.requires.0 _ _ _ _ _ _ _ _ c.loop-at.invariant c.loop-at-test.true (c.list_line.ensures.refused n) _ _)

pub slice_bounds-class_of-count : goal.slice_bounds-class_of-count
slice_bounds-class_of-count c =
    let b = bounded c.args.text.now _ _ c.requires.0 _ _ _ _ _ _ _ _ c.loop-at.invariant c.loop-at-test.true (wide c.args.stack.now c.requires.1) c.list_line.result _ _ c.list_line.ensures c.in_ok-line.line (there _ _ _ _ c.ok_or.ensures.value c.in_ok-line.was) in
    omega (arith, b.begins, b.within)

pub slice_bounds-class_of-start : goal.slice_bounds-class_of-start
slice_bounds-class_of-start c =
    let b = bounded c.args.text.now _ _ c.requires.0 _ _ _ _ _ _ _ _ c.loop-at.invariant c.loop-at-test.true (wide c.args.stack.now c.requires.1) c.list_line.result _ _ c.list_line.ensures c.in_ok-line.line (there _ _ _ _ c.ok_or.ensures.value c.in_ok-line.was) in
    b.begins

pub slice_bounds-class_of-end : goal.slice_bounds-class_of-end
slice_bounds-class_of-end c =
    let b = bounded c.args.text.now _ _ c.requires.0 _ _ _ _ _ _ _ _ c.loop-at.invariant c.loop-at-test.true (wide c.args.stack.now c.requires.1) c.list_line.result _ _ c.list_line.ensures c.in_ok-line.line (there _ _ _ _ c.ok_or.ensures.value c.in_ok-line.was) in
    b.within

pub step_at-requires : goal.step_at-requires
step_at-requires c =
    let b = bounded c.args.text.now _ _ c.requires.0 _ _ _ _ _ _ _ _ c.loop-at.invariant c.loop-at-test.true (wide c.args.stack.now c.requires.1) c.list_line.result _ _ c.list_line.ensures c.in_ok-line.line (there _ _ _ _ c.ok_or.ensures.value c.in_ok-line.was) in
    let (deep, numbered) = levels-ready c.args.text.now _ _ c.requires.0 _ _ _ _ _ _ _ _ c.loop-at.invariant (wide c.args.stack.now c.requires.1) in
    (deep, numbered, rw c.class_of-class.ensures b.class-low)

pub returns-in_err-step : goal.returns-in_err-step
returns-in_err-step c =
    let p = err_from_is_err_and c.from_residual-in_err-step.result c.from_residual-in_err-step.ensures.1 in
    let (n, e) = ok_none c.step_at.result (c.loop-at.count + 1) c.in_err-step.field-0.0 (sym c.ok_or-in-loop-at.ensures.value ∙ c.in_err-step.was) in
    rw (p.1, p.2, sym e)
    (outlining-refused c.args.text.now _ _ c.requires.0 _ _ _ _ _ _ _ _ c.loop-at.invariant c.loop-at-test.true (wide c.args.stack.now c.requires.1) c.list_line.result _ _ c.list_line.ensures
    c.in_ok-line.line (there _ _ _ _ c.ok_or.ensures.value c.in_ok-line.was) c.class_of-class.result c.class_of-class.ensures c.step_at.result c.step_at.ensures n _ _)

pub overflow_cast-levels : goal.overflow_cast-levels
overflow_cast-levels c =
    let b = bounded c.args.text.now _ _ c.requires.0 _ _ _ _ _ _ _ _ c.loop-at.invariant c.loop-at-test.true (wide c.args.stack.now c.requires.1) c.list_line.result _ _ c.list_line.ensures c.in_ok-line.line (there _ _ _ _ c.ok_or.ensures.value c.in_ok-line.was) in
    omega (arith, b.level-low)

pub bounds-stack-line : goal.bounds-stack-line
bounds-stack-line c =
    let b = bounded c.args.text.now _ _ c.requires.0 _ _ _ _ _ _ _ _ c.loop-at.invariant c.loop-at-test.true (wide c.args.stack.now c.requires.1) c.list_line.result _ _ c.list_line.ensures c.in_ok-line.line (there _ _ _ _ c.ok_or.ensures.value c.in_ok-line.was) in
    omega (arith, b.stack-room)

pub overflow_add-stack : goal.overflow_add-stack
overflow_add-stack c =
    let b = bounded c.args.text.now _ _ c.requires.0 _ _ _ _ _ _ _ _ c.loop-at.invariant c.loop-at-test.true (wide c.args.stack.now c.requires.1) c.list_line.result _ _ c.list_line.ensures c.in_ok-line.line (there _ _ _ _ c.ok_or.ensures.value c.in_ok-line.was) in
    omega (arith, b.level-low)

pub bounds-stack-line-in-loop-at : goal.bounds-stack-line-in-loop-at
bounds-stack-line-in-loop-at c =
    let b = bounded c.args.text.now _ _ c.requires.0 _ _ _ _ _ _ _ _ c.loop-at.invariant c.loop-at-test.true (wide c.args.stack.now c.requires.1) c.list_line.result _ _ c.list_line.ensures c.in_ok-line.line (there _ _ _ _ c.ok_or.ensures.value c.in_ok-line.was) in
    simp length-set (omega (arith, b.stack-room))

pub overflow_add-depth : goal.overflow_add-depth
overflow_add-depth c =
    let b = bounded c.args.text.now _ _ c.requires.0 _ _ _ _ _ _ _ _ c.loop-at.invariant c.loop-at-test.true (wide c.args.stack.now c.requires.1) c.list_line.result _ _ c.list_line.ensures c.in_ok-line.line (there _ _ _ _ c.ok_or.ensures.value c.in_ok-line.was) in
    omega (arith, b.level-low)

pub loop-at-smaller : goal.loop-at-smaller
loop-at-smaller c =
    let b = bounded c.args.text.now _ _ c.requires.0 _ _ _ _ _ _ _ _ c.loop-at.invariant c.loop-at-test.true (wide c.args.stack.now c.requires.1) c.list_line.result _ _ c.list_line.ensures c.in_ok-line.line (there _ _ _ _ c.ok_or.ensures.value c.in_ok-line.was) in
    omega (arith, b.onward)

pub loop-at-preserved : goal.loop-at-preserved
loop-at-preserved c =
    outlining-goes-on c.args.text.now _ _ c.requires.0 _ _ _ _ _ _ _ _ c.loop-at.invariant c.loop-at-test.true (wide c.args.stack.now c.requires.1) c.list_line.result _ _ c.list_line.ensures
    c.in_ok-line.line (there _ _ _ _ c.ok_or.ensures.value c.in_ok-line.was) c.class_of-class.result c.class_of-class.ensures c.step_at.result c.step_at.ensures
    c.in_ok-step.step (there _ _ _ _ c.ok_or-in-loop-at.ensures.value c.in_ok-step.was)

pub returns-then-ended_to : goal.returns-then-ended_to
returns-then-ended_to c =
    outlining-ends c.args.text.now _ _ c.requires.0 _ _ _ _ _ _ _ _ c.loop-at.invariant c.loop-at-test.false (sym c.if-ended_to.true ∙ c.ended_to.ensures)

pub returns-else-ended_to : goal.returns-else-ended_to
returns-else-ended_to c =
    outlining-unended c.args.text.now _ _ c.requires.0 _ _ _ _ _ _ _ _ c.loop-at.invariant c.loop-at-test.false (sym c.if-ended_to.false ∙ c.ended_to.ensures)
