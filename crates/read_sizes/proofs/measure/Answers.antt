-- The loop keeps the rows that the lines from a place on leave open. Assumes nothing.
use Prim.Native.Nat.{◌-◌}
use native.Mathlib.Omega.{arith}
use Rattle.read_sizes.proofs.SumSteps.{sum-none, sum_step, sum-all}
use Rattle.read_sizes.proofs.measure.Goals as goal

pub loop-at-init : goal.loop-at-init
loop-at-init c =
    let a = c.args in
    (omega arith, c.requires.1.few, λ ys m. sum-none a.kinds.now a.levels.now a.owns.now ys a.count m a.beneath.now a.after.now a.rest.now)

pub bounds-levels-at : goal.bounds-levels-at
bounds-levels-at c =
    omega (arith, c.loop-at-test.true, c.loop-at.invariant.0, c.requires.1.long)

pub overflow_cast-levels : goal.overflow_cast-levels
overflow_cast-levels c = omega (arith, c.shared_slice_known-in-loop-at-1.given (c.loop-at.at - 1))

pub open_line-beside-requires : goal.open_line-beside-requires
open_line-beside-requires c =
    let a = c.args in
    let (ys, m) = c.requires in
    let t = c.loop-at-test.true in
    let (r, u, v, w) =
    sum_step a.kinds.now a.levels.now a.owns.now ys a.count m c.loop-at.at (c.loop-at.at - 1) (omega (arith, t)) c.loop-at.invariant.0 a.beneath.now a.after.now a.rest.now
    c.loop-at.beneath c.loop-at.after c.loop-at.rest c.loop-at.left c.loop-at.last (c.loop-at.invariant.2 ys m) in
    (u, v)

pub bounds-kinds-at : goal.bounds-kinds-at
bounds-kinds-at c =
    let a = c.args in
    let (ys, m) = c.requires in
    let t = c.loop-at-test.true in
    let (r, u, v, w) =
    sum_step a.kinds.now a.levels.now a.owns.now ys a.count m c.loop-at.at (c.loop-at.at - 1) (omega (arith, t)) c.loop-at.invariant.0 a.beneath.now a.after.now a.rest.now
    c.loop-at.beneath c.loop-at.after c.loop-at.rest c.loop-at.left c.loop-at.last (c.loop-at.invariant.2 ys m) in
    r

pub loop-at-preserved : goal.loop-at-preserved
loop-at-preserved c =
    let a = c.args in
    let t = c.loop-at-test.true in
    let o = c.open_line-beside.ensures in (
      omega (arith, c.loop-at.invariant.0),
      c.loop-at.invariant.1,
      λ ys m.
          rw (c.rest_after-last.ensures, o.0, o.1, o.2)
          (sum_step a.kinds.now a.levels.now a.owns.now ys a.count m c.loop-at.at (c.loop-at.at - 1) (omega (arith, t)) c.loop-at.invariant.0 a.beneath.now a.after.now a.rest.now
          c.loop-at.beneath c.loop-at.after c.loop-at.rest c.loop-at.left c.loop-at.last (c.loop-at.invariant.2 ys m)).3,
    )

pub returns : goal.returns
returns c =
    let t = c.loop-at-test.false in
    let a = c.args in
    record {
      beneath-summed = λ ys m. (sum-all a.kinds.now a.levels.now a.owns.now ys c.loop-at.at a.beneath.now a.after.now a.rest.now c.loop-at.beneath c.loop-at.after c.loop-at.rest c.loop-at.left c.loop-at.last (c.loop-at.invariant.2 ys m) t).0;
      after-summed = λ ys m. (sum-all a.kinds.now a.levels.now a.owns.now ys c.loop-at.at a.beneath.now a.after.now a.rest.now c.loop-at.beneath c.loop-at.after c.loop-at.rest c.loop-at.left c.loop-at.last (c.loop-at.invariant.2 ys m) t).1;
      rest-summed = λ ys m. (sum-all a.kinds.now a.levels.now a.owns.now ys c.loop-at.at a.beneath.now a.after.now a.rest.now c.loop-at.beneath c.loop-at.after c.loop-at.rest c.loop-at.left c.loop-at.last (c.loop-at.invariant.2 ys m) t).2;
    }
