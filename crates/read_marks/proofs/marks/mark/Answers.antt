-- The loop keeps what `MarkLoop` says. Assumes nothing.
use native.Mathlib.Omega.{arith}
use Rattle.read_marks.proofs.MarkLoop.{mark-begin, all-marked, start-before, bracket-open, mark-again}
use Rattle.read_marks.proofs.marks.mark.Goals as goal

pub loop-k-init : goal.loop-k-init
loop-k-init c = mark-begin c.args.sorts.now c.args.starts.now c.args.marks.now c.requires.0

pub note-requires : goal.note-requires
note-requires c =
    let l = c.loop-k in
    let m = l.invariant in
    let h = c.loop-k-test.true in (
      omega (arith, m.low),
      omega arith,
      omega arith,
      λ e. omega (arith, start-before c.args.sorts.now l.k l.depth l.had l.starts l.marks m e),
    )

pub depth_after-depth-requires : goal.depth_after-depth-requires
depth_after-depth-requires c =
    let l = c.loop-k in
    let m = l.invariant in
    (omega (arith, m.low), bracket-open c.args.sorts.now l.k l.depth l.had l.starts l.marks m c.loop-k-test.true)

pub loop-k-preserved : goal.loop-k-preserved
loop-k-preserved c =
    let l = c.loop-k in
    let m = l.invariant in
    let w = c.note.ensures in
    mark-again c.args.sorts.now l.k l.depth l.had l.starts l.marks m c.loop-k-test.true _ _ _ _ (omega (arith, m.low)) (omega arith) c.depth_after-depth.ensures c.had_after-had.ensures w.0 w.1

pub returns : goal.returns
returns c =
    let l = c.loop-k in
    (l.auto.starts, l.auto.marks, all-marked c.args.sorts.now l.k l.depth l.had l.starts l.marks l.invariant c.loop-k-test.false)
