-- Row by row. Assumes nothing.
use mathlib.Core.Path.{◌≡◌, refl, ap, ◌∙◌}
use lib.ListN.{length}
use Rattle.meaning.specs.Rows.{row_count}
use Rattle.meaning.specs.Kinds.{shape_of}
use Rattle.meaning.specs.Verdict.{targets_by, targets_below}
use Rattle.check_tree.specs.Counts.{one_more_for}
use Rattle.check_tree.proofs.NotedCounts.{noted_more, length-noted}
use native.Mathlib.Omega.{arith}
use Rattle.check_tree.proofs.count_references.Goals as goal

pub loop-r-init : goal.loop-r-init
unfolding one_more_for targets_below
loop-r-init c = (c.row_count-n.ensures, refl)

pub loop-r-preserved : goal.loop-r-preserved
loop-r-preserved c =
    let k = c.kind.result in
    let shape = c.shape_of.ensures.meaning ∙ ap shape_of c.kind.ensures in
    (c.loop-r.invariant.0, c.note_by.ensures k ∙ ap (one_more_for c.loop-r.counts) (ap (targets_by c.args.rows.now c.loop-r.r) shape) ∙ noted_more c.args.rows.now c.args.counts.now c.loop-r.counts c.loop-r.r c.loop-r.invariant.1)

pub shape_of-counts : goal.shape_of-counts
shape_of-counts c = ap length c.loop-r.invariant.1 ∙ length-noted c.args.counts.now (targets_below c.args.rows.now c.loop-r.r)

pub returns : goal.returns
returns c =
    let e : c.loop-r.r ≡ row_count c.args.rows.now = omega arith in
    c.loop-r.invariant.1 ∙ ap (λ (i : _). one_more_for c.args.counts.now (targets_below c.args.rows.now i)) e
