-- The element, what stands after the mark, and the element's row again. Assumes nothing.
use mathlib.Core.Path.{sym, ◌∙◌}
use native.Mathlib.Omega.{arith}
use lib.Seq.{length-take-le}
use Rattle.read_parts.proofs.TokenParts.{scratch-before, scratch_after}
use Rattle.read_parts.proofs.PartSteps.{first-asked, second-asked, amend-asked, exchange-done}
use Rattle.read_parts.proofs.write_exchange.Goals as goal

pub slice_bounds-write_phrase-end : goal.slice_bounds-write_phrase-end
slice_bounds-write_phrase-end c = sym (length-take-le _ _ (omega (arith, c.requires.0)))

pub slice_bounds-write_phrase-end-2 : goal.slice_bounds-write_phrase-end-2
slice_bounds-write_phrase-end-2 c = sym (length-take-le _ _ (omega (arith, c.requires.0, c.requires.2.0)))

pub write_phrase-middle-requires : goal.write_phrase-middle-requires
write_phrase-middle-requires c =
    let ss = c.args.sorts.now in
    let vs = c.args.values.now in
    (first-asked ss vs c.requires.2.0 c.args.at c.args.n c.args.rows.now c.args.kind c.requires.1.0 c.requires.1.1, scratch-before ss vs c.requires.2.0 c.args.at c.args.marks.now c.args.stack.now c.requires.0 c.requires.2)

pub write_phrase-end-requires : goal.write_phrase-end-requires
write_phrase-end-requires c =
    let ss = c.args.sorts.now in
    let vs = c.args.values.now in
    let w = c.write_phrase-middle in
    let (i, j, k, o) = scratch_after ss vs c.requires.2.0 c.args.at c.args.marks.now c.args.stack.now c.requires.0 c.requires.2 in
    (second-asked ss vs c.requires.2.0 c.args.at c.args.n c.args.rows.now c.args.kind c.requires.1.0 c.requires.1.1 w.result _ w.ensures.1 w.ensures.2, (i, j, omega (arith, k, w.ensures.0.0), omega (arith, o, w.ensures.0.1)))

pub amend-requires : goal.amend-requires
amend-requires c =
    let ss = c.args.sorts.now in
    let vs = c.args.values.now in
    let w = c.write_phrase-middle in
    let v = c.write_phrase-end in
    amend-asked ss vs c.requires.2.0 c.args.at c.args.n c.args.rows.now c.args.kind c.requires.1.0 c.requires.1.1 w.result _ w.ensures.1 w.ensures.2 v.result _ v.ensures.1 v.ensures.2

pub returns : goal.returns
returns c =
    let ss = c.args.sorts.now in
    let vs = c.args.values.now in
    let w = c.write_phrase-middle in
    let v = c.write_phrase-end in
    let (i, j) = exchange-done ss vs c.requires.2.0 c.args.at c.args.n c.args.rows.now c.args.kind c.requires.1.0 c.requires.1.1 w.result _ w.ensures.1 w.ensures.2 v.result _ v.ensures.1 v.ensures.2 in
    ((v.ensures.0.0 ∙ w.ensures.0.0, v.ensures.0.1 ∙ w.ensures.0.1), (i, c.amend.ensures ∙ j))
