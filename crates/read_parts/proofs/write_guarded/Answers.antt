-- The expression, what is waited for, and the row before them. Assumes nothing.
use mathlib.Core.Path.{sym, ◌∙◌}
use Prim.Native.Nat.{◌+◌}
use native.Mathlib.Omega.{arith}
use lib.Seq.{length-take-le}
use mir.Syntax.{w32}
use mir.ValLaws.{to_z_pos}
use Rattle.read_parts.proofs.TokenParts.{sorts-after, scratch-before, scratch_after}
use Rattle.read_parts.proofs.PartSteps.{condition-asked, event-asked, condition-few, guarded-asked-row, guarded-done}
use Rattle.read_parts.proofs.write_guarded.Goals as goal

pub slice_bounds-write_phrase-end : goal.slice_bounds-write_phrase-end
slice_bounds-write_phrase-end c = sym (length-take-le _ _ (omega (arith, c.requires.0)))

pub slice_bounds-write_phrase-end-2 : goal.slice_bounds-write_phrase-end-2
slice_bounds-write_phrase-end-2 c = sym (length-take-le _ _ (omega (arith, c.requires.0, c.requires.3.0)))

pub write_phrase-middle-requires : goal.write_phrase-middle-requires
write_phrase-middle-requires c =
    let ss = c.args.sorts.now in
    let vs = c.args.values.now in
    (condition-asked ss vs c.requires.3.0 c.args.at c.args.n c.args.rows.now c.requires.2.0 c.requires.2.1, scratch-before ss vs c.requires.3.0 c.args.at c.args.marks.now c.args.stack.now c.requires.0 c.requires.3)

pub write_event-requires : goal.write_event-requires
write_event-requires c =
    let ss = c.args.sorts.now in
    let vs = c.args.values.now in
    let w = c.write_phrase-middle in
    let (i, j, k, o) = scratch_after ss vs c.requires.3.0 c.args.at c.args.marks.now c.args.stack.now c.requires.0 c.requires.3 in
    (sorts-after ss vs c.requires.3.0 c.args.at c.requires.1, event-asked ss vs c.requires.3.0 c.args.at c.args.n c.args.rows.now c.requires.2.0 c.requires.2.1 w.result _ w.ensures.1 w.ensures.2, (i, j, omega (arith, k, w.ensures.0.0), omega (arith, o, w.ensures.0.1)))

pub overflow_cast-middle : goal.overflow_cast-middle
overflow_cast-middle c =
    let ss = c.args.sorts.now in
    let vs = c.args.values.now in
    let w = c.write_phrase-middle in
    let few = condition-few ss vs c.requires.3.0 c.args.at c.args.n c.args.rows.now c.requires.2.0 c.requires.2.1 w.result _ w.ensures.1 w.ensures.2 in
    record { sfits = omega (arith, few) }

pub write_row-requires : goal.write_row-requires
write_row-requires c =
    let ss = c.args.sorts.now in
    let vs = c.args.values.now in
    let w = c.write_phrase-middle in
    let v = c.write_event in
    guarded-asked-row ss vs c.requires.3.0 c.args.at c.args.n c.args.rows.now c.requires.2.0 c.requires.2.1 w.result _ w.ensures.1 w.ensures.2 _ v.ensures.1

pub returns : goal.returns
returns c =
    let ss = c.args.sorts.now in
    let vs = c.args.values.now in
    let w = c.write_phrase-middle in
    let v = c.write_event in
    let few = condition-few ss vs c.requires.3.0 c.args.at c.args.n c.args.rows.now c.requires.2.0 c.requires.2.1 w.result _ w.ensures.1 w.ensures.2 in
    let room = guarded-asked-row ss vs c.requires.3.0 c.args.at c.args.n c.args.rows.now c.requires.2.0 c.requires.2.1 w.result _ w.ensures.1 w.ensures.2 _ v.ensures.1 in (
      (v.ensures.0.0 ∙ w.ensures.0.0, v.ensures.0.1 ∙ w.ensures.0.1),
      guarded-done ss vs c.requires.3.0 c.args.at c.args.n c.args.rows.now c.requires.2.0 c.requires.2.1 w.result _ w.ensures.1 w.ensures.2 _ v.ensures.1 _ (rw (to_z_pos w32 (c.args.n + 1) (omega (arith, room.0)), to_z_pos w32 w.result (omega (arith, few))) at c.write_row.ensures),
    )
