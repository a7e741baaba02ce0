-- The loop keeps what `LayLoop` says. Assumes nothing.
use mathlib.Core.Path.{refl, ap, ap₂, ◌∙◌}
use mathlib.Core.Bool.{Bool}
use Prim.Native.Nat.{◌+◌, ◌-◌, ◌*◌, ◌<◌}
use native.Mathlib.Omega.{arith}
use mir.Syntax.{w32}
use mir.Val.{SFits}
use mir.ValLaws.{to_z-of_z}
use borrow.Author.Rules.{rules}
use lib.IntN.{ℤ, pos}
use lib.ListN.{length, get_or}
use Rattle.read_expressions.specs.Overlay.{overlay}
use Rattle.read_expressions.specs.TokenRows.{rows_by_sort, size_by_sort}
use Rattle.read_expressions.specs.Free.{filled}
use Rattle.read_expressions.proofs.ExpressionLaws.{spelt}
use Rattle.read_expressions.proofs.LayLoop.{moved, lay-begin, all_laid, free-row, lay-again-had, mark-low, token-fits, lay-again-wanted}
use Rattle.read_expressions.proofs.lay.Goals as goal
use Rattle.read_expressions.proofs.lay.Goals.{then-had, else-had}

pub loop-k-init : goal.loop-k-init
loop-k-init c =
    (refl, refl, lay-begin c.args.sorts.now c.args.values.now (spelt c.args.sorts.now c.args.values.now c.requires.1.0 c.requires.0.0) c.args.n c.args.free.now c.args.rows.now c.requires.0.2)

pub offset_bounds-values-k : goal.offset_bounds-values-k
offset_bounds-values-k c = omega (arith, c.loop-k-test.true, c.requires.1.1)

pub bounds-values-k : goal.bounds-values-k
bounds-values-k c = omega (arith, c.loop-k-test.true, c.requires.1.0)

pub fill-height-requires : goal.fill-height-requires
fill-height-requires c =
    let l = c.loop-k in
    let m = l.invariant.2 in
    let h = c.loop-k-test.true in
    let few = c.requires.0.1 in
    let room = c.requires.0.2 in (
      omega (arith, m.below, few),
      omega (arith, m.low, h, l.invariant.0, c.requires.1.3),
      λ e. let w = free-row c.args.sorts.now c.args.values.now c.requires.1.0 _ _ l.k l.height l.r l.had l.free l.rows m h c.if-had.true e in (w.0, omega (arith, w.1, few), omega (arith, w.1, room, l.invariant.1)),
    )

pub bounds-marks-k : goal.bounds-marks-k
bounds-marks-k c = omega (arith, c.loop-k-test.true, c.requires.1.2)

pub overflow_cast-mark : goal.overflow_cast-mark
overflow_cast-mark c = omega (arith, c.shared_slice_known-else-had-1.given c.loop-k.k)

pub overflow_cast-free : goal.overflow_cast-free
overflow_cast-free c = record { fits = omega (arith, c.loop-k.invariant.2.below, c.requires.0.1) }

pub bounds-free-height : goal.bounds-free-height
bounds-free-height c =
    let l = c.loop-k in
    let m = l.invariant.2 in
    let h = c.loop-k-test.true in
    omega (arith, m.low, h, l.invariant.0, c.requires.1.3)

pub overflow_add-height : goal.overflow_add-height
overflow_add-height c =
    let l = c.loop-k in
    let m = l.invariant.2 in
    let h = c.loop-k-test.true in
    record { fits = omega (arith, m.low, h, c.requires.1.1, mark-low c.args.sorts.now c.args.values.now c.requires.1.0 _ _ l.k l.height l.r l.had l.free l.rows m h c.args.marks.now c.requires.2 c.if-had.false) }

pub overflow_add-k : goal.overflow_add-k
overflow_add-k c = record { fits = omega (arith, c.loop-k-test.true, c.requires.1.1) }

pub overflow_add-r : goal.overflow_add-r
overflow_add-r c =
    let l = c.loop-k in
    let m = l.invariant.2 in
    let h = c.loop-k-test.true in
    record { fits = omega (arith, m.below, c.requires.0.1, mark-low c.args.sorts.now c.args.values.now c.requires.1.0 _ _ l.k l.height l.r l.had l.free l.rows m h c.args.marks.now c.requires.2 c.if-had.false) }

pub write_token-r-requires : goal.write_token-r-requires
write_token-r-requires c =
    let l = c.loop-k in
    let m = l.invariant.2 in
    let h = c.loop-k-test.true in
    let fits = token-fits c.args.sorts.now c.args.values.now c.requires.1.0 _ _ l.k l.height l.r l.had l.free l.rows m h c.args.marks.now c.requires.2 c.if-had.false in
    rw c.begins_subscript-subscripted.ensures (omega (arith, fits, c.requires.0.1), omega (arith, fits, c.requires.0.2, l.invariant.1))

pub loop-k-preserved : goal.loop-k-preserved
loop-k-preserved c =
    let l = c.loop-k in
    let m = l.invariant.2 in
    let h = c.loop-k-test.true in
    let sort = get_or c.args.sorts.now l.k 0 in
    let value : SFits w32 (get_or c.args.values.now l.k (pos 0)) = search rules in
    let same = to_z-of_z w32 (get_or c.args.values.now l.k (pos 0)) value in
    let k = c.if-had.auto in
    let r = l.r + get_or c.args.marks.now l.k 0 in
    let room : l.height < length l.free = omega (arith, m.low, h, l.invariant.0, c.requires.1.3) in
    elim c.if-had.branch [
      | then-had w ↦ (
        k.free ∙ l.invariant.0,
        k.rows ∙ l.invariant.1,
        moved c.args.sorts.now c.args.values.now _ _ (l.k + 1) _ _ _ _ _ _ _ _ _ _ (w.height-is ∙ w.fill-height.ensures.0) w.r-is c.had_after-had.ensures w.free-is
            (w.rows-is ∙ w.fill-height.ensures.1 ∙ ap (λ (z : ℤ). filled sort z (get_or l.free (l.height - 1) 0) l.r l.rows) same) (lay-again-had c.args.sorts.now c.args.values.now c.requires.1.0 _ _ l.k l.height l.r l.had l.free l.rows m h w.if-had.true),
      )
      | else-had w ↦ (
        k.free ∙ l.invariant.0,
        k.rows ∙ l.invariant.1,
        moved c.args.sorts.now c.args.values.now _ _ (l.k + 1) _ _ _ _ _ _ _ _ _ _ w.height-is (w.r-is ∙ w.write_token-r.ensures.0 ∙ ap (λ (s : Bool). r + size_by_sort sort s) w.begins_subscript-subscripted.ensures) c.had_after-had.ensures w.free-is
            (w.rows-is ∙ w.write_token-r.ensures.1 ∙ ap₂ (λ (z : ℤ) (s : Bool). overlay l.rows (4 * r) (rows_by_sort r sort z s)) same w.begins_subscript-subscripted.ensures) (lay-again-wanted c.args.sorts.now c.args.values.now c.requires.1.0 _ _ l.k l.height l.r l.had l.free l.rows m h c.args.marks.now c.requires.2 w.if-had.false room),
      )
    ]

pub shape_of-free : goal.shape_of-free
shape_of-free c = c.loop-k.invariant.0

pub shape_of-rows : goal.shape_of-rows
shape_of-rows c = c.loop-k.invariant.1

pub returns : goal.returns
returns c =
    let l = c.loop-k in
    let m = l.invariant.2 in
    let w = all_laid c.args.sorts.now c.args.values.now c.requires.1.0 _ _ l.k l.height l.r l.had l.free l.rows m c.loop-k-test.false in
    (l.invariant.0, w.0, w.1)
