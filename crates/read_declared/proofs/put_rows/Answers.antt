-- The loop keeps that the rows of the declarations up to a line are written. Assumes nothing.
use mathlib.Core.Path.{◌≡◌, ◌∙◌}
use Prim.Native.Nat.{◌+◌, ◌*◌, ◌≤◌}
use native.Mathlib.Omega.{arith}
use lib.ListN.{length}
use borrow.Author.Rules.{rules}
use Rattle.read_levels.specs.Listing.{listing}
use Rattle.read_levels.proofs.ListingLaws.{span-at}
use Rattle.read_declared.proofs.RowSteps.{row-copied}
use Rattle.read_declared.proofs.GatherSteps.{putting-start, putting-end, putting-passes, putting-marked, putting-room, putting-takes, putting-same}
use Rattle.read_declared.proofs.put_rows.Goals as goal
use Rattle.read_declared.proofs.put_rows.Goals.{then-kinds-line-le-OTHER_DECLARATION, else-kinds-line-le-OTHER_DECLARATION}

pub loop-line-init : goal.loop-line-init
loop-line-init c =
    let a = c.args in
    putting-start a.count (listing a.kinds.now a.ends.now a.sorts.now a.values.now) a.rows.now

pub bounds-ends-line : goal.bounds-ends-line
bounds-ends-line c =
    let h = c.requires.1.lines in
    let i = c.loop-line-test.true in
    let e = h.ends-long in
    omega (arith, i, e)

pub overflow_cast-end : goal.overflow_cast-end
overflow_cast-end c = omega (arith, c.type_inv.ends c.loop-line.line)

pub bounds-kinds-line : goal.bounds-kinds-line
bounds-kinds-line c =
    let h = c.requires.1.lines in
    let i = c.loop-line-test.true in
    let e = h.kinds-long in
    omega (arith, i, e)

pub slice_bounds-declaration_row-count : goal.slice_bounds-declaration_row-count
slice_bounds-declaration_row-count c =
    let h = c.requires.1.lines in
    let i = c.loop-line-test.true in
    let s = (span-at h c.loop-line.line i).0 in
    let f = c.loop-line.invariant.begins in
    omega (arith, s, f)

pub slice_bounds-declaration_row-start : goal.slice_bounds-declaration_row-start
slice_bounds-declaration_row-start c =
    let h = c.requires.1.lines in
    let i = c.loop-line-test.true in
    let s = (span-at h c.loop-line.line i).0 in
    let f = c.loop-line.invariant.begins in
    omega (arith, s, f)

pub slice_bounds-declaration_row-end : goal.slice_bounds-declaration_row-end
slice_bounds-declaration_row-end c =
    let h = c.requires.1.lines in
    let i = c.loop-line-test.true in
    (span-at h c.loop-line.line i).1

pub offset_bounds-values-first : goal.offset_bounds-values-first
offset_bounds-values-first c =
    let h = c.requires.1.lines in
    let i = c.loop-line-test.true in
    let s = (span-at h c.loop-line.line i).0 in
    let t = (span-at h c.loop-line.line i).1 in
    let f = c.loop-line.invariant.begins in
    let w = h.short in
    omega (arith, s, t, f, w)

pub slice_bounds-declaration_row-count-then-kinds-line-le-OTHER_DECLARATION : goal.slice_bounds-declaration_row-count-then-kinds-line-le-OTHER_DECLARATION
slice_bounds-declaration_row-count-then-kinds-line-le-OTHER_DECLARATION c =
    let h = c.requires.1.lines in
    let i = c.loop-line-test.true in
    let s = (span-at h c.loop-line.line i).0 in
    let f = c.loop-line.invariant.begins in
    omega (arith, s, f)

pub slice_bounds-declaration_row-start-then-kinds-line-le-OTHER_DECLARATION : goal.slice_bounds-declaration_row-start-then-kinds-line-le-OTHER_DECLARATION
slice_bounds-declaration_row-start-then-kinds-line-le-OTHER_DECLARATION c =
    let h = c.requires.1.lines in
    let i = c.loop-line-test.true in
    let s = (span-at h c.loop-line.line i).0 in
    let f = c.loop-line.invariant.begins in
    omega (arith, s, f)

pub slice_bounds-declaration_row-end-then-kinds-line-le-OTHER_DECLARATION : goal.slice_bounds-declaration_row-end-then-kinds-line-le-OTHER_DECLARATION
slice_bounds-declaration_row-end-then-kinds-line-le-OTHER_DECLARATION c =
    let h = c.requires.1.lines in
    let i = c.loop-line-test.true in
    let s = (span-at h c.loop-line.line i).1 in
    let v = h.even in
    omega (arith, s, v)

pub declaration_row-row-requires : goal.declaration_row-row-requires
declaration_row-row-requires c =
    let h = c.requires.1.lines in
    let i = c.loop-line-test.true in
    putting-marked _ _ _ c.loop-line.line c.loop-line.first c.loop-line.found _ c.loop-line.invariant i c.if-kinds-line-le-OTHER_DECLARATION.true c.requires

room : (c : goal.After-declaration_row-row) → 4 * c.loop-line.found + 4 ≤ length c.loop-line.rows
room c =
    let i = c.loop-line-test.true in
    let r = putting-room _ _ _ c.loop-line.line c.loop-line.first c.loop-line.found _ c.loop-line.invariant i c.if-kinds-line-le-OTHER_DECLARATION.true c.requires in
    let s = c.loop-line.invariant.same-long in
    omega (arith, r, s)

pub offset_bounds-rows-start : goal.offset_bounds-rows-start
offset_bounds-rows-start c = let r = room c in search rules

pub slice_bounds-copy_from_slice-end : goal.slice_bounds-copy_from_slice-end
slice_bounds-copy_from_slice-end c = room c

pub loop-line-preserved : goal.loop-line-preserved
loop-line-preserved c =
    let i = c.loop-line-test.true in
    elim c.if-kinds-line-le-OTHER_DECLARATION.branch [
      | then-kinds-line-le-OTHER_DECLARATION w ↦
          let x = w.declaration_row-row.result in
          let d = putting-takes _ _ _ c.loop-line.line c.loop-line.first c.loop-line.found _ c.loop-line.invariant i w.if-kinds-line-le-OTHER_DECLARATION.true c.requires x w.declaration_row-row.ensures in
          let four : length x ≡ 4 = search rules in
          let r = putting-room _ _ _ c.loop-line.line c.loop-line.first c.loop-line.found _ c.loop-line.invariant i w.if-kinds-line-le-OTHER_DECLARATION.true c.requires in
          let s = c.loop-line.invariant.same-long in
          putting-same (w.rows-is ∙ row-copied c.loop-line.rows (4 * c.loop-line.found) _ x w.copy_from_slice.ensures.after four (omega (arith, r, s))) w.found-is d
      | else-kinds-line-le-OTHER_DECLARATION w ↦ putting-same w.rows-is w.found-is (putting-passes _ _ _ c.loop-line.line c.loop-line.first c.loop-line.found _ c.loop-line.invariant i w.if-kinds-line-le-OTHER_DECLARATION.false)
    ]

pub shape_of-rows : goal.shape_of-rows
shape_of-rows c = c.loop-line.invariant.same-long

pub returns : goal.returns
returns c =
    putting-end _ _ _ c.loop-line.line c.loop-line.first c.loop-line.found _ c.loop-line.invariant c.loop-line-test.false
