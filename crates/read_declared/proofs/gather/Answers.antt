-- The loop keeps that the declarations up to a line are listed. Assumes nothing.
use mathlib.Core.Path.{refl, ◌∙◌}
use native.Mathlib.Omega.{arith}
use Rattle.read_levels.specs.Listing.{listing}
use Rattle.read_levels.proofs.ListingLaws.{span-at}
use Rattle.read_declared.proofs.GatherSteps.{gathering-start, gathering-end, gathering-passes, gathering-listable, gathering-takes, gathering-same}
use Rattle.read_declared.proofs.gather.Goals as goal
use Rattle.read_declared.proofs.gather.Goals.{then-kinds-line-le-OTHER_DECLARATION, else-kinds-line-le-OTHER_DECLARATION}

pub loop-line-init : goal.loop-line-init
loop-line-init c =
    let a = c.args in
    (gathering-start a.count (listing a.kinds.now a.ends.now a.sorts.now a.values.now) a.froms.now a.sizes.now a.roles.now, refl, refl, refl)

pub bounds-ends-line : goal.bounds-ends-line
bounds-ends-line c =
    let h = c.requires.0.1.lines in
    let i = c.loop-line-test.true in
    let e = h.ends-long in
    omega (arith, i, e)

pub overflow_cast-end : goal.overflow_cast-end
overflow_cast-end c = omega (arith, c.type_inv.ends c.loop-line.line)

pub bounds-kinds-line : goal.bounds-kinds-line
bounds-kinds-line c =
    let h = c.requires.0.1.lines in
    let i = c.loop-line-test.true in
    let e = h.kinds-long in
    omega (arith, i, e)

pub slice_bounds-list_declaration-count : goal.slice_bounds-list_declaration-count
slice_bounds-list_declaration-count c =
    let h = c.requires.0.1.lines in
    let i = c.loop-line-test.true in
    let s = (span-at h c.loop-line.line i).0 in
    let f = c.loop-line.invariant.0.begins in
    omega (arith, s, f)

pub offset_bounds-values-first : goal.offset_bounds-values-first
offset_bounds-values-first c =
    let h = c.requires.0.1.lines in
    let i = c.loop-line-test.true in
    let s = span-at h c.loop-line.line i in
    let (s0, s1) = s in
    let f = c.loop-line.invariant.0.begins in
    let w = h.short in
    omega (arith, s0, s1, f, w)

pub slice_bounds-list_declaration-count-then-kinds-line-le-OTHER_DECLARATION : goal.slice_bounds-list_declaration-count-then-kinds-line-le-OTHER_DECLARATION
slice_bounds-list_declaration-count-then-kinds-line-le-OTHER_DECLARATION c =
    let h = c.requires.0.1.lines in
    let i = c.loop-line-test.true in
    let s = (span-at h c.loop-line.line i).0 in
    let f = c.loop-line.invariant.0.begins in
    omega (arith, s, f)

pub list_declaration-requires : goal.list_declaration-requires
list_declaration-requires c =
    let h = c.requires.0.1.lines in
    let i = c.loop-line-test.true in
    let v = c.loop-line.invariant in
    let f = v.0.few in
    let p = c.requires.1 in
    let q = c.requires.2 in
    let r = c.requires.3 in
    let x = v.1 in
    let y = v.2 in
    let z = v.3 in
    (gathering-listable _ _ c.loop-line.line c.loop-line.first c.loop-line.found _ _ _ v.0 i c.requires.0 c.if-kinds-line-le-OTHER_DECLARATION.true, omega (arith, f, i, p, x), omega (arith, f, i, q, y), omega (arith, f, i, r, z))

pub loop-line-preserved : goal.loop-line-preserved
loop-line-preserved c =
    let h = c.requires.0.1.lines in
    let i = c.loop-line-test.true in
    let v = c.loop-line.invariant in
    let f = v.0.few in
    let p = c.requires.1 in
    let q = c.requires.2 in
    let u = c.requires.3 in
    let x = v.1 in
    let y = v.2 in
    let z = v.3 in
    let k = c.if-kinds-line-le-OTHER_DECLARATION.auto in
    elim c.if-kinds-line-le-OTHER_DECLARATION.branch [
      | then-kinds-line-le-OTHER_DECLARATION w ↦
          let d = gathering-takes _ _ c.loop-line.line c.loop-line.first c.loop-line.found _ _ _ v.0 i w.if-kinds-line-le-OTHER_DECLARATION.true (omega (arith, f, i, p, x)) (omega (arith, f, i, q, y)) (omega (arith, f, i, u, z)) in
          let froms = w.froms-is ∙ w.list_declaration.ensures.0 in
          let sizes = w.sizes-is ∙ w.list_declaration.ensures.1 in
          let roles = w.roles-is ∙ w.list_declaration.ensures.2 in
          (gathering-same froms sizes roles w.found-is d, k.froms ∙ x, k.sizes ∙ y, k.roles ∙ z)
      | else-kinds-line-le-OTHER_DECLARATION w ↦
          let d = gathering-passes _ _ c.loop-line.line c.loop-line.first c.loop-line.found _ _ _ v.0 i w.if-kinds-line-le-OTHER_DECLARATION.false in
          (gathering-same w.froms-is w.sizes-is w.roles-is w.found-is d, k.froms ∙ x, k.sizes ∙ y, k.roles ∙ z)
    ]

pub shape_of-froms : goal.shape_of-froms
shape_of-froms c = c.loop-line.invariant.1

pub shape_of-sizes : goal.shape_of-sizes
shape_of-sizes c = c.loop-line.invariant.2

pub shape_of-roles : goal.shape_of-roles
shape_of-roles c = c.loop-line.invariant.3

pub returns : goal.returns
returns c =
    let v = c.loop-line.invariant in
    let f = v.0.few in
    let r = v.0.reached in
    let p = c.requires.1 in
    let q = c.requires.2 in
    let u = c.requires.3 in
    let x = v.1 in
    let y = v.2 in
    let z = v.3 in
    (gathering-end _ _ c.loop-line.line c.loop-line.first c.loop-line.found _ _ _ v.0 c.loop-line-test.false (omega (arith, p, x)) (omega (arith, q, y)) (omega (arith, u, z)), omega (arith, f, r))

pub slice_bounds-list_declaration-start : goal.slice_bounds-list_declaration-start
slice_bounds-list_declaration-start c =
    let h = c.requires.0.1.lines in
    let i = c.loop-line-test.true in
    let s = (span-at h c.loop-line.line i).0 in
    let f = c.loop-line.invariant.0.begins in
    omega (arith, s, f)

pub slice_bounds-list_declaration-end : goal.slice_bounds-list_declaration-end
slice_bounds-list_declaration-end c =
    let h = c.requires.0.1.lines in
    let i = c.loop-line-test.true in
    (span-at h c.loop-line.line i).1

pub slice_bounds-list_declaration-start-then-kinds-line-le-OTHER_DECLARATION : goal.slice_bounds-list_declaration-start-then-kinds-line-le-OTHER_DECLARATION
slice_bounds-list_declaration-start-then-kinds-line-le-OTHER_DECLARATION c =
    let h = c.requires.0.1.lines in
    let i = c.loop-line-test.true in
    let s = (span-at h c.loop-line.line i).0 in
    let f = c.loop-line.invariant.0.begins in
    omega (arith, s, f)

pub slice_bounds-list_declaration-end-then-kinds-line-le-OTHER_DECLARATION : goal.slice_bounds-list_declaration-end-then-kinds-line-le-OTHER_DECLARATION
slice_bounds-list_declaration-end-then-kinds-line-le-OTHER_DECLARATION c =
    let h = c.requires.0.1.lines in
    let i = c.loop-line-test.true in
    let s = (span-at h c.loop-line.line i).1 in
    let v = h.even in
    omega (arith, s, v)
