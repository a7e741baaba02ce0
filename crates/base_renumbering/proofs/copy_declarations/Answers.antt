-- The declarations are within both lists, and what is copied is right. Assumes nothing.
use mathlib.Core.Path.{◌≡◌}
use mathlib.Core.List.{List}
use Prim.Native.Nat.{ℕ, ◌*◌, ◌≤◌}
use native.Mathlib.Omega.{arith}
use lib.IntN.{ℤ}
use lib.ListN.{length, drop, length-take, length-drop, length-append}
use Rattle.meaning.specs.Rows.{row_count}
use Rattle.meaning.specs.Declarations.{declarations}
use Rattle.base_top_down.proofs.Again.{declarations-le}
use Rattle.base_renumbering.proofs.WriteLaws.{copied}
use Rattle.base_renumbering.proofs.copy_declarations.Goals as goal

room : (rows out : List ℤ) (d : ℕ) → (d ≡ declarations rows) × ((row_count rows ≤ 1024) × (4 * row_count rows ≤ length out)) → (4 * d ≤ length rows) × (4 * d ≤ length out) × (d ≤ 1024)
room rows out d (e, (a, b)) = let h = declarations-le rows in (omega arith, omega arith, omega arith)

pub overflow_mul-d : goal.overflow_mul-d
overflow_mul-d c = omega (arith, room c.args.rows.now c.args.out.now c.args.d c.requires)

pub overflow_mul-d-2 : goal.overflow_mul-d-2
overflow_mul-d-2 c = omega (arith, room c.args.rows.now c.args.out.now c.args.d c.requires)

pub slice_bounds-copy_from_slice-end : goal.slice_bounds-copy_from_slice-end
slice_bounds-copy_from_slice-end c = (room c.args.rows.now c.args.out.now c.args.d c.requires).1

pub slice_bounds-copy_from_slice-end-2 : goal.slice_bounds-copy_from_slice-end-2
slice_bounds-copy_from_slice-end-2 c = simp length-take (omega (arith, room c.args.rows.now c.args.out.now c.args.d c.requires))

pub slice_bounds-copy_from_slice-end-3 : goal.slice_bounds-copy_from_slice-end-3
slice_bounds-copy_from_slice-end-3 c = simp length-take (omega (arith, room c.args.rows.now c.args.out.now c.args.d c.requires))

pub copy_from_slice-requires : goal.copy_from_slice-requires
copy_from_slice-requires c = simp length-take (omega (arith, room c.args.rows.now c.args.out.now c.args.d c.requires))

pub returns : goal.returns
returns c =
    let rows = c.args.rows.now in
    let out = c.args.out.now in
    let n = 4 * c.args.d in
    let r = room rows out c.args.d c.requires in
    let e = c.requires.0 in
    rw c.copy_from_slice.ensures.after (
      simp (length-append, length-take, length-drop) (omega (arith, r)),
      λ p l. copied rows (drop n out) n r.0 p l (omega arith),
    )
