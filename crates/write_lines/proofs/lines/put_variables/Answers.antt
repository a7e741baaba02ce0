-- The lines of the rows so far have been written. Assumes nothing.
use mathlib.Core.Path.{◌≡◌, sym, ap, ◌∙◌}
use mathlib.Core.List.{List}
use Prim.Native.Nat.{ℕ}
use native.Mathlib.Omega.{arith}
use lib.ListN.{length}
use Rattle.meaning.specs.Declarations.{declarations, cells_at}
use Rattle.meaning.specs.Printing.{Line, word_bytes}
use Rattle.meaning.specs.Buffers.{decoded}
use Rattle.write_bytes.specs.Writing.{Writer, put_lines}
use Rattle.write_bytes.proofs.Writers.{put_lines-none, length-put_lines}
use Rattle.write_lines.proofs.RowLines.{cells_below, cells-below-none, cells-below-all, few-declarations, part-short, cells-step, sum-none, sum_more}
use Rattle.write_lines.proofs.lines.put_variables.Goals as goal

pub loop-r-init : goal.loop-r-init
loop-r-init c =
    let a = c.args in (
      sum-none (cells_at a.rows.now),
      omega arith,
      sym (ap (λ (l : List Line). put_lines l (a.at, a.out.now)) (cells-below-none a.rows.now (decoded a.values.now a.marks.now)) ∙ put_lines-none (a.at, a.out.now)),
    )

pub cells_at-size-requires : goal.cells_at-size-requires
cells_at-size-requires c = c.declarations-count.ensures

pub overflow_cast-r : goal.overflow_cast-r
overflow_cast-r c = let d = few-declarations c.args.rows.now c.requires.0 in let e = c.declarations-count.ensures in omega arith

pub put_messages-place-requires : goal.put_messages-place-requires
put_messages-place-requires c = let h = part-short c.loop-r.first c.cells_at-size.result c.args.values.now in let e = ap length c.part-cells.ensures in omega (arith, c.requires)

pub overflow_add-first : goal.overflow_add-first
overflow_add-first c = let d = few-declarations c.args.rows.now c.requires.0 in let e = c.declarations-count.ensures in omega (arith, c.cells_at-size.type_inv, c.loop-r.invariant)

pub loop-r-preserved : goal.loop-r-preserved
unfolding word_bytes
loop-r-preserved c =
    let a = c.args in
    let k = c.loop-r in (
      sum_more (cells_at a.rows.now) k.r k.first c.cells_at-size.result k.invariant.0 c.cells_at-size.ensures,
      omega (arith, c.cells_at-size.type_inv, k.invariant),
      cells-step a.rows.now a.marks.now a.values.now k.r k.first c.cells_at-size.result (a.at, a.out.now) k.invariant.0 c.cells_at-size.ensures c.part.ensures c.part-cells.ensures k.invariant.2 c.put_messages-place.ensures,
    )

pub shape_of-out : goal.shape_of-out
shape_of-out c = let a = c.args in ap (λ (w : Writer). length w.1) c.loop-r.invariant.2 ∙ length-put_lines (cells_below a.rows.now (decoded a.values.now a.marks.now) c.loop-r.r) (a.at, a.out.now)

pub returns : goal.returns
returns c =
    let a = c.args in
    let x : Writer = (a.at, a.out.now) in
    let all : c.loop-r.r ≡ declarations a.rows.now = omega (arith, c.declarations-count.ensures) in
    c.loop-r.invariant.2
    ∙ ap (λ (q : ℕ). put_lines (cells_below a.rows.now (decoded a.values.now a.marks.now) q) x) all
    ∙ ap (λ (l : List Line). put_lines l x) (cells-below-all a.rows.now (decoded a.values.now a.marks.now))
