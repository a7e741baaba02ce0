-- The lines of the rows so far have been written. Assumes nothing.
use mathlib.Core.Path.{◌≡◌, sym, ap, ◌∙◌}
use mathlib.Core.List.{List}
use Prim.Native.Nat.{ℕ}
use native.Mathlib.Omega.{arith}
use lib.ListN.{length}
use Rattle.meaning.specs.Declarations.{declarations, host_channels_at, capacity_at}
use Rattle.meaning.specs.Printing.{Line, word_bytes}
use Rattle.meaning.specs.Buffers.{decoded}
use Rattle.write_bytes.specs.Writing.{Writer, put_lines}
use Rattle.write_bytes.proofs.Writers.{put_lines-none, length-put_lines}
use Rattle.write_lines.proofs.RowLines.{outs_below, outs-below-none, outs-below-all, few-declarations, part-short, outs-step, sum-none, sum_more}
use Rattle.write_lines.proofs.lines.put_outputs.Goals as goal

pub loop-r-init : goal.loop-r-init
loop-r-init c =
    let a = c.args in (
      sum-none (capacity_at a.rows.now),
      omega arith,
      sum-none (host_channels_at 2 a.rows.now),
      omega arith,
      sym (ap (λ (l : List Line). put_lines l (a.at, a.out.now)) (outs-below-none a.rows.now a.counts.now (decoded a.numbers.now a.marks.now)) ∙ put_lines-none (a.at, a.out.now)),
    )

pub strip_count-given-requires : goal.strip_count-given-requires
strip_count-given-requires c = c.declarations-count.ensures

pub overflow_cast-r : goal.overflow_cast-r
overflow_cast-r c = let d = few-declarations c.args.rows.now c.requires.0 in let e = c.declarations-count.ensures in omega arith

pub put_messages-place-requires : goal.put_messages-place-requires
put_messages-place-requires c = let h = part-short c.loop-r.first c.strip_count-given.result c.args.numbers.now in let e = ap length c.part-strip.ensures in omega (arith, c.requires)

pub capacity_at-requires : goal.capacity_at-requires
capacity_at-requires c = c.declarations-count.ensures

pub overflow_add-first : goal.overflow_add-first
overflow_add-first c = let d = few-declarations c.args.rows.now c.requires.0 in let e = c.declarations-count.ensures in omega (arith, c.capacity_at.type_inv, c.loop-r.invariant)

pub host_channels_at-requires : goal.host_channels_at-requires
host_channels_at-requires c = c.declarations-count.ensures

pub overflow_add-port : goal.overflow_add-port
overflow_add-port c = let d = few-declarations c.args.rows.now c.requires.0 in let e = c.declarations-count.ensures in omega (arith, c.host_channels_at.type_inv, c.loop-r.invariant)

pub loop-r-preserved : goal.loop-r-preserved
unfolding word_bytes
loop-r-preserved c =
    let a = c.args in
    let k = c.loop-r in (
      sum_more (capacity_at a.rows.now) k.r k.first c.capacity_at.result k.invariant.0 c.capacity_at.ensures,
      omega (arith, c.capacity_at.type_inv, k.invariant),
      sum_more (host_channels_at 2 a.rows.now) k.r k.port c.host_channels_at.result k.invariant.2 c.host_channels_at.ensures,
      omega (arith, c.host_channels_at.type_inv, k.invariant),
      outs-step a.rows.now a.counts.now a.marks.now a.numbers.now k.r k.first k.port c.strip_count-given.result (a.at, a.out.now) k.invariant.0 k.invariant.2 c.strip_count-given.ensures c.part.ensures c.part-strip.ensures k.invariant.4 c.put_messages-place.ensures,
    )

pub shape_of-out : goal.shape_of-out
shape_of-out c = let a = c.args in ap (λ (w : Writer). length w.1) c.loop-r.invariant.4 ∙ length-put_lines (outs_below a.rows.now a.counts.now (decoded a.numbers.now a.marks.now) c.loop-r.r) (a.at, a.out.now)

pub returns : goal.returns
returns c =
    let a = c.args in
    let x : Writer = (a.at, a.out.now) in
    let all : c.loop-r.r ≡ declarations a.rows.now = omega (arith, c.declarations-count.ensures) in
    c.loop-r.invariant.4
    ∙ ap (λ (q : ℕ). put_lines (outs_below a.rows.now a.counts.now (decoded a.numbers.now a.marks.now) q) x) all
    ∙ ap (λ (l : List Line). put_lines l x) (outs-below-all a.rows.now a.counts.now (decoded a.numbers.now a.marks.now))
