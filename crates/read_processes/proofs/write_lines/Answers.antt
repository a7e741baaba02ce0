-- The loop keeps what is still to be written, of any text that has such lines. Assumes nothing.
use mathlib.Core.Path.{refl, sym, ap, subst, ◌∙◌}
use mathlib.Core.List.{List}
use Prim.Native.Nat.{ℕ, ◌+◌}
use lib.IntN.{ℤ}
use native.Mathlib.Omega.{arith}
use borrow.Author.Rules.{rules}
use lib.ListN.{length}
use Rattle.read_levels.specs.Listing.{listing}
use Rattle.read_levels.proofs.ListingLaws.{starts_first}
use Rattle.read_processes.specs.Written.{Placed}
use Rattle.read_processes.proofs.WriteSteps.{Writing, WriteStep, write-none, write-all, starts-next, line-held, line-scratch, write_step}
use Rattle.read_processes.proofs.write_lines.Goals as goal

pub loop-line-init : goal.loop-line-init
loop-line-init c =
    let a = c.args in
    let g = listing a.lines.kinds.now a.lines.ends.now a.lines.sorts.now a.lines.values.now in
    (refl, refl, refl, sym (starts_first a.lines.ends.now), λ text h. write-none text a.lines.count g a.spots.starts.now a.spots.beneath.now a.spots.after.now a.spots.rest.now h a.rows.now)

pub overflow_cast-end : goal.overflow_cast-end
overflow_cast-end c =
    let held = line-held _ _ _ _ _ _ _ c.requires.0.1 _ c.loop-line-test.true in
    search (rules, held.within, held.short)

pub at-spot-requires : goal.at-spot-requires
at-spot-requires c =
    let held = line-held _ _ _ _ _ _ _ c.requires.0.1 _ c.loop-line-test.true in
    held.few

pub slice_bounds-write_line-count : goal.slice_bounds-write_line-count
slice_bounds-write_line-count c =
    let held = line-held _ _ _ _ _ _ _ c.requires.0.1 _ c.loop-line-test.true in
    search (rules, held.begins)

pub offset_bounds-lines-first : goal.offset_bounds-lines-first
offset_bounds-lines-first c =
    let held = line-held _ _ _ _ _ _ _ c.requires.0.1 _ c.loop-line-test.true in
    search (rules, held.begins, held.within, held.short)

pub slice_bounds-write_line-count-in-loop-line : goal.slice_bounds-write_line-count-in-loop-line
slice_bounds-write_line-count-in-loop-line c =
    let held = line-held _ _ _ _ _ _ _ c.requires.0.1 _ c.loop-line-test.true in
    search (rules, held.begins)

pub write_line-requires : goal.write_line-requires
write_line-requires c =
    let step : let a = c.args in let g = listing a.lines.kinds.now a.lines.ends.now a.lines.sorts.now a.lines.values.now in (text : List ℕ) (h : Placed text a.lines.count g a.spots.starts.now a.spots.beneath.now a.spots.after.now a.spots.rest.now) → WriteStep text a.lines.count g a.spots.starts.now a.spots.beneath.now a.spots.after.now a.spots.rest.now h a.rows.now c.loop-line.line c.loop-line.first c.at-spot.result c.loop-line.rows = λ text h. let a = c.args in
    let g = listing a.lines.kinds.now a.lines.ends.now a.lines.sorts.now a.lines.values.now in
    let i = c.loop-line.invariant in
    write_step text a.lines.count g a.spots.starts.now a.spots.beneath.now a.spots.after.now a.spots.rest.now h a.rows.now c.loop-line.line c.loop-line.first c.at-spot.result c.loop-line.rows
    i.3 c.at-spot.ensures (i.4 text h) c.loop-line-test.true (omega (arith, i.2, c.requires.1)) in
    let held = line-held _ _ _ _ _ _ _ c.requires.0.1 _ c.loop-line-test.true in
    let a = c.args in
    let i = c.loop-line.invariant in
    let g = listing a.lines.kinds.now a.lines.ends.now a.lines.sorts.now a.lines.values.now in (
      (step c.requires.0.0 c.requires.0.1).standable,
      line-scratch g c.loop-line.line c.loop-line.first c.loop-line.marks c.loop-line.stack held i.3 (omega (arith, i.0, c.requires.2)) (omega (arith, i.1, c.requires.3)),
    )

pub loop-line-preserved : goal.loop-line-preserved
loop-line-preserved c =
    let step : let a = c.args in let g = listing a.lines.kinds.now a.lines.ends.now a.lines.sorts.now a.lines.values.now in (text : List ℕ) (h : Placed text a.lines.count g a.spots.starts.now a.spots.beneath.now a.spots.after.now a.spots.rest.now) → WriteStep text a.lines.count g a.spots.starts.now a.spots.beneath.now a.spots.after.now a.spots.rest.now h a.rows.now c.loop-line.line c.loop-line.first c.at-spot.result c.loop-line.rows = λ text h. let a = c.args in
    let g = listing a.lines.kinds.now a.lines.ends.now a.lines.sorts.now a.lines.values.now in
    let i = c.loop-line.invariant in
    write_step text a.lines.count g a.spots.starts.now a.spots.beneath.now a.spots.after.now a.spots.rest.now h a.rows.now c.loop-line.line c.loop-line.first c.at-spot.result c.loop-line.rows
    i.3 c.at-spot.ensures (i.4 text h) c.loop-line-test.true (omega (arith, i.2, c.requires.1)) in
    let a = c.args in
    let i = c.loop-line.invariant in
    let e = c.write_line.ensures in (
      e.0.0 ∙ i.0,
      e.0.1 ∙ i.1,
      ap length e.1 ∙ (step c.requires.0.0 c.requires.0.1).long ∙ i.2,
      sym (starts-next a.lines.ends.now c.loop-line.line),
      λ text h. subst (λ (v : List ℤ). Writing text a.rows.now (c.loop-line.line + 1) v) (sym e.1) (step text h).later,
    )

pub returns : goal.returns
returns c =
    let a = c.args in
    let g = listing a.lines.kinds.now a.lines.ends.now a.lines.sorts.now a.lines.values.now in
    λ text h. write-all text a.lines.count g a.spots.starts.now a.spots.beneath.now a.spots.after.now a.spots.rest.now h a.rows.now c.loop-line.line c.loop-line.rows (c.loop-line.invariant.4 text h) c.loop-line-test.false

pub slice_bounds-write_line-start : goal.slice_bounds-write_line-start
slice_bounds-write_line-start c =
    let held = line-held _ _ _ _ _ _ _ c.requires.0.1 _ c.loop-line-test.true in
    search (rules, held.begins)

pub slice_bounds-write_line-end : goal.slice_bounds-write_line-end
slice_bounds-write_line-end c =
    let held = line-held _ _ _ _ _ _ _ c.requires.0.1 _ c.loop-line-test.true in
    search (rules, held.within)

pub slice_bounds-write_line-start-in-loop-line : goal.slice_bounds-write_line-start-in-loop-line
slice_bounds-write_line-start-in-loop-line c =
    let held = line-held _ _ _ _ _ _ _ c.requires.0.1 _ c.loop-line-test.true in
    search (rules, held.begins)

pub slice_bounds-write_line-end-in-loop-line : goal.slice_bounds-write_line-end-in-loop-line
slice_bounds-write_line-end-in-loop-line c =
    let held = line-held _ _ _ _ _ _ _ c.requires.0.1 _ c.loop-line-test.true in
    search (rules, held.within, held.even)
