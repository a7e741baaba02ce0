-- The lines are measured, placed, and then written. Assumes nothing.
use mathlib.Core.Path.{◌∙◌}
use mathlib.Core.List.{List}
use Prim.Native.Nat.{ℕ}
use lib.ListN.{replicate, length-replicate}
use Rattle.read_levels.specs.Listing.{listing}
use Rattle.read_sizes.specs.Sizes.{text_standings}
use Rattle.read_processes.specs.Written.{Ready, Placed}
use Rattle.read_counts.proofs.ListedLaws.{spans-told}
use Rattle.read_sizes.proofs.MeasuredLaws.{few-lines}
use Rattle.read_processes.proofs.WholeText.{text-measured, text-placeable, text-placed, process-over}
use Rattle.read_processes.proofs.write_process.Goals as goal

pub own_rows-requires : goal.own_rows-requires
own_rows-requires c =
    let (text, h) = c.requires.0 in
    (spans-told h.resolved.lines, few-lines text h.resolved.of-grammar h.few h.resolved.lines)

pub measure-requires : goal.measure-requires
measure-requires c =
    let a = c.args in
    let g = listing a.lines.kinds.now a.lines.ends.now a.lines.sorts.now a.lines.values.now in
    let o = c.own_rows in
    let (text, h) = c.requires.0 in
    (text_standings text, text-measured text a.declared a.lines.count a.lines.levels.now g h (replicate 1024 0) o.new.owns (length-replicate {A = ℕ} 1024 0) o.ensures)

pub place_lines-requires : goal.place_lines-requires
place_lines-requires c =
    let a = c.args in
    let g = listing a.lines.kinds.now a.lines.ends.now a.lines.sorts.now a.lines.values.now in
    let o = c.own_rows in
    let m = c.measure in
    let (text, h) = c.requires.0 in (
      text,
      text-placeable text a.declared a.lines.count a.lines.levels.now g h (replicate 1024 0) o.new.owns (length-replicate {A = ℕ} 1024 0) o.ensures
          m.new.beneath m.new.after m.new.rest m.ensures,
    )

pub write_lines-requires : goal.write_lines-requires
write_lines-requires c =
    let placed : let a = c.args in let g = listing a.lines.kinds.now a.lines.ends.now a.lines.sorts.now a.lines.values.now in let m = c.measure in (text : List ℕ) → Ready text a.declared a.lines.count a.lines.levels.now g → Placed text a.lines.count g c.place_lines.new.starts m.new.beneath m.new.after m.new.rest = λ text h. let a = c.args in
    let g = listing a.lines.kinds.now a.lines.ends.now a.lines.sorts.now a.lines.values.now in
    let o = c.own_rows in
    let m = c.measure in
    let p = c.place_lines in
    text-placed text a.declared a.lines.count a.lines.levels.now g h (replicate 1024 0) o.new.owns (length-replicate {A = ℕ} 1024 0) o.ensures
    m.new.beneath m.new.after m.new.rest m.ensures p.new.starts p.ensures in
    let (text, h) = c.requires.0 in
    ((text, placed text h), c.requires.1, c.requires.2, c.requires.3)

pub returns : goal.returns
returns c =
    let placed : let a = c.args in let g = listing a.lines.kinds.now a.lines.ends.now a.lines.sorts.now a.lines.values.now in let m = c.measure in (text : List ℕ) → Ready text a.declared a.lines.count a.lines.levels.now g → Placed text a.lines.count g c.place_lines.new.starts m.new.beneath m.new.after m.new.rest = λ text h. let a = c.args in
    let g = listing a.lines.kinds.now a.lines.ends.now a.lines.sorts.now a.lines.values.now in
    let o = c.own_rows in
    let m = c.measure in
    let p = c.place_lines in
    text-placed text a.declared a.lines.count a.lines.levels.now g h (replicate 1024 0) o.new.owns (length-replicate {A = ℕ} 1024 0) o.ensures
    m.new.beneath m.new.after m.new.rest m.ensures p.new.starts p.ensures in
    let a = c.args in
    let g = listing a.lines.kinds.now a.lines.ends.now a.lines.sorts.now a.lines.values.now in
    λ text h. c.write_lines.ensures text (placed text h) ∙ process-over text a.declared a.lines.count a.lines.levels.now g a.rows.now h c.requires.1
