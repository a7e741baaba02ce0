-- By what reading comes to. Assumes nothing.
use mathlib.Core.Path.{ap, ◌∙◌}
use mathlib.Core.List.{List}
use native.Mathlib.Omega.{arith}
use lib.IntN.{ℤ}
use Rattle.meaning.specs.Answers.{verdict_of, check}
use Rattle.call_texts.proofs.TextReads.{fault-told, is-fine, within, room, part-long, rows-there, verdict-refused, verdict-on-rows}
use Rattle.call_texts.proofs.check_read.Goals as goal

pub overflow_mul-count : goal.overflow_mul-count
overflow_mul-count c = let h = within c.args.text.now c.args.rows.now c.requires c.read_text.result c.read_text.new.rows c.read_text.ensures c.in-Ok.count c.in-Ok.is in record { fits = omega (arith, h) }

pub slice_bounds-check_rows-end : goal.slice_bounds-check_rows-end
slice_bounds-check_rows-end c = room c.args.text.now c.args.rows.now c.requires c.read_text.result c.read_text.new.rows c.read_text.ensures c.in-Ok.count c.in-Ok.is

pub slice_bounds-check_rows-end-in-Ok : goal.slice_bounds-check_rows-end-in-Ok
slice_bounds-check_rows-end-in-Ok c = part-long c.args.text.now c.args.rows.now c.requires c.read_text.result c.read_text.new.rows c.read_text.ensures c.in-Ok.count c.in-Ok.is

pub returns-in-Err : goal.returns-in-Err
returns-in-Err c = verdict-refused c.args.text.now _ _ (fault-told c.args.text.now c.args.rows.now c.requires c.read_text.result c.read_text.new.rows c.read_text.ensures c.in-Err.refused.number c.in-Err.refused.place c.in-Err.is)

pub returns-in-Ok : goal.returns-in-Ok
returns-in-Ok c =
    let fine = is-fine c.args.text.now c.args.rows.now c.requires c.read_text.result c.read_text.new.rows c.read_text.ensures c.in-Ok.count c.in-Ok.is in
    c.check_rows.ensures ∙ ap (λ (l : List ℤ). verdict_of (check l)) (rows-there c.args.text.now c.args.rows.now c.requires c.read_text.result c.read_text.new.rows c.read_text.ensures c.in-Ok.count c.in-Ok.is) ∙ verdict-on-rows c.args.text.now fine
