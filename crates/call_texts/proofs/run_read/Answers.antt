-- By what reading comes to. Assumes nothing.
use native.Mathlib.Omega.{arith}
use Rattle.write_buffers.specs.Lending.{buffers_in}
use Rattle.call_texts.proofs.TextReads.{fault-told, is-fine, within, room, part-long, rows-there, reply-refused, reply-on-rows}
use borrow.Author.Rules.{rules}
use Rattle.call_texts.proofs.run_read.Goals as goal

pub overflow_mul-count : goal.overflow_mul-count
overflow_mul-count c = let h = within c.args.text.now c.args.rows.now c.requires.room c.read_text.result c.read_text.new.rows c.read_text.ensures c.in-Ok.count c.in-Ok.is in record { fits = omega (arith, h) }

pub slice_bounds-run_rows-end : goal.slice_bounds-run_rows-end
slice_bounds-run_rows-end c = room c.args.text.now c.args.rows.now c.requires.room c.read_text.result c.read_text.new.rows c.read_text.ensures c.in-Ok.count c.in-Ok.is

pub slice_bounds-run_rows-end-in-Ok : goal.slice_bounds-run_rows-end-in-Ok
slice_bounds-run_rows-end-in-Ok c = part-long c.args.text.now c.args.rows.now c.requires.room c.read_text.result c.read_text.new.rows c.read_text.ensures c.in-Ok.count c.in-Ok.is

pub returns-in-Err : goal.returns-in-Err
returns-in-Err c =
    let a = c.args in
    record { answered = reply-refused a.text.now a.sheet.now a.choices.now a.budget (buffers_in a.lent.now) c.in-Err.refused.number c.in-Err.refused.place c.requires.long (fault-told c.args.text.now c.args.rows.now c.requires.room c.read_text.result c.read_text.new.rows c.read_text.ensures c.in-Err.refused.number c.in-Err.refused.place c.in-Err.is); same = search rules }

pub returns-in-Ok : goal.returns-in-Ok
returns-in-Ok c =
    let a = c.args in
    record { answered = reply-on-rows a.text.now a.sheet.now a.choices.now a.budget (buffers_in a.lent.now) _ (is-fine c.args.text.now c.args.rows.now c.requires.room c.read_text.result c.read_text.new.rows c.read_text.ensures c.in-Ok.count c.in-Ok.is) (rows-there c.args.text.now c.args.rows.now c.requires.room c.read_text.result c.read_text.new.rows c.read_text.ensures c.in-Ok.count c.in-Ok.is) _ c.run_rows.ensures.answered; same = c.run_rows.ensures.same }
