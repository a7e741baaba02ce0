-- The bytes' own refusal, or what the rows read come to; a table with more rows than there is room for is done as a large one. Assumes nothing.
use mathlib.Core.Path.{refl, sym, ◌∙◌}
use native.Mathlib.Omega.{arith}
use lib.Seq.{length-take-le}
use Rattle.run_turns.specs.Showing.{lists_lent}
use Rattle.read_table.proofs.RowsRead.{RowsRead, refused-read, rows-read}
use Rattle.call_tasks.proofs.Stages.{table-done-refused, table-done-rows}
use Rattle.call_tasks.proofs.do_table.Goals as goal

pub overflow_mul-small : goal.overflow_mul-small
overflow_mul-small c =
    let read : RowsRead c.args.table.now c.read_table.new.rows c.in-Ok.n = rows-read _ _ _ _ c.read_table.ensures _ c.in-Ok.is in
    let few = read.few in omega arith

pub slice_bounds-small-end : goal.slice_bounds-small-end
slice_bounds-small-end c =
    let read : RowsRead c.args.table.now c.read_table.new.rows c.in-Ok.n = rows-read _ _ _ _ c.read_table.ensures _ c.in-Ok.is in
    read.fits

pub slice_bounds-do_rows-end : goal.slice_bounds-do_rows-end
slice_bounds-do_rows-end c =
    let read : RowsRead c.args.table.now c.read_table.new.rows c.in-Ok.n = rows-read _ _ _ _ c.read_table.ensures _ c.in-Ok.is in
    sym (length-take-le _ _ read.fits)

pub returns-in-Err-Refused : goal.returns-in-Err-Refused
returns-in-Err-Refused c =
    let a = c.args in
    let fault = refused-read _ _ _ _ c.read_table.ensures c.in-Err-Refused.number c.in-Err-Refused.place (cc) in
    rw (c.in-Err-Refused.number-is, c.in-Err-Refused.place-is) (table-done-refused a.table.now a.sheet.now a.choices.now a.budget (lists_lent a.readied.now a.taken.now) c.in-Err-Refused.number c.in-Err-Refused.place _ fault refl)

pub returns-in-Ok : goal.returns-in-Ok
returns-in-Ok c =
    let read : RowsRead c.args.table.now c.read_table.new.rows c.in-Ok.n = rows-read _ _ _ _ c.read_table.ensures _ c.in-Ok.is in
    let a = c.args in
    let r = read in
    (rw r.rows_are at c.do_rows.ensures) ∙ table-done-rows a.table.now a.sheet.now a.choices.now a.budget (lists_lent a.readied.now a.taken.now) r.no-fault
