-- The bytes' own refusal, or that of the rows read, if there is room for them. Assumes nothing.
use mathlib.Core.Path.{refl, sym, ◌∙◌}
use native.Mathlib.Omega.{arith}
use lib.Seq.{length-take-le}
use Rattle.read_table.proofs.RowsRead.{RowsRead, refused-read, rows-read, never-full}
use Rattle.check_verdict.proofs.Verdicts.{bytes-refused, rows-judged}
use Rattle.check_verdict.proofs.check_in.Goals as goal

pub overflow_mul-n : goal.overflow_mul-n
overflow_mul-n c =
    let read : RowsRead c.args.table.now c.read_table.new.rows c.in-Ok.n = rows-read _ _ _ _ c.read_table.ensures _ c.in-Ok.is in
    let few = (read).few in omega arith

pub slice_bounds-check_rows_counted-end : goal.slice_bounds-check_rows_counted-end
slice_bounds-check_rows_counted-end c =
    let read : RowsRead c.args.table.now c.read_table.new.rows c.in-Ok.n = rows-read _ _ _ _ c.read_table.ensures _ c.in-Ok.is in
    (read).fits

pub slice_bounds-check_rows_counted-end-in-Ok : goal.slice_bounds-check_rows_counted-end-in-Ok
slice_bounds-check_rows_counted-end-in-Ok c =
    let read : RowsRead c.args.table.now c.read_table.new.rows c.in-Ok.n = rows-read _ _ _ _ c.read_table.ensures _ c.in-Ok.is in
    sym (length-take-le _ _ (read).fits)

pub returns-in-Err-Refused : goal.returns-in-Err-Refused
returns-in-Err-Refused c =
    let table = c.args.table.now in
    let e = c.in-Err-Refused in
    record {
      checked = (rw (e.number-is, e.place-is) at c.refused.ensures) ∙ bytes-refused table e.number e.place (refused-read table _ _ _ c.read_table.ensures e.number e.place (cc));
      room = λ l. refl;
    }

pub returns-in-Ok : goal.returns-in-Ok
returns-in-Ok c =
    let read : RowsRead c.args.table.now c.read_table.new.rows c.in-Ok.n = rows-read _ _ _ _ c.read_table.ensures _ c.in-Ok.is in
    let r = read in
    record { checked = (rw r.rows_are at c.check_rows_counted.ensures) ∙ rows-judged _ r.no-fault; room = λ l. refl }

pub returns-in-Err-Full : goal.returns-in-Err-Full
returns-in-Err-Full c = record { checked = tt; room = λ l. absurd (never-full _ _ _ _ c.read_table.ensures l (cc)) }
