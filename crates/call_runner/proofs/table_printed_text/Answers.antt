-- A refusal of the table's bytes, or what its rows and the sheet come to; there is room for the rows of every table. Assumes nothing.
use mathlib.Core.Path.{sym, ap, subst, ◌∙◌}
use mathlib.Core.List.{List, []}
use Prim.Native.Nat.{◌≤◌}
use native.Mathlib.Omega.{arith}
use lib.IntN.{ℤ}
use lib.ListN.{length}
use lib.Seq.{length-take-le}
use Rattle.meaning.specs.Limits.{max_budget}
use Rattle.meaning.specs.TableBytes.{rows_of}
use Rattle.meaning.specs.Answers.{Result, result}
use Rattle.meaning.specs.PrintedForms.{Each, In32}
use Rattle.meaning.specs.Runner.{printed_result}
use Rattle.read_table.proofs.RowsRead.{RowsRead, refused-read, rows-read, never-full}
use Rattle.write_bytes.specs.Writing.{printed_in}
use Rattle.call_runner.specs.PrintedTexts.{task_of, max_printed_text}
use Rattle.call_tasks.proofs.Stages.{bytes-refused, rows-done}
use Rattle.call_runner.proofs.Ranges.{rows_in}
use Rattle.call_runner.proofs.table_printed_text.Goals as goal

pub overflow_mul-rows : goal.overflow_mul-rows
overflow_mul-rows c =
    let read : RowsRead c.args.table.now c.read_table.new.rows c.in-Ok.n = rows-read _ _ _ _ c.read_table.ensures _ c.in-Ok.is in
    let few = read.few in omega arith

pub slice_bounds-rows-end : goal.slice_bounds-rows-end
slice_bounds-rows-end c =
    let read : RowsRead c.args.table.now c.read_table.new.rows c.in-Ok.n = rows-read _ _ _ _ c.read_table.ensures _ c.in-Ok.is in
    read.fits

pub slice_bounds-rows_printed_text-end : goal.slice_bounds-rows_printed_text-end
slice_bounds-rows_printed_text-end c =
    let read : RowsRead c.args.table.now c.read_table.new.rows c.in-Ok.n = rows-read _ _ _ _ c.read_table.ensures _ c.in-Ok.is in
    sym (length-take-le _ _ read.fits)

pub returns-in-Err-Refused : goal.returns-in-Err-Refused
returns-in-Err-Refused c =
    let a = c.args in
    let bytes = a.table.now in
    let f = refused-read _ _ _ _ c.read_table.ensures c.in-Err-Refused.number c.in-Err-Refused.place (cc) in
    let e = bytes-refused bytes a.sheet.now [] max_budget c.in-Err-Refused.number c.in-Err-Refused.place f in
    let p = rw (c.in-Err-Refused.number-is, c.in-Err-Refused.place-is) at c.refusal_printed_text.ensures in
    record { written = p.written ∙ ap (λ (q : Result). printed_in (printed_result (rows_of bytes) q) a.out.now) (sym e); fits = rw e p.fits }

pub returns-in-Ok : goal.returns-in-Ok
returns-in-Ok c =
    let read : RowsRead c.args.table.now c.read_table.new.rows c.in-Ok.n = rows-read _ _ _ _ c.read_table.ensures _ c.in-Ok.is in
    let a = c.args in
    let bytes = a.table.now in
    let r = read in
    let same = rows-done bytes a.sheet.now [] max_budget r.no-fault in
    let p = c.rows_printed_text.ensures in record {
      written = p.written
          ∙ ap (λ (l : List ℤ). printed_in (printed_result l (result (task_of l a.sheet.now))) a.out.now) r.rows_are
          ∙ ap (λ (q : Result). printed_in (printed_result (rows_of bytes) q) a.out.now) (sym same);
      fits = rw same (subst (λ (l : List ℤ). length (printed_result l (result (task_of l a.sheet.now))) ≤ max_printed_text) r.rows_are (p.fits (subst (Each In32) (sym r.rows_are) (rows_in bytes r.no-fault))));
    }

pub returns-in-Err-Full : goal.returns-in-Err-Full
returns-in-Err-Full c = absurd (never-full _ _ _ _ c.read_table.ensures (omega arith) (cc))
