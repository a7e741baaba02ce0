-- The rows are cleared, then the declarations' rows put, then the process's. Assumes nothing.
use Rattle.read_text.proofs.RowsLaws.{may-put, rows_written}
use Rattle.read_text.proofs.rows.write_with.Goals as goal

pub put_rows-requires : goal.put_rows-requires
put_rows-requires c =
    let t = c.requires.0 in
    let made = c.clear in
    (t.0, t.1.resolved, may-put t.0 c.args.rows.now t.1.few c.requires.1 _ made.ensures)

pub returns : goal.returns
returns c =
    λ text h.
    rows_written text c.args.rows.now h.few c.requires.1 _ c.clear.ensures _ (c.put_rows.ensures text h.resolved) c.args.declared h.counted _ (c.write_process.ensures text h)
