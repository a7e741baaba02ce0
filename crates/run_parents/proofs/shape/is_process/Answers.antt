-- `is_process` meets its contract: what stands at a row, by its part in settling.
use Rattle.run_parents.proofs.Standing.{found}
use Rattle.run_parents.proofs.shape.is_process.Goals as goal

pub returns-in-Ending : goal.returns-in-Ending
returns-in-Ending c =
    let args = c.args in
    rw (found args.rows.now args.r c.shape_at-s.ensures c.in-Ending.is).process-is

pub returns-in-Single : goal.returns-in-Single
returns-in-Single c =
    let args = c.args in
    rw (found args.rows.now args.r c.shape_at-s.ensures c.in-Single.is).process-is

pub returns-in-Link : goal.returns-in-Link
returns-in-Link c =
    let args = c.args in
    rw (found args.rows.now args.r c.shape_at-s.ensures c.in-Link.is).no-process

pub returns-in-Neither : goal.returns-in-Neither
returns-in-Neither c =
    let args = c.args in
    rw (found args.rows.now args.r c.shape_at-s.ensures c.in-Neither.is).no-process
