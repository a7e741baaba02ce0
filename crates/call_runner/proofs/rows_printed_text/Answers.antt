-- What the task comes to, a refusal or a run, is printed. Assumes nothing.
use mathlib.Core.Path.{refl, sym, ap, ◌∙◌}
use Rattle.write_buffers.specs.Replies.{reply_in}
use Rattle.call_runner.proofs.Stages.{refusal-done, run-done}
use Rattle.call_runner.proofs.rows_printed_text.Goals as goal

pub returns-in-Err : goal.returns-in-Err
returns-in-Err c =
    let a = c.args in
    let done = ap reply_in (sym c.in-Err.is) ∙ c.task_done.ensures in
    let p = refusal-done a.rows.now a.sheet.now _ done a.out.now c.in-Err.refusal.number c.in-Err.refusal.place refl _ c.refusal_printed_text.ensures.written c.refusal_printed_text.ensures.fits in
    record { written = p.0; fits = p.1 }

pub returns-in-Ok : goal.returns-in-Ok
returns-in-Ok c =
    let a = c.args in
    let done = ap reply_in (sym c.in-Ok.is) ∙ c.task_done.ensures in
    let text = c.run_printed_text.ensures in
    let p = run-done a.rows.now a.sheet.now _ done a.out.now _ _ _ refl _ refl text.bytes _ text.written in
    record { written = p.0; fits = p.1 }
