-- The table's refusal, or what its sheet comes to. Assumes nothing.
use mathlib.Core.Path.{refl, sym, ◌∙◌}
use Rattle.meaning.specs.Answers.{check}
use Rattle.meaning.proofs.AnswerLaws.{accepted-none, rejected-some}
use Rattle.call_tasks.proofs.Stages.{task, table-refused, task-refused}
use Rattle.call_tasks.proofs.do_rows.Goals as goal

pub run_sheet-requires : goal.run_sheet-requires
run_sheet-requires c = accepted-none (check c.args.rows.now) (sym c.in-Accepted.is ∙ c.check_rows-verdict.ensures)

pub returns-in-Rejected : goal.returns-in-Rejected
returns-in-Rejected c =
    let a = c.args in
    let fault = rejected-some (check a.rows.now) c.in-Rejected.number c.in-Rejected.place (sym c.in-Rejected.is ∙ c.check_rows-verdict.ensures) in
    task-refused (task a.rows.now a.sheet.now a.choices.now a.budget) _ _ c.in-Rejected.number c.in-Rejected.place (table-refused a.rows.now a.sheet.now a.choices.now a.budget c.in-Rejected.number c.in-Rejected.place fault) refl
