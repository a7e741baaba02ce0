-- The refusal of the stages 3 to 6, or that of blocks, or that of usage. Assumes nothing.
use mathlib.Core.Path.{◌≡◌, sym, ◌∙◌}
use mathlib.Core.Option.{none}
use Rattle.meaning.specs.Refusals.{first_fault}
use Rattle.meaning.specs.Verdict.{block_fault}
use Rattle.meaning.proofs.AnswerLaws.{accepted-none, rejected-some}
use Rattle.check_verdict.proofs.Verdicts.{form_stages, form-refused, form-limits, blocks-refused, usage-judged}
use Rattle.check_verdict.proofs.check_rows_counted.Goals as goal

pub block_fault-requires : goal.block_fault-requires
block_fault-requires c =
    let no-fault : first_fault form_stages c.args.rows.now ≡ none = accepted-none (first_fault form_stages c.args.rows.now) (sym c.in_default.is ∙ c.check_form.ensures) in
    (form-limits c.args.rows.now (no-fault)).0

pub first_clash-requires : goal.first_clash-requires
first_clash-requires c =
    let no-fault : first_fault form_stages c.args.rows.now ≡ none = accepted-none (first_fault form_stages c.args.rows.now) (sym c.in_default.is ∙ c.check_form.ensures) in
    let (p, l) = form-limits c.args.rows.now (no-fault) in
    (p.few, p.form, l)

pub returns-in-Rejected : goal.returns-in-Rejected
returns-in-Rejected c =
    let rows = c.args.rows.now in
    c.refused.ensures ∙ form-refused rows c.in-Rejected.number c.in-Rejected.row (rejected-some (first_fault form_stages rows) c.in-Rejected.number c.in-Rejected.row (sym c.in-Rejected.is ∙ c.check_form.ensures))

pub returns-in-Rejected-block_fault : goal.returns-in-Rejected-block_fault
returns-in-Rejected-block_fault c =
    let no-fault : first_fault form_stages c.args.rows.now ≡ none = accepted-none (first_fault form_stages c.args.rows.now) (sym c.in_default.is ∙ c.check_form.ensures) in
    let rows = c.args.rows.now in
    let e = rejected-some (block_fault rows) c.in-Rejected-block_fault.number c.in-Rejected-block_fault.place (sym c.in-Rejected-block_fault.is ∙ c.block_fault.ensures) in
    c.refused-in-Rejected-block_fault.ensures ∙ blocks-refused rows c.in-Rejected-block_fault.number c.in-Rejected-block_fault.place (no-fault) e

pub returns : goal.returns
returns c =
    let no-block-fault : block_fault c.args.rows.now ≡ none = accepted-none (block_fault c.args.rows.now) (sym c.in_default-block_fault.is ∙ c.block_fault.ensures) in
    let no-fault : first_fault form_stages c.args.rows.now ≡ none = accepted-none (first_fault form_stages c.args.rows.now) (sym c.in_default.is ∙ c.check_form.ensures) in
    let rows = c.args.rows.now in
    c.first_clash.ensures ∙ usage-judged rows (no-fault) (no-block-fault)
