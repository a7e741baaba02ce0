-- The value of a row of an accepted table, none of any other. Assumes nothing.
use mathlib.Core.Path.{◌≡◌, sym, ◌∙◌}
use mathlib.Core.Option.{none}
use Rattle.meaning.specs.Answers.{check}
use Rattle.meaning.proofs.AnswerLaws.{accepted-none, rejected-some}
use Rattle.test_leaves.proofs.Values.{past-rows, refused-rows, value_found}
use Rattle.test_leaves.proofs.tables.value_at.Goals as goal

pub returns-then-rows-r : goal.returns-then-rows-r
returns-then-rows-r c = past-rows c.args.rows.now _ c.args.r c.if-rows-r.true

pub value_in-requires : goal.value_in-requires
value_in-requires c =
    let no-fault : check c.args.rows.now ≡ none = accepted-none (check c.args.rows.now) (sym c.in-Accepted.is ∙ c.check_rows-verdict.ensures) in
    record { accepted = no-fault; inside = c.if-rows-r.false }

pub returns-in-Rejected : goal.returns-in-Rejected
returns-in-Rejected c =
    let a = c.args in
    refused-rows a.rows.now _ a.r (c.in-Rejected.field-0, c.in-Rejected.field-1) (rejected-some (check a.rows.now) c.in-Rejected.field-0 c.in-Rejected.field-1 (sym c.in-Rejected.is ∙ c.check_rows-verdict.ensures))

pub returns-in-Accepted : goal.returns-in-Accepted
returns-in-Accepted c =
    let no-fault : check c.args.rows.now ≡ none = accepted-none (check c.args.rows.now) (sym c.in-Accepted.is ∙ c.check_rows-verdict.ensures) in
    let a = c.args in
    c.value_in.ensures ∙ value_found a.rows.now _ a.r no-fault
