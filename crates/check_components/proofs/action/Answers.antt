-- `action` meets its contract: by the row's kind.
use mathlib.Core.Path.{sym, ◌∙◌}
use Rattle.base_sets.proofs.SetLaws.{one-call}
use Rattle.check_components.proofs.ProcessMarks.{own-choices, own-loop, own-options}
use Rattle.check_components.proofs.action.Goals as goal

pub step-requires : goal.step-requires
step-requires c =
    (c.requires.0, c.requires.1, ((λ q. c.in_default.in_default-own.rest.0.0.1 (c.natural.ensures ∙ q)), (λ q. c.in_default.in_default-own.rest.0.1 (c.natural.ensures ∙ q)), (λ q. c.in_default.in_default-own.rest.1 (c.natural.ensures ∙ q))))

pub returns-in-32 : goal.returns-in-32
returns-in-32 c =
    one-call _ _ c.choices.ensures (own-choices c.args.rows.now c.args.r c.requires.0 (sym c.natural.ensures ∙ c.in-32.is) c.operand.ensures)

pub returns-in-33 : goal.returns-in-33
returns-in-33 c =
    one-call _ _ c.expression.ensures (own-loop c.args.rows.now c.args.r c.requires.0 (sym c.natural.ensures ∙ c.in-33.is) c.operand-in-33.ensures)

pub returns-in-34 : goal.returns-in-34
returns-in-34 c =
    one-call _ _ c.options.ensures (own-options c.args.rows.now c.args.r c.requires.0 (sym c.natural.ensures ∙ c.in-34.is) c.operand-in-34.ensures)

pub returns-in_default : goal.returns-in_default
returns-in_default c = c.step.ensures
