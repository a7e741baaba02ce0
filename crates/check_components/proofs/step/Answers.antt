-- `step` meets its contract: by the row's kind.
use mathlib.Core.Path.{sym, ◌∙◌}
use Rattle.base_sets.proofs.SetLaws.{no_call, one-call, two-calls}
use Rattle.check_components.proofs.ProcessMarks.{assign-marks, own-input, own-output, own-none}
use Rattle.check_components.proofs.step.Goals as goal

pub returns-in-22 : goal.returns-in-22
returns-in-22 c =
    two-calls _ _ _ c.target.ensures c.expression.ensures (assign-marks c.args.rows.now c.args.r c.requires.0 (sym c.natural.ensures ∙ c.in-22.is) c.operand.ensures)

pub returns-in-23 : goal.returns-in-23
returns-in-23 c =
    one-call _ _ c.of_input.ensures (own-input c.args.rows.now c.args.r c.requires.0 (sym c.natural.ensures ∙ c.in-23.is))

pub returns-in-24 : goal.returns-in-24
returns-in-24 c =
    one-call _ _ c.of_output.ensures (own-output c.args.rows.now c.args.r c.requires.0 (sym c.natural.ensures ∙ c.in-24.is))

pub returns-in_default : goal.returns-in_default
returns-in_default c =
    no_call _ (own-none c.args.rows.now c.args.r c.requires.0 (λ q. c.in_default.in_default-own.rest.0.0.1 (c.natural.ensures ∙ q)) (λ q. c.in_default.in_default-own.rest.0.1 (c.natural.ensures ∙ q)) (λ q. c.in_default.in_default-own.rest.1 (c.natural.ensures ∙ q)) c.requires.2.0 c.requires.2.1 c.requires.2.2)
