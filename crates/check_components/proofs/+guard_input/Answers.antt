-- `guard_input`, which calls itself on the row that a guard refers to, meets its contract. The measure is the rows left to the table's end.
use mathlib.Core.Path.{sym, ◌∙◌}
use native.Mathlib.Omega.{arith}
use Rattle.base_layout.proofs.Parts.{operand-higher}
use Rattle.base_sets.proofs.SetLaws.{no_call, one-call}
use Rattle.check_components.proofs.ProcessMarks.{past-input, input-marks, guard-marks, no-input}
use Rattle.check_components.proofs.+guard_input.Goals as goal

pub returns-then-rows-g : goal.returns-then-rows-g
returns-then-rows-g t c =
    no_call _ (past-input c.args.rows.now c.args.g c.if-rows-g.true)

pub guard_input-requires : goal.guard_input-requires
guard_input-requires t c =
    (omega (arith, c.decreases, c.operand.ensures, operand-higher c.args.rows.now c.args.g 2 c.if-rows-g.false), c.requires)

pub returns-in-23 : goal.returns-in-23
returns-in-23 t c =
    one-call _ _ c.of_input.ensures (input-marks c.args.rows.now c.args.g c.if-rows-g.false (sym c.natural.ensures ∙ c.in-23.is))

pub returns-in-43 : goal.returns-in-43
returns-in-43 t c =
    one-call _ _ c.guard_input.ensures (guard-marks c.args.rows.now c.args.g c.if-rows-g.false (sym c.natural.ensures ∙ c.in-43.is) c.operand.ensures)

pub returns-in_default : goal.returns-in_default
returns-in_default t c =
    no_call _ (no-input c.args.rows.now c.args.g c.if-rows-g.false (λ q. c.in_default.in_default-own.rest.0.1 (c.natural.ensures ∙ q)) (λ q. c.in_default.in_default-own.rest.1 (c.natural.ensures ∙ q)))
