-- `choices`, which calls itself on the next choice, meets its contract. The measure is the rows left to the table's end.
use mathlib.Core.Path.{sym, ◌∙◌}
use native.Mathlib.Omega.{arith}
use Rattle.base_layout.proofs.Parts.{operand-higher}
use Rattle.base_sets.proofs.SetLaws.{no_call, two-calls}
use Rattle.check_components.proofs.ProcessMarks.{past-choices, choice-marks, no-choices}
use Rattle.check_components.proofs.+choices.Goals.{else-m-rows-via-then-m-rows+else-natural-eq41, else-m-rows-via-else-m-rows}
use Rattle.check_components.proofs.+choices.Goals as goal

pub choices-requires : goal.choices-requires
choices-requires t c =
    (omega (arith, c.decreases, c.operand-then-natural-eq41.ensures, operand-higher c.args.rows.now c.args.m 2 c.if-m-rows.true), c.requires)

pub returns-then-natural-eq41 : goal.returns-then-natural-eq41
returns-then-natural-eq41 t c =
    two-calls _ _ _ c.expression.ensures c.choices.ensures (choice-marks c.args.rows.now c.args.m c.if-m-rows.true (sym c.natural.ensures ∙ c.if-natural-eq41.true) c.operand-then-natural-eq41.ensures c.operand.ensures)

pub returns-else-m-rows : goal.returns-else-m-rows
returns-else-m-rows t c =
    elim c.else-m-rows.branch [
      | else-m-rows-via-then-m-rows+else-natural-eq41 w ↦ no_call _ (no-choices c.args.rows.now c.args.m w.if-m-rows.true (λ q. w.if-natural-eq41.false (w.natural.ensures ∙ q)))
      | else-m-rows-via-else-m-rows w ↦ no_call _ (past-choices c.args.rows.now c.args.m w.if-m-rows.false)
    ]
