-- `guard_boolean` meets its contract: only a guard row has a boolean that is not a literal.
use mathlib.Core.Path.{sym, ◌∙◌}
use Rattle.base_sets.proofs.SetLaws.{no_call, one-call}
use Rattle.check_components.proofs.ProcessMarks.{past-boolean, boolean-marks, no-boolean}
use Rattle.check_components.proofs.guard_boolean.Goals.{else-g-rows-via-then-g-rows+else-natural-eq43, else-g-rows-via-else-g-rows}
use Rattle.check_components.proofs.guard_boolean.Goals as goal

pub returns-then-natural-eq43 : goal.returns-then-natural-eq43
returns-then-natural-eq43 c =
    one-call _ _ c.expression.ensures (boolean-marks c.args.rows.now c.args.g c.if-g-rows.true (sym c.natural.ensures ∙ c.if-natural-eq43.true) c.operand.ensures)

pub returns-else-g-rows : goal.returns-else-g-rows
returns-else-g-rows c =
    elim c.else-g-rows.branch [
      | else-g-rows-via-then-g-rows+else-natural-eq43 w ↦ no_call _ (no-boolean c.args.rows.now c.args.g w.if-g-rows.true (λ q. w.if-natural-eq43.false (w.natural.ensures ∙ q)))
      | else-g-rows-via-else-g-rows w ↦ no_call _ (past-boolean c.args.rows.now c.args.g w.if-g-rows.false)
    ]
