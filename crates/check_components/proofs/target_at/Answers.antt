-- `target_at` meets its contract: only an element is a target.
use mathlib.Core.Path.{sym, ap, ◌∙◌}
use Rattle.check_components.specs.Marks.{mark_target}
use Rattle.base_sets.proofs.SetLaws.{no_call, one-call}
use Rattle.check_components.proofs.ExprMarks.{past-target, target_is, no-target-marks}
use Rattle.check_components.proofs.target_at.Goals.{else-c-rows-via-then-c-rows+else-natural-eq11, else-c-rows-via-else-c-rows}
use Rattle.check_components.proofs.target_at.Goals as goal

pub returns-then-natural-eq11 : goal.returns-then-natural-eq11
returns-then-natural-eq11 c =
    one-call _ _ c.target.ensures (ap mark_target (target_is c.args.rows.now c.args.c c.if-c-rows.true (sym c.natural.ensures ∙ c.if-natural-eq11.true)))

pub returns-else-c-rows : goal.returns-else-c-rows
returns-else-c-rows c =
    elim c.else-c-rows.branch [
      | else-c-rows-via-then-c-rows+else-natural-eq11 w ↦ no_call _ (no-target-marks c.args.rows.now c.args.c w.if-c-rows.true (λ q. w.if-natural-eq11.false (w.natural.ensures ∙ q)))
      | else-c-rows-via-else-c-rows w ↦ no_call _ (past-target c.args.rows.now c.args.c w.if-c-rows.false)
    ]
