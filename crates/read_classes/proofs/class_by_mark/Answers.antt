-- The two tests in turn, by the rule of the sort. Assumes nothing.
use mathlib.Core.Path.{sym, ap, ◌∙◌}
use Prim.Native.Nat.{ℕ}
use Rattle.read_classes.specs.Rules.{rules, rule_at}
use Rattle.read_classes.proofs.RuleSteps.{refused-before, refused-after, accepted}
use Rattle.read_classes.proofs.class_by_mark.Goals as goal
use Rattle.read_classes.proofs.class_by_mark.Goals.{else-is_part-via-then-is_part+else-is_part-2, else-is_part-via-else-is_part}

pub returns-then-is_part-2 : goal.returns-then-is_part-2
unfolding rules
returns-then-is_part-2 c =
    let a = c.args in
    accepted a.sort a.before.now a.after.now c.rule_at-asked_before.result (c.rule_at-asked_before.ensures ∙ ap (λ (n : ℕ). rule_at rules n) c.from.ensures)
    (sym c.if-is_part.ensures) (sym c.if-is_part-2.ensures)

pub returns-else-is_part : goal.returns-else-is_part
unfolding rules
returns-else-is_part c =
    let a = c.args in
    elim c.else-is_part.branch [
      | else-is_part-via-then-is_part+else-is_part-2 w ↦
          refused-after a.sort a.before.now a.after.now c.rule_at-asked_before.result (c.rule_at-asked_before.ensures ∙ ap (λ (n : ℕ). rule_at rules n) c.from.ensures)
          (sym w.if-is_part.ensures) (sym w.if-is_part-2.ensures)
      | else-is_part-via-else-is_part w ↦
          refused-before a.sort a.before.now a.after.now c.rule_at-asked_before.result (c.rule_at-asked_before.ensures ∙ ap (λ (n : ℕ). rule_at rules n) c.from.ensures)
          (sym w.if-is_part.ensures)
    ]
