-- `options`, which calls itself on the next option, meets its contract. The measure is the rows left to the table's end.
use mathlib.Core.Path.{sym, ◌∙◌}
use native.Mathlib.Omega.{arith}
use Rattle.base_layout.proofs.Parts.{operand-higher}
use Rattle.base_sets.proofs.SetLaws.{no_call, three-calls}
use Rattle.check_components.proofs.ProcessMarks.{past-options, option-marks, no-options}
use Rattle.check_components.proofs.+options.Goals.{else-m-rows-via-then-m-rows+else-natural-eq42, else-m-rows-via-else-m-rows}
use Rattle.check_components.proofs.+options.Goals as goal

pub options-requires : goal.options-requires
options-requires t c =
    (omega (arith, c.decreases, c.operand.ensures, operand-higher c.args.rows.now c.args.m 2 c.if-m-rows.true), c.requires)

pub returns-then-natural-eq42 : goal.returns-then-natural-eq42
returns-then-natural-eq42 t c =
    three-calls _ _ _ _ c.guard_boolean.ensures c.guard_input.ensures c.options.ensures (option-marks c.args.rows.now c.args.m c.if-m-rows.true (sym c.natural.ensures ∙ c.if-natural-eq42.true) c.operand.ensures c.operand-g.ensures)

pub returns-else-m-rows : goal.returns-else-m-rows
returns-else-m-rows t c =
    elim c.else-m-rows.branch [
      | else-m-rows-via-then-m-rows+else-natural-eq42 w ↦ no_call _ (no-options c.args.rows.now c.args.m w.if-m-rows.true (λ q. w.if-natural-eq42.false (w.natural.ensures ∙ q)))
      | else-m-rows-via-else-m-rows w ↦ no_call _ (past-options c.args.rows.now c.args.m w.if-m-rows.false)
    ]
