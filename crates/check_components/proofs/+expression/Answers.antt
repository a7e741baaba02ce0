-- `expression`, which calls itself on operands, meets its contract. The measure is the rows left to the table's end.
use mathlib.Core.Path.{sym, ◌∙◌}
use native.Mathlib.Omega.{arith}
use Rattle.base_layout.proofs.Parts.{operand-higher}
use Rattle.base_sets.proofs.SetLaws.{no_call, one-call, two-calls}
use Rattle.check_components.proofs.ExprMarks.{past-expr, element-marks, monadic-marks, dyadic-marks, no-expr-marks}
use Rattle.check_components.proofs.+expression.Goals as goal

pub returns-then-rows-e : goal.returns-then-rows-e
returns-then-rows-e t c =
    no_call _ (past-expr c.args.rows.now c.args.e c.if-rows-e.true)

pub expression-requires : goal.expression-requires
expression-requires t c =
    (omega (arith, c.decreases, c.operand.ensures, operand-higher c.args.rows.now c.args.e 2 c.if-rows-e.false), c.requires)

pub expression-requires-in-12 : goal.expression-requires-in-12
expression-requires-in-12 t c =
    (omega (arith, c.decreases, c.operand-in-12.ensures, operand-higher c.args.rows.now c.args.e 2 c.if-rows-e.false), c.requires)

pub expression-requires-in-13 : goal.expression-requires-in-13
expression-requires-in-13 t c =
    (omega (arith, c.decreases, c.operand-in-13.ensures, operand-higher c.args.rows.now c.args.e 2 c.if-rows-e.false), c.requires)

pub expression-requires-in-13-2 : goal.expression-requires-in-13-2
expression-requires-in-13-2 t c =
    (omega (arith, c.decreases, c.operand-in-13-2.ensures, operand-higher c.args.rows.now c.args.e 3 c.if-rows-e.false), c.requires)

pub returns-in-11 : goal.returns-in-11
returns-in-11 t c =
    two-calls _ _ _ c.cells.ensures c.expression.ensures (element-marks c.args.rows.now c.args.e c.if-rows-e.false (sym c.natural.ensures ∙ c.in-11.is) c.operand.ensures)

pub returns-in-12 : goal.returns-in-12
returns-in-12 t c =
    one-call _ _ c.expression-in-12.ensures (monadic-marks c.args.rows.now c.args.e c.if-rows-e.false c.requires.given (sym c.natural.ensures ∙ c.in-12.is) c.operand-in-12.ensures)

pub returns-in-13 : goal.returns-in-13
returns-in-13 t c =
    two-calls _ _ _ c.expression-in-13.ensures c.expression-in-13-2.ensures (dyadic-marks c.args.rows.now c.args.e c.if-rows-e.false (sym c.natural.ensures ∙ c.in-13.is) c.operand-in-13.ensures c.operand-in-13-2.ensures)

pub returns-in_default : goal.returns-in_default
returns-in_default t c =
    no_call _ (no-expr-marks c.args.rows.now c.args.e c.if-rows-e.false (λ q. c.in_default.in_default-own.rest.0.0.1 (c.natural.ensures ∙ q)) (λ q. c.in_default.in_default-own.rest.0.1 (c.natural.ensures ∙ q)) (λ q. c.in_default.in_default-own.rest.1 (c.natural.ensures ∙ q)))
