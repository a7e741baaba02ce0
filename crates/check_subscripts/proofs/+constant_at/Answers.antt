-- `constant_at`, which calls itself on operands, meets its contract: by what the row is. The measure is the rows left to the table's end.
use mathlib.Core.Path.{sym, ◌∙◌}
use native.Mathlib.Omega.{arith}
use mir.Syntax.{w32}
use mir.ValLaws.{to_z-of_z}
use Rattle.base_layout.proofs.Parts.{operand-higher}
use Rattle.check_subscripts.proofs.ConstantLaws.{past-varies, literal-constant, monadic-constant, dyadic-constant, other-varies}
use Rattle.check_subscripts.proofs.+constant_at.Goals as goal

pub returns-then-rows-e : goal.returns-then-rows-e
returns-then-rows-e t c =
    past-varies c.args.rows.now c.args.e c.if-rows-e.true

pub constant_at-c-requires : goal.constant_at-c-requires
constant_at-c-requires t c =
    (omega (arith, c.decreases, c.operand.ensures, operand-higher c.args.rows.now c.args.e 2 c.if-rows-e.false), c.requires)

pub constant_at-c-requires-in-13 : goal.constant_at-c-requires-in-13
constant_at-c-requires-in-13 t c =
    (omega (arith, c.decreases, c.operand-in-13.ensures, operand-higher c.args.rows.now c.args.e 2 c.if-rows-e.false), c.requires)

pub constant_at-d-requires : goal.constant_at-d-requires
constant_at-d-requires t c =
    (omega (arith, c.decreases, c.operand-in-13-2.ensures, operand-higher c.args.rows.now c.args.e 3 c.if-rows-e.false), c.requires)

pub returns-in-10 : goal.returns-in-10
returns-in-10 t c =
    literal-constant c.args.rows.now c.args.e c.if-rows-e.false (sym c.natural.ensures ∙ c.in-10.is) (to_z-of_z w32 c.field.result (record { sfits = c.field.type_inv }) ∙ c.field.ensures)

pub returns-in-12 : goal.returns-in-12
returns-in-12 t c =
    monadic-constant c.args.rows.now c.args.e c.if-rows-e.false (sym c.natural.ensures ∙ c.in-12.is) c.operand.ensures c.constant_at-c.ensures c.natural-in-12.ensures c.monadic.ensures

pub returns-in-13 : goal.returns-in-13
returns-in-13 t c =
    dyadic-constant c.args.rows.now c.args.e c.if-rows-e.false (sym c.natural.ensures ∙ c.in-13.is) c.operand-in-13.ensures c.constant_at-c-in-13.ensures c.operand-in-13-2.ensures c.constant_at-d.ensures c.natural-in-13.ensures c.dyadic.ensures

pub returns-in_default : goal.returns-in_default
returns-in_default t c =
    other-varies c.args.rows.now c.args.e c.if-rows-e.false (λ q. c.in_default.in_default-own.rest.0.0.1 (c.natural.ensures ∙ q)) (λ q. c.in_default.in_default-own.rest.0.1 (c.natural.ensures ∙ q)) (λ q. c.in_default.in_default-own.rest.1 (c.natural.ensures ∙ q))
