-- `shape_at` meets its contract, by the number of the kind.
use mathlib.Core.Path.{sym, ap, ap₂, ◌∙◌}
use Rattle.run_parents.specs.declared.shape.Shape.TheVariants.{Ending, Single, Link}
use Rattle.run_parents.specs.declared.shape.Mode.TheVariants.{InTurn, Together, ByStep}
use Rattle.run_parents.proofs.Standing.{told, told-past, told-neither, operand-is}
use Rattle.run_parents.proofs.shape.shape_at.Goals as goal

pub returns-then-rows-r : goal.returns-then-rows-r
returns-then-rows-r c = told-past c.args.rows.now c.args.r c.if-rows-r.true

pub returns-in-20 : goal.returns-in-20
returns-in-20 c = told c.args.rows.now c.args.r 20 c.if-rows-r.false (sym c.natural.ensures ∙ c.in-20.is)

pub returns-in-21 : goal.returns-in-21
returns-in-21 c = told c.args.rows.now c.args.r 21 c.if-rows-r.false (sym c.natural.ensures ∙ c.in-21.is)

pub returns-in-22 : goal.returns-in-22
returns-in-22 c = told c.args.rows.now c.args.r 22 c.if-rows-r.false (sym c.natural.ensures ∙ c.in-22.is)

pub returns-in-23 : goal.returns-in-23
returns-in-23 c = told c.args.rows.now c.args.r 23 c.if-rows-r.false (sym c.natural.ensures ∙ c.in-23.is)

pub returns-in-24 : goal.returns-in-24
returns-in-24 c = told c.args.rows.now c.args.r 24 c.if-rows-r.false (sym c.natural.ensures ∙ c.in-24.is)

pub returns-in-30 : goal.returns-in-30
returns-in-30 c = ap (Ending InTurn) (operand-is c.args.rows.now c.args.r 1 c.operand-a.ensures) ∙ told c.args.rows.now c.args.r 30 c.if-rows-r.false (sym c.natural.ensures ∙ c.in-30.is)

pub returns-in-31 : goal.returns-in-31
returns-in-31 c = ap (Ending Together) (operand-is c.args.rows.now c.args.r 1 c.operand-a.ensures) ∙ told c.args.rows.now c.args.r 31 c.if-rows-r.false (sym c.natural.ensures ∙ c.in-31.is)

pub returns-in-32 : goal.returns-in-32
returns-in-32 c = ap (Ending ByStep) (operand-is c.args.rows.now c.args.r 1 c.operand-a.ensures) ∙ told c.args.rows.now c.args.r 32 c.if-rows-r.false (sym c.natural.ensures ∙ c.in-32.is)

pub returns-in-33 : goal.returns-in-33
returns-in-33 c = ap Single (operand-is c.args.rows.now c.args.r 2 c.operand-b.ensures) ∙ told c.args.rows.now c.args.r 33 c.if-rows-r.false (sym c.natural.ensures ∙ c.in-33.is)

pub returns-in-34 : goal.returns-in-34
returns-in-34 c = ap (Ending ByStep) (operand-is c.args.rows.now c.args.r 1 c.operand-a.ensures) ∙ told c.args.rows.now c.args.r 34 c.if-rows-r.false (sym c.natural.ensures ∙ c.in-34.is)

pub returns-in-35 : goal.returns-in-35
returns-in-35 c = ap Single (operand-is c.args.rows.now c.args.r 2 c.operand-b.ensures) ∙ told c.args.rows.now c.args.r 35 c.if-rows-r.false (sym c.natural.ensures ∙ c.in-35.is)

pub returns-in-40 : goal.returns-in-40
returns-in-40 c = ap₂ Link (operand-is c.args.rows.now c.args.r 1 c.operand-a.ensures) (operand-is c.args.rows.now c.args.r 2 c.operand-b.ensures) ∙ told c.args.rows.now c.args.r 40 c.if-rows-r.false (sym c.natural.ensures ∙ c.in-40.is)

pub returns-in-41 : goal.returns-in-41
returns-in-41 c = ap₂ Link (operand-is c.args.rows.now c.args.r 1 c.operand-a.ensures) (operand-is c.args.rows.now c.args.r 2 c.operand-b.ensures) ∙ told c.args.rows.now c.args.r 41 c.if-rows-r.false (sym c.natural.ensures ∙ c.in-41.is)

pub returns-in-42 : goal.returns-in-42
returns-in-42 c = ap₂ Link (operand-is c.args.rows.now c.args.r 1 c.operand-a.ensures) (operand-is c.args.rows.now c.args.r 2 c.operand-b.ensures) ∙ told c.args.rows.now c.args.r 42 c.if-rows-r.false (sym c.natural.ensures ∙ c.in-42.is)

pub returns-in_default : goal.returns-in_default
returns-in_default c =
    let args = c.args in
    let a = args in told-neither a.rows.now a.r c.natural.result c.if-rows-r.false (sym c.natural.ensures) c.in_default.in_default-own.rest.0.0.0.0.0.0.0.0.0.0.0.0.0.1 c.in_default.in_default-own.rest.0.0.0.0.0.0.0.0.0.0.0.0.1 c.in_default.in_default-own.rest.0.0.0.0.0.0.0.0.0.0.0.1 c.in_default.in_default-own.rest.0.0.0.0.0.0.0.0.0.0.1 c.in_default.in_default-own.rest.0.0.0.0.0.0.0.0.0.1 c.in_default.in_default-own.rest.0.0.0.0.0.0.0.0.1 c.in_default.in_default-own.rest.0.0.0.0.0.0.0.1 c.in_default.in_default-own.rest.0.0.0.0.0.0.1 c.in_default.in_default-own.rest.0.0.0.0.0.1 c.in_default.in_default-own.rest.0.0.0.0.1 c.in_default.in_default-own.rest.0.0.0.1 c.in_default.in_default-own.rest.0.0.1 c.in_default.in_default-own.rest.0.1 c.in_default.in_default-own.rest.1
