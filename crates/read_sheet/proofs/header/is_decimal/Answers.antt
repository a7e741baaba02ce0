-- The loop keeps which digits are compared. Assumes nothing.
use mathlib.Core.Path.{sym}
use native.Mathlib.Omega.{arith}
use Rattle.read_sheet.proofs.DecimalSteps.{nothing-compared, too_few, digit-equal, digit-differs, not-one, by-first-digit}
use Rattle.read_sheet.proofs.header.is_decimal.Goals as goal

pub loop-rest-init : goal.loop-rest-init
loop-rest-init c = nothing-compared c.args.field.now c.args.n

pub returns-then-at-eq0 : goal.returns-then-at-eq0
returns-then-at-eq0 c =
    sym (too_few c.args.field.now c.args.n c.loop-rest.at c.loop-rest.rest c.loop-rest.invariant c.if-at-eq0.true)

pub bounds-field-at : goal.bounds-field-at
bounds-field-at c = omega (arith, c.loop-rest.invariant.within, c.if-at-eq0.false)

pub returns-then-field-at : goal.returns-then-field-at
returns-then-field-at c =
    sym
    (digit-differs c.args.field.now c.args.n c.loop-rest.at c.loop-rest.rest c.loop-rest.invariant (omega (arith, c.if-at-eq0.false))
    c.loop-rest-test.true
    c.if-field-at.true)

pub loop-rest-preserved : goal.loop-rest-preserved
loop-rest-preserved c =
    digit-equal c.args.field.now c.args.n c.loop-rest.at c.loop-rest.rest c.loop-rest.invariant (omega (arith, c.if-at-eq0.false))
    c.loop-rest-test.true
    c.if-field-at.false

pub returns-then-at-ne1 : goal.returns-then-at-ne1
returns-then-at-ne1 c =
    sym (not-one c.args.field.now c.args.n c.loop-rest.at c.loop-rest.rest c.loop-rest.invariant c.loop-rest-test.false c.if-at-ne1.true)

pub bounds-field-0 : goal.bounds-field-0
bounds-field-0 c = omega (arith, c.loop-rest.invariant.within, c.if-at-ne1.false)

pub returns : goal.returns
returns c =
    by-first-digit c.args.field.now c.args.n c.loop-rest.at c.loop-rest.rest c.loop-rest.invariant c.loop-rest-test.false c.if-at-ne1.false
