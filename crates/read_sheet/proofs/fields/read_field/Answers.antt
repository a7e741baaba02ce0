-- The field is right if the byte that ends it is the one asked for and what stands before it is nothing or a number. Assumes nothing.
use mathlib.Core.Path.{sym, ap, ◌∙◌}
use native.Mathlib.Omega.{arith}
use mir.Syntax.{w32}
use mir.Val.{SFits}
use mir.ValLaws.{to_z-of_z}
use borrow.Author.Rules.{rules}
use borrow.Author.Tests.{true-eqb, false-eqb}
use Prim.Native.Nat.{◌<◌}
use mathlib.Core.Path.{◌≡◌}
use lib.ListN.{length, drop}
use Rattle.base_numbers.proofs.Options.{none-is, some-is}
use Rattle.read_sheet.specs.Fields.{reading_told}
use Rattle.read_sheet.proofs.FieldSteps.{field-unended, field-empty, field-misread, field-read}
use Rattle.read_sheet.proofs.fields.read_field.Goals as goal

pub returns-in_err-field : goal.returns-in_err-field
returns-in_err-field c =
    let a = c.args in
    c.from_residual.ensures ∙ sym (ap reading_told (field-unended (drop a.at a.sheet.now) a.at a.stop c.in_err-field.ensures))

pub returns-then-is_empty : goal.returns-then-is_empty
returns-then-is_empty c =
    let a = c.args in
    let f = c.in_ok-field.ensures in
    let none_left : length c.in_ok-field.field.now ≡ 0 = omega (arith, true-eqb, c.if-is_empty.ensures) in
    rw f.2 (sym (ap reading_told (field-empty (drop a.at a.sheet.now) a.at a.stop f.0 (rw f.1 at none_left))))

pub returns-in_err-read_number : goal.returns-in_err-read_number
returns-in_err-read_number c =
    let a = c.args in
    let f = c.in_ok-field.ensures in
    let some_left : 0 < length c.in_ok-field.field.now = omega (arith, false-eqb, c.if-is_empty.ensures) in
    let e = rw f.1 at c.in_err-read_number.ensures in
    c.from_residual-in_err-read_number.ensures
    ∙ sym (ap reading_told (field-misread (drop a.at a.sheet.now) a.at a.stop f.0 (rw f.1 at some_left) (none-is _ e)))

pub returns : goal.returns
returns c =
    let a = c.args in
    let f = c.in_ok-field.ensures in
    let some_left : 0 < length c.in_ok-field.field.now = omega (arith, false-eqb, c.if-is_empty.ensures) in
    let e = rw f.1 at c.in_ok-read_number.ensures in
    let fits : SFits w32 c.in_ok-read_number.field-0 = search rules in
    rw (to_z-of_z w32 _ fits, f.2)
    (sym (ap reading_told (field-read (drop a.at a.sheet.now) a.at a.stop f.0 (rw f.1 at some_left) c.in_ok-read_number.field-0 (some-is _ _ e))))
