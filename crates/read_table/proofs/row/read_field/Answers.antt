-- The field is right if the byte that ends it is the one asked for and what stands before it is a number. Assumes nothing.
use mathlib.Core.Path.{sym, ap, ◌∙◌}
use mir.Syntax.{w32}
use mir.Val.{SFits}
use mir.ValLaws.{to_z-of_z}
use borrow.Author.Rules.{rules}
use lib.ListN.{drop}
use Rattle.base_numbers.specs.Reading.{option_of}
use Rattle.read_table.proofs.FieldSteps.{field-unended, field-misread, field-read}
use Rattle.read_table.proofs.row.read_field.Goals as goal

pub returns-in_err-field : goal.returns-in_err-field
returns-in_err-field c =
    let a = c.args in
    c.from_residual.ensures ∙ sym (ap option_of (field-unended (drop a.at a.bytes.now) a.at a.stop c.in_err-field.ensures))

pub returns-in_err-read_number : goal.returns-in_err-read_number
returns-in_err-read_number c =
    let a = c.args in
    let f = c.in_ok-field.ensures in
    let e = rw f.1 at c.in_err-read_number.ensures in
    c.from_residual-in_err-read_number.ensures ∙ sym (ap option_of (field-misread (drop a.at a.bytes.now) a.at a.stop f.0 (sym e)))

pub returns : goal.returns
returns c =
    let a = c.args in
    let f = c.in_ok-field.ensures in
    let e = rw f.1 at c.in_ok-read_number.ensures in
    let fits : SFits w32 c.in_ok-read_number.field-0 = search rules in
    rw (to_z-of_z w32 _ fits, f.2) (sym (ap option_of (field-read (drop a.at a.bytes.now) a.at a.stop f.0 c.in_ok-read_number.field-0 (sym e))))
