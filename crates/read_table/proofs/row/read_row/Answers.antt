-- A line is right if each of its fields is, in turn. Assumes nothing.
use mathlib.Core.Path.{sym, ap, ◌∙◌}
use mir.Syntax.{w32}
use mir.Val.{SFits}
use mir.ValLaws.{to_z-of_z}
use borrow.Author.Rules.{rules}
use Rattle.base_numbers.specs.Reading.{option_of}
use Rattle.base_numbers.proofs.Options.{none-is, some-is}
use Rattle.read_table.proofs.RowSteps.{first-wrong, second-wrong, third-wrong, fourth-wrong, four-numbers}
use Rattle.read_table.proofs.row.read_row.Goals as goal

pub returns-in_err-kind : goal.returns-in_err-kind
returns-in_err-kind c =
    let s = c.args in
    c.from_residual.ensures ∙ sym (ap option_of (first-wrong s.bytes.now s.at (none-is _ c.in_err-kind.ensures)))

pub returns-in_err-a : goal.returns-in_err-a
returns-in_err-a c =
    let s = c.args in
    c.from_residual-in_err-a.ensures
    ∙ sym
    (ap option_of
    (second-wrong s.bytes.now s.at
    c.in_ok-kind.kind c.in_ok-kind.second (some-is _ _ c.in_ok-kind.ensures)
    (none-is _ c.in_err-a.ensures)))

pub returns-in_err-b : goal.returns-in_err-b
returns-in_err-b c =
    let s = c.args in
    c.from_residual-in_err-b.ensures
    ∙ sym
    (ap option_of
    (third-wrong s.bytes.now s.at
    c.in_ok-kind.kind c.in_ok-kind.second (some-is _ _ c.in_ok-kind.ensures)
    c.in_ok-a.a c.in_ok-a.third (some-is _ _ c.in_ok-a.ensures)
    (none-is _ c.in_err-b.ensures)))

pub returns-in_err-c : goal.returns-in_err-c
returns-in_err-c c =
    let s = c.args in
    c.from_residual-in_err-c.ensures
    ∙ sym
    (ap option_of
    (fourth-wrong s.bytes.now s.at
    c.in_ok-kind.kind c.in_ok-kind.second (some-is _ _ c.in_ok-kind.ensures)
    c.in_ok-a.a c.in_ok-a.third (some-is _ _ c.in_ok-a.ensures)
    c.in_ok-b.b c.in_ok-b.fourth (some-is _ _ c.in_ok-b.ensures)
    (none-is _ c.in_err-c.ensures)))

pub returns : goal.returns
returns c =
    let s = c.args in
    let f1 : SFits w32 c.in_ok-kind.kind = search rules in
    let f2 : SFits w32 c.in_ok-a.a = search rules in
    let f3 : SFits w32 c.in_ok-b.b = search rules in
    let f4 : SFits w32 c.in_ok-c.c = search rules in
    rw (to_z-of_z w32 _ f1, to_z-of_z w32 _ f2, to_z-of_z w32 _ f3, to_z-of_z w32 _ f4)
    (sym
    (ap option_of
    (four-numbers s.bytes.now s.at
    c.in_ok-kind.kind c.in_ok-kind.second (some-is _ _ c.in_ok-kind.ensures)
    c.in_ok-a.a c.in_ok-a.third (some-is _ _ c.in_ok-a.ensures)
    c.in_ok-b.b c.in_ok-b.fourth (some-is _ _ c.in_ok-b.ensures)
    c.in_ok-c.c c.in_ok-c.next (some-is _ _ c.in_ok-c.ensures))))
