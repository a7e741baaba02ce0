-- The loop keeps how far the line is read. Assumes nothing.
use mathlib.Core.Path.{ap, ◌∙◌}
use Prim.Native.Nat.{ℕ}
use lib.ListN.{drop}
use mir.Syntax.{w32}
use mir.Val.{SFits}
use mir.ValLaws.{to_z-of_z}
use borrow.Author.Rules.{rules}
use Rattle.std.specs.Prelude.{Option}
use Rattle.std.specs.Int.{from_bool}
use Rattle.read_sheet.proofs.FieldSteps.{told-none, told-some}
use Rattle.read_sheet.proofs.LineSteps.{none-put, line-begun, stopped, passed, line-right}
use Rattle.read_sheet.proofs.lines.read_line.Goals as goal

pub returns-then-count-eq0 : goal.returns-then-count-eq0
returns-then-count-eq0 c = let a = c.args in none-put a.count a.line a.from (drop a.from a.sheet.now) a.values.now a.marks.now c.if-count-eq0.true

pub loop-j-init : goal.loop-j-init
loop-j-init c = let a = c.args in line-begun a.sheet.now a.from a.count a.line a.values.now a.marks.now c.if-count-eq0.false

pub returns-in_err-reading : goal.returns-in_err-reading
returns-in_err-reading c =
    let a = c.args in
    let w = c.loop-j in
    ap (λ (r : Option ℕ). (r, w.values, w.marks)) c.from_residual.ensures
    ∙ stopped a.sheet.now a.from a.count a.line a.values.now a.marks.now w.values w.marks w.at w.j w.invariant c.loop-j-test.true
    c.stop_of.result c.stop_of.ensures (told-none _ c.in_err-reading.ensures)

pub loop-j-preserved : goal.loop-j-preserved
loop-j-preserved c =
    let a = c.args in
    let w = c.loop-j in
    let t = told-some _ _ _ c.in_ok-reading.ensures in
    let fits : SFits w32 c.unwrap_or.result = search rules in
    passed a.sheet.now a.from a.count a.line a.values.now a.marks.now w.values w.marks w.at w.j w.invariant c.loop-j-test.true
    c.stop_of.result c.stop_of.ensures t.it c.in_ok-reading.next t.field-is
    _ (to_z-of_z w32 _ fits ∙ c.unwrap_or.ensures ∙ t.value-is)
    _ (c.from.ensures ∙ ap from_bool c.is_some.ensures ∙ t.mark-is)

pub returns : goal.returns
returns c =
    let a = c.args in
    let w = c.loop-j in
    line-right a.sheet.now a.from a.count a.line a.values.now a.marks.now w.values w.marks w.at w.j w.invariant c.loop-j-test.false
