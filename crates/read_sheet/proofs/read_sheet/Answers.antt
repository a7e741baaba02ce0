-- The loop keeps which lines are read. Assumes nothing.
use mathlib.Core.Path.{◌≡◌, sym, ap, ◌∙◌}
use Prim.Native.Nat.{ℕ, ◌+◌}
use native.Mathlib.Omega.{arith}
use Rattle.std.specs.Prelude.{Result, Err}
use Rattle.std.proofs.lemmas.Result.{err_from_is_err_and}
use Rattle.base_numbers.proofs.Options.{none-is, some-is}
use Rattle.read_sheet.specs.declared.SheetError.{SheetError}
use Rattle.read_sheet.specs.declared.SheetError.TheVariants.{Refused}
use Rattle.read_sheet.proofs.SheetSteps.{too_long, header-at-fault, values-full, marks-full, nothing-passed, one-line-too-many, line-at-fault, goes-forward, line-passed, all-passed}
use Rattle.read_sheet.proofs.read_sheet.Goals as goal
use Rattle.read_sheet.proofs.read_sheet.Goals.{then-values-count-via-then-values-count, then-values-count-via-else-values-count+then-marks-count}

pub returns-then-sheet-gt16384 : goal.returns-then-sheet-gt16384
returns-then-sheet-gt16384 c =
    let a = c.args in
    too_long a.rows.now a.sheet.now a.values.now a.marks.now c.if-sheet-gt16384.true

pub returns-in_err-count : goal.returns-in_err-count
returns-in_err-count c =
    let a = c.args in
    let e = c.in_err-count.ensures in
    let told = rw e.ok_part at e.value in
    let why : c.in_err-count.field-0.0 ≡ Refused 1 = cc in
    let p = err_from_is_err_and c.from_residual.result c.from_residual.ensures.1 in
    ap (λ (r : Result ℕ SheetError). (r, a.values.now, a.marks.now)) (p.1 ∙ ap Err (p.2 ∙ why))
    ∙ header-at-fault a.rows.now a.sheet.now a.values.now a.marks.now c.if-sheet-gt16384.false (none-is _ (sym e.ok_part ∙ c.read_header.ensures))

pub returns-then-values-count : goal.returns-then-values-count
returns-then-values-count c =
    let a = c.args in
    let h = c.in_ok-count in
    let header = some-is _ (h.count, h.first) (sym h.ensures.ok_part ∙ c.read_header.ensures) in
    elim c.then-values-count.branch [
      | then-values-count-via-then-values-count w ↦ values-full a.rows.now a.sheet.now a.values.now a.marks.now c.if-sheet-gt16384.false h.count h.first header w.if-values-count.true
      | then-values-count-via-else-values-count+then-marks-count w ↦ marks-full a.rows.now a.sheet.now a.values.now a.marks.now c.if-sheet-gt16384.false h.count h.first header w.if-values-count.false w.if-marks-count.true
    ]

pub loop-at-init : goal.loop-at-init
loop-at-init c =
    let a = c.args in
    let h = c.in_ok-count in
    let header = some-is _ (h.count, h.first) (sym h.ensures.ok_part ∙ c.read_header.ensures) in
    nothing-passed a.rows.now a.sheet.now a.values.now a.marks.now h.count h.first c.if-sheet-gt16384.false header c.if-values-count.false c.if-marks-count.false

pub returns-then-line-eq128 : goal.returns-then-line-eq128
returns-then-line-eq128 c =
    let a = c.args in
    let l = c.loop-at in
    one-line-too-many a.rows.now a.sheet.now a.values.now a.marks.now c.in_ok-count.count c.in_ok-count.first l.values l.marks l.line l.at l.invariant c.loop-at-test.true c.if-line-eq128.true

pub returns-in_err-at : goal.returns-in_err-at
returns-in_err-at c =
    let a = c.args in
    let l = c.loop-at in
    let e = c.in_err-at.ensures in
    let told = rw e.ok_part at e.value in
    let why : c.in_err-at.field-0.0 ≡ Refused (l.line + 2) = cc in
    let read = c.read_line-next in
    let p = err_from_is_err_and c.from_residual-in_err-at.result c.from_residual-in_err-at.ensures.1 in
    ap (λ (r : Result ℕ SheetError). (r, read.new.values, read.new.marks)) (p.1 ∙ ap Err (p.2 ∙ why))
    ∙ line-at-fault a.rows.now a.sheet.now a.values.now a.marks.now c.in_ok-count.count c.in_ok-count.first l.values l.marks l.line l.at l.invariant c.loop-at-test.true read.result _ _ read.ensures c.if-line-eq128.false e.ok_part

pub loop-at-smaller : goal.loop-at-smaller
loop-at-smaller c =
    let a = c.args in
    let l = c.loop-at in
    let read = c.read_line-next in
    let f = goes-forward a.rows.now a.sheet.now a.values.now a.marks.now c.in_ok-count.count c.in_ok-count.first l.values l.marks l.line l.at l.invariant c.loop-at-test.true read.result _ _ read.ensures c.if-line-eq128.false _ c.in_ok-at.ensures.ok_part in
    omega (arith, c.loop-at-test.true)

pub loop-at-preserved : goal.loop-at-preserved
loop-at-preserved c =
    let a = c.args in
    let l = c.loop-at in
    let read = c.read_line-next in
    line-passed a.rows.now a.sheet.now a.values.now a.marks.now c.in_ok-count.count c.in_ok-count.first l.values l.marks l.line l.at l.invariant c.loop-at-test.true read.result _ _ read.ensures c.if-line-eq128.false _ c.in_ok-at.ensures.ok_part

pub returns : goal.returns
returns c =
    let a = c.args in
    let l = c.loop-at in
    all-passed a.rows.now a.sheet.now a.values.now a.marks.now c.in_ok-count.count c.in_ok-count.first l.values l.marks l.line l.at l.invariant c.loop-at-test.false
