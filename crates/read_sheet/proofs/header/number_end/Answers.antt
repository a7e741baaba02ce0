-- The number is there if it is the field. Assumes nothing.
use mathlib.Core.Path.{sym, ◌∙◌}
use Rattle.read_sheet.proofs.HeaderSteps.{number-unended, number-differs, number-ended}
use Rattle.read_sheet.proofs.header.number_end.Goals as goal
use Rattle.read_sheet.proofs.header.number_end.Goals.{then-sheet-end-via-then-sheet-end, then-sheet-end-via-else-sheet-end+then-not-is_decimal}

pub returns-then-sheet-end : goal.returns-then-sheet-end
returns-then-sheet-end c =
    let a = c.args in
    let end = c.field_end-end in
    elim c.then-sheet-end.branch [
      | then-sheet-end-via-then-sheet-end w ↦ number-unended a.sheet.now a.from a.r end.result end.ensures w.if-sheet-end.true
      | then-sheet-end-via-else-sheet-end+then-not-is_decimal w ↦ number-differs a.sheet.now a.from a.r end.result end.ensures (sym w.is_decimal.ensures ∙ w.if-not-is_decimal.true)
    ]

pub returns : goal.returns
returns c =
    let a = c.args in
    let end = c.field_end-end in
    number-ended a.sheet.now a.from a.r end.result end.ensures c.if-sheet-end.false (sym c.is_decimal.ensures ∙ c.if-not-is_decimal.false)
