-- An absence has no text. Assumes nothing.
use mathlib.Core.Path.{ap, sym, ◌∙◌}
use mathlib.Core.Option.{Option}
use lib.IntN.{ℤ}
use mir.Syntax.{w32}
use mir.ValLaws.{to_z-of_z}
use Rattle.meaning.specs.Numerals.{printed}
use Rattle.meaning.specs.Printing.{value_bytes}
use Rattle.base_numbers.specs.Printing.{text_of}
use Rattle.write_lines.proofs.LineSteps.{cell-unset, cell_set}
use Rattle.write_lines.proofs.lines.message_text.Goals as goal

pub returns-then-mark-eq0 : goal.returns-then-mark-eq0
returns-then-mark-eq0 c = ap (λ (v : Option ℤ). text_of (value_bytes v)) (sym (cell-unset c.args.mark c.args.number c.if-mark-eq0.true))

pub returns : goal.returns
returns c = c.printed.ensures ∙ ap (λ (z : ℤ). text_of (printed z)) (to_z-of_z w32 c.args.number c.ranges.number) ∙ ap (λ (v : Option ℤ). text_of (value_bytes v)) (sym (cell_set c.args.mark c.args.number c.if-mark-eq0.false))
