-- The verdict as a number. Assumes nothing.
use mathlib.Core.Path.{ap, ◌∙◌}
use borrow.Author.Rules.{rules}
use Rattle.occam_table.specs.Packing.{verdict_number}
use Rattle.occam_table.proofs.occam_check_table.Goals as goal

pub returns : goal.returns
returns c = c.verdict_number.ensures ∙ ap verdict_number c.check_table.ensures
