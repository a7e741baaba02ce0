-- The verdict and the count as a number. Assumes nothing.
use mathlib.Core.Path.{ap, sym, subst, ◌∙◌}
use borrow.Author.Rules.{rules}
use Rattle.occam_table.specs.Packing.{checked_number}
use Rattle.occam_table.specs.PackingClaims.{PossibleChecked}
use Rattle.occam_table.proofs.Told.{counted-possible}
use Rattle.occam_table.proofs.occam_check_rows_counted.Goals as goal

pub checked_number-requires : goal.checked_number-requires
checked_number-requires c = subst PossibleChecked (sym c.check_rows_counted.ensures) (counted-possible.0 _)

pub returns : goal.returns
returns c = c.checked_number.ensures ∙ ap checked_number c.check_rows_counted.ensures
