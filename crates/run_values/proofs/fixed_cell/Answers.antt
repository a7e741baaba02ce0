-- `fixed_cell` meets its contract, by what the row is.
use mathlib.Core.Path.{sym, ap, ◌∙◌}
use borrow.Author.Tests.{ne_eqb}
use Rattle.meaning.specs.declared.Index.TheVariants.{At}
use Rattle.run_values.specs.Targets.{fixed_cell}
use Rattle.run_values.proofs.fixed_cell.Goals as goal

pub returns-in-2 : goal.returns-in-2
unfolding fixed_cell
returns-in-2 c = rw (sym c.place.ensures ∙ c.in-2.is) (ap At c.place-in-2.ensures)

pub returns-in-3 : goal.returns-in-3
unfolding fixed_cell
returns-in-3 c = rw (sym c.place.ensures ∙ c.in-3.is)

pub returns-in_default : goal.returns-in_default
unfolding fixed_cell
returns-in_default c = rw (← c.place.ensures, ne_eqb _ 2 c.in_default.in_default-own.rest.0.1, ne_eqb _ 3 c.in_default.in_default-own.rest.1)
