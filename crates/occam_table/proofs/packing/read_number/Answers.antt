-- By what reading comes to. Assumes nothing.
use mathlib.Core.Path.{ap, sym, subst}
use native.Mathlib.Omega.{arith}
use Rattle.occam_table.specs.Packing.{read_number}
use Rattle.occam_table.specs.PackingClaims.{PossibleRead}
use borrow.Author.Rules.{rules}
use Rattle.occam_table.proofs.packing.read_number.Goals as goal

pub overflow_mul-result : goal.overflow_mul-result
overflow_mul-result c = let p = subst PossibleRead c.in-Ok.is c.requires in record { fits = omega (arith, p) }

pub returns-in-Ok : goal.returns-in-Ok
returns-in-Ok c = ap read_number (sym c.in-Ok.is)

pub returns-in-Err : goal.returns-in-Err
returns-in-Err c = ap read_number (sym c.in-Err.is)
