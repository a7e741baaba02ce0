-- The verdict's number stands below bit 32. Assumes nothing.
use native.Mathlib.Omega.{arith}
use borrow.Author.Rules.{rules}
use Rattle.occam_table.proofs.Told.{checked-small}
use Rattle.occam_table.proofs.packing.checked_number.Goals as goal

pub overflow_add-result : goal.overflow_add-result
overflow_add-result c = let small = checked-small c.args.c c.requires in record { fits = omega (arith, c.verdict_number.ensures, small) }
