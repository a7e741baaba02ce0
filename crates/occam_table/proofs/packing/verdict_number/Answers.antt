-- By the verdict. Assumes nothing.
use mathlib.Core.Path.{ap, sym}
use borrow.Author.Rules.{rules}
use Rattle.occam_table.specs.Packing.{verdict_number}
use Rattle.occam_table.proofs.packing.verdict_number.Goals as goal

pub returns-in-Rejected : goal.returns-in-Rejected
returns-in-Rejected c = ap verdict_number (sym c.in-Rejected.is)
