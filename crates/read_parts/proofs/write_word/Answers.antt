-- Its row. Assumes nothing.
use mathlib.Core.Path.{refl}
use mir.Syntax.{w32}
use mir.ValLaws.{to_z-of_z}
use Rattle.read_parts.proofs.write_word.Goals as goal

pub returns : goal.returns
returns c = (refl, rw (to_z-of_z w32 c.args.kind c.ranges.kind, to_z-of_z w32 c.args.a c.ranges.a) at c.write_row.ensures)
