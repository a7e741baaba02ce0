-- Four numbers copied. Assumes nothing.
use mathlib.Core.Path.{refl}
use mir.Syntax.{w32}
use mir.ValLaws.{to_z-of_z}
use Prim.Native.Nat.{◌*◌}
use Rattle.read_expressions.proofs.RowSteps.{row-copied}
use Rattle.read_expressions.proofs.rows.write_row.Goals as goal

pub returns : goal.returns
returns c =
    rw (to_z-of_z w32 c.args.kind c.ranges.kind, to_z-of_z w32 c.args.a c.ranges.a, to_z-of_z w32 c.args.b c.ranges.b, to_z-of_z w32 c.args.c c.ranges.c) at
    (row-copied c.args.rows.now (4 * c.args.r) _ _ c.copy_from_slice.ensures.after refl)
