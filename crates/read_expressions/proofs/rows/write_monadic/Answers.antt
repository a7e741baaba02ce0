-- One row. Assumes nothing.
use mathlib.Core.Path.{refl}
use native.Mathlib.Omega.{arith}
use native.Mathlib.Numerals.{add-one}
use mir.Syntax.{w32}
use mir.ValLaws.{to_z-of_z, to_z_pos}
use Prim.Native.Nat.{◌+◌}
use Rattle.read_expressions.proofs.rows.write_monadic.Goals as goal

pub returns : goal.returns
returns c =
    (refl, rw (to_z-of_z w32 c.args.k c.ranges.k, to_z_pos w32 (c.args.n + 1) (omega (arith, c.requires.0)), add-one c.args.n) at c.write_row.ensures)
