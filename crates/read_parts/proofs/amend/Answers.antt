-- Two numbers one by one. Assumes nothing.
use mathlib.Core.Path.{refl}
use native.Mathlib.Omega.{arith}
use mir.Syntax.{w32}
use mir.ValLaws.{to_z_pos}
use lib.ListN.{length-set}
use Rattle.read_parts.proofs.amend.Goals as goal

pub bounds-rows-start-2 : goal.bounds-rows-start-2
bounds-rows-start-2 c = rw length-set (omega (arith, c.requires.1))

pub returns : goal.returns
returns c = rw (to_z_pos w32 c.args.kind (omega (arith, c.ranges.kind)), to_z_pos w32 c.args.c (omega (arith, c.requires.0))) refl
