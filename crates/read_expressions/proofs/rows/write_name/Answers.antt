-- By whether a subscript follows. Assumes nothing.
use mathlib.Core.Path.{◌≡◌, refl, ap, ◌∙◌}
use native.Mathlib.Omega.{arith}
use native.Mathlib.Numerals.{add-one}
use mir.Syntax.{w32}
use mir.ValLaws.{to_z-of_z, to_z_pos}
use Prim.Native.Nat.{◌+◌, ◌*◌}
use lib.ListN.{length}
use Rattle.read_expressions.specs.TokenRows.{name_size}
use Rattle.read_expressions.proofs.OverlayLaws.{overlay-length}
use Rattle.read_expressions.proofs.RowSteps.{name-size, named-alone}
use Rattle.read_expressions.proofs.rows.write_name.Goals as goal

pub write_row-requires : goal.write_row-requires
write_row-requires c =
    let s = name-size c.args.subscripted in
    (omega (arith, c.requires.0, s), omega (arith, c.requires.1, s))

pub returns-then-subscripted : goal.returns-then-subscripted
returns-then-subscripted c =
    rw c.if-subscripted.true (refl, rw (to_z-of_z w32 c.args.found c.ranges.found, to_z_pos w32 (c.args.n + 1) (omega (arith, c.requires.0)), add-one c.args.n) at c.write_row.ensures)

pub write_row-requires-2 : goal.write_row-requires-2
write_row-requires-2 c =
    let e : name_size c.args.subscripted ≡ 2 = ap name_size c.if-subscripted.false in
    let l = ap length c.write_row.ensures ∙ overlay-length c.args.rows.now (4 * c.args.n) _ (omega (arith, c.requires.1, e)) in
    (omega (arith, c.requires.0, e), omega (arith, c.requires.1, e, l))

pub returns : goal.returns
returns c =
    let n = c.args.n in
    let e : name_size c.args.subscripted ≡ 2 = ap name_size c.if-subscripted.false in
    let first = rw (to_z-of_z w32 c.args.found c.ranges.found, to_z_pos w32 (n + 1) (omega (arith, c.requires.0, e)), add-one n) at c.write_row.ensures in
    rw c.if-subscripted.false (refl, named-alone c.args.rows.now _ _ n _ (omega (arith, c.requires.1, e)) first c.write_row-2.ensures)
