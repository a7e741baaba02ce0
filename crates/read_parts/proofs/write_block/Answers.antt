-- By the first name on the line. Assumes nothing.
use native.Mathlib.Omega.{arith}
use native.Mathlib.Numerals.{add-one}
use Prim.Native.Nat.{◌+◌}
use lib.IntN.{pos}
use lib.ListN.{get_or}
use mir.Syntax.{w32}
use mir.Val.{SFits}
use mir.ValLaws.{to_z_pos, to_z-of_z}
use Rattle.read_parts.proofs.BlockSteps.{block-name, block-laid}
use borrow.Author.Rules.{rules}
use Rattle.read_parts.proofs.write_block.Goals as goal

pub offset_bounds-values-name : goal.offset_bounds-values-name
offset_bounds-values-name c =
    let f = c.first_of-name in
    let t = block-name c.args.sorts.now c.args.values.now f.result c.requires.0 c.requires.1.0 f.ensures in
    record { fits = omega (arith, t.inside) }

pub bounds-values-name : goal.bounds-values-name
bounds-values-name c =
    let f = c.first_of-name in
    let t = block-name c.args.sorts.now c.args.values.now f.result c.requires.0 c.requires.1.0 f.ensures in
    omega (arith, t.inside, c.requires.0)

pub returns : goal.returns
returns c =
    let n = c.args.n in
    let f = c.first_of-name in
    let fits : SFits w32 (get_or c.args.values.now f.result (pos 0)) = search rules in
    block-laid (block-name c.args.sorts.now c.args.values.now f.result c.requires.0 c.requires.1.0 f.ensures) n c.args.rows.now _ (rw (to_z_pos w32 (n + 1) (omega (arith, c.requires.1.1)), add-one n, to_z-of_z w32 (get_or c.args.values.now f.result (pos 0)) fits) at c.write_row.ensures)
