-- The row noted for the name of a block is the lowest. Assumes nothing.
use Rattle.std.proofs.Common.{arith, ◌<◌, sym}
use Rattle.check_blocks.proofs.NamedRows.{block-below}
use Rattle.check_blocks.proofs.LowestBlocks.{no_block, its-block}
use Rattle.check_blocks.proofs.is_second.Goals as goal

pub bounds : goal.bounds
bounds c =
    let l = block-below c.args.rows.now c.requires.0 c.args.r c.requires.1.1.0 c.requires.1.1.1 in
    omega (arith, c.natural_field.ensures)

pub returns-in_default : goal.returns-in_default
returns-in_default c =
    let below : c.natural_field.result < 1024 = let l = block-below c.args.rows.now c.requires.0 c.args.r c.requires.1.1.0 c.requires.1.1.1 in omega (arith, c.natural_field.ensures) in
    rw (sym c.natural_field.ensures, no_block c.args.rows.now c.args.blocks.now c.requires.1.0 c.natural_field.result below c.in_default.is)

pub returns : goal.returns
returns c =
    let below : c.natural_field.result < 1024 = let l = block-below c.args.rows.now c.requires.0 c.args.r c.requires.1.1.0 c.requires.1.1.1 in omega (arith, c.natural_field.ensures) in
    let there = its-block c.args.rows.now c.args.blocks.now c.requires.1.0 c.natural_field.result below c.in-Some.k c.in-Some.is in
    rw (sym c.natural_field.ensures, there.0)
