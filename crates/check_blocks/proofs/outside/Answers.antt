-- The row noted for the name is its lowest block, or there is none. Assumes nothing.
use Rattle.std.proofs.Common.{arith, ◌<◌, not, sym, ap}
use Rattle.check_blocks.proofs.NamedRows.{name_below, name-from-root}
use Rattle.check_blocks.proofs.LowestBlocks.{no_block, its-block}
use Rattle.check_blocks.proofs.outside.Goals as goal

pub bounds : goal.bounds
bounds c =
    let l = name_below c.args.rows.now c.requires.0.passed c.args.r c.requires.1.0 c.requires.1.1 in
    omega (arith, c.natural_field.ensures)

pub returns-in_default : goal.returns-in_default
returns-in_default c =
    let below : c.natural_field.result < 1024 = let l = name_below c.args.rows.now c.requires.0.passed c.args.r c.requires.1.0 c.requires.1.1 in omega (arith, c.natural_field.ensures) in
    rw (sym c.natural_field.ensures, no_block c.args.rows.now c.args.blocks.now c.requires.0.lowest_noted c.natural_field.result below c.in_default.is)

pub beneath-requires : goal.beneath-requires
beneath-requires c =
    let below : c.natural_field.result < 1024 = let l = name_below c.args.rows.now c.requires.0.passed c.args.r c.requires.1.0 c.requires.1.1 in omega (arith, c.natural_field.ensures) in
    let there = its-block c.args.rows.now c.args.blocks.now c.requires.0.lowest_noted c.natural_field.result below c.in-Some.k c.in-Some.is in
    (c.requires.0.passed, (c.requires.0.numbered, (c.requires.0.sized, (there.1, (name-from-root c.args.rows.now c.args.r c.requires.1.1, c.requires.1.0)))))

pub returns : goal.returns
returns c =
    let below : c.natural_field.result < 1024 = let l = name_below c.args.rows.now c.requires.0.passed c.args.r c.requires.1.0 c.requires.1.1 in omega (arith, c.natural_field.ensures) in
    let there = its-block c.args.rows.now c.args.blocks.now c.requires.0.lowest_noted c.natural_field.result below c.in-Some.k c.in-Some.is in
    rw (sym c.natural_field.ensures, there.0) (ap not c.beneath.ensures)
