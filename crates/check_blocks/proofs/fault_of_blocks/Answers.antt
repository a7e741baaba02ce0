-- The lists are filled in turn. Assumes nothing.
use Rattle.check_blocks.proofs.LowestBlocks.{none-noted}
use Rattle.check_blocks.proofs.fault_of_blocks.Goals as goal

pub note_blocks-requires : goal.note_blocks-requires
note_blocks-requires c =
    (c.requires, none-noted c.args.rows.now)
