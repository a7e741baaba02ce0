-- The mask's kinds are those of processes. Assumes nothing.
use Rattle.meaning.specs.Basics.{all_below}
use Rattle.base_kinds.specs.Table.{numbers_in}
use Rattle.base_kinds.proofs.is_process.Goals as goal

pub returns : goal.returns
unfolding numbers_in all_below
returns c = c.in_mask.ensures
