-- The verdict by the stages 2 to 6 is told. Assumes nothing.
use Rattle.test_leaves.proofs.tables.leaf_check.Goals as goal

pub returns : goal.returns
returns c = cc
