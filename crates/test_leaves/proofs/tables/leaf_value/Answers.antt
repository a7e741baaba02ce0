-- The value of the row is put. Assumes nothing.
use Rattle.test_leaves.proofs.tables.leaf_value.Goals as goal

pub returns : goal.returns
returns c = cc
