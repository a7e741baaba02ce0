-- The value that the operator gives is put. Assumes nothing.
use mir.Syntax.{w32}
use mir.ValLaws.{to_z-of_z}
use Rattle.test_leaves.proofs.leaf_monadic.Goals as goal

pub returns : goal.returns
returns c =
    let v = rw (to_z-of_z w32 c.args.x c.ranges.x) at c.monadic.ensures in
    rw v at c.put_value.ensures
