-- A place is put where there is room. Assumes nothing.
use Rattle.test_leaves.proofs.Copies.{set-nothing}
use Rattle.test_leaves.proofs.lending.put_place.Goals as goal

pub returns-else-out-gt0 : goal.returns-else-out-gt0
returns-else-out-gt0 c = set-nothing c.args.out.now c.args.place c.if-out-gt0.false
