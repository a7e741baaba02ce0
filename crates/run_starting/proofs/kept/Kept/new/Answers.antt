-- `new` meets its contract: no row is listed.
use Rattle.run_starting.proofs.Counting.{none-listed}
use Rattle.run_starting.proofs.kept.Kept.new.Goals as goal

pub returns : goal.returns
returns c = none-listed c.new-came.ensures.count c.new-came.ensures.rows c.new-blocks.ensures.count c.new-blocks.ensures.rows
