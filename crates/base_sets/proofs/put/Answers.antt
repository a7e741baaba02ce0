-- `put` meets its contract: a number is set in its word, and one past the words or past 255 changes nothing.
use Rattle.base_sets.proofs.SetLaws.{put-large, put_in, put-past}
use Rattle.base_sets.proofs.put.Goals as goal

pub returns-then-x-ge256 : goal.returns-then-x-ge256
returns-then-x-ge256 c = put-large _ _ _ c.if-x-ge256.true

pub returns-then-w-sets : goal.returns-then-w-sets
returns-then-w-sets c = put_in _ _ _ c.if-x-ge256.false

pub returns-else-w-sets : goal.returns-else-w-sets
returns-else-w-sets c = put-past _ _ _ c.if-x-ge256.false c.if-w-sets.false
