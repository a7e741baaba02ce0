-- By the token's sort. Assumes nothing.
use Rattle.read_uses.proofs.MarkLaws.{mark-past-there}
use Rattle.read_uses.proofs.mark_past.Goals as goal

pub returns : goal.returns
returns c = let a = c.args in mark-past-there a.sorts.now a.at c.if-sorts-at-lt-SKIP.false c.mark_in.result c.mark_in.ensures
