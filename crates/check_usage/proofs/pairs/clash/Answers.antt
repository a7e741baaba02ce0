-- Four words of a sort stand at 16 times the row, and 4 times the sort further. Assumes nothing.
use Rattle.std.proofs.Common.{rules}
use borrow.Author.Tests.{ne_eqb}
use Rattle.check_usage.specs.Search.{meet_by}
use Rattle.check_usage.proofs.pairs.clash.Goals as goal

pub returns-in-7 : goal.returns-in-7
unfolding meet_by
returns-in-7 c = rw c.in-7.is (search rules)

pub returns-in-8 : goal.returns-in-8
unfolding meet_by
returns-in-8 c = rw c.in-8.is c.meet-in-8.ensures

pub returns-in_default : goal.returns-in_default
unfolding meet_by
returns-in_default c = simp (ne_eqb c.args.number 7 (search rules), ne_eqb c.args.number 8 (search rules)) c.meet-in_default.ensures
