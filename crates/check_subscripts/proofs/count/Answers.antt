-- `count` meets its contract: by the subscript's expression as a constant.
use mathlib.Core.Path.{ap}
use Rattle.meaning.specs.Tree.{content_at}
use Rattle.base_sets.specs.Sets.{in_sort}
use Rattle.base_sets.proofs.SetLaws.{one-call}
use Rattle.check_subscripts.proofs.CountLaws.{counts-as}
use Rattle.check_subscripts.proofs.count.Goals as goal

pub returns-in-Some : goal.returns-in-Some
returns-in-Some c =
    one-call _ _ c.count_value.ensures
    (ap (in_sort c.args.sort) (counts-as c.args.first c.args.size (content_at c.args.rows.now c.args.e).expr c.constant_at.ensures c.in-Some.is))

pub returns-in-None : goal.returns-in-None
returns-in-None c =
    one-call _ _ c.put_range.ensures
    (ap (in_sort c.args.sort) (counts-as c.args.first c.args.size (content_at c.args.rows.now c.args.e).expr c.constant_at.ensures c.in-None.is))
