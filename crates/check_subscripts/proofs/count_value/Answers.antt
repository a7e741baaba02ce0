-- `count_value` meets its contract: by the number of the array that the value means, or that it means none.
use mathlib.Core.Path.{sym, ap, ◌∙◌}
use Rattle.meaning.specs.Usage.{numbers_from}
use Rattle.base_sets.specs.Sets.{in_sort}
use Rattle.base_sets.proofs.SetLaws.{one-call, one_more}
use Rattle.check_subscripts.proofs.CountLaws.{counts-at}
use Rattle.check_subscripts.proofs.count_value.Goals as goal

pub returns-in-At : goal.returns-in-At
returns-in-At c =
    one_more _ c.args.sort _ c.requires c.put.ensures (counts-at c.args.first c.args.size c.args.v c.subscript.ensures c.in-At.is)

pub returns-in-Fails : goal.returns-in-Fails
returns-in-Fails c =
    one-call _ _ c.put_range.ensures
    (ap (in_sort c.args.sort)
    (counts-at c.args.first c.args.size c.args.v c.subscript.ensures c.in-Fails.is ∙ ap (numbers_from c.args.first) (sym c.without_place.ensures)))
