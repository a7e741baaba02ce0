-- Four words compared one after another; the tests are grouped to the left, those of the definition to the right. Assumes nothing.
use mathlib.Core.Path.{◌∙◌}
use mathlib.Core.Bool.{◌||◌}
use Rattle.base_sets.proofs.Bools.{or_assoc}
use Rattle.base_sets.proofs.SetLaws.{meets-four}
use Rattle.base_sets.proofs.meet.Goals as goal

pub returns : goal.returns
returns c =
    or_assoc (c.share_at.result || c.share_at-2.result) c.share_at-3.result c.share_at-4.result
    ∙ or_assoc c.share_at.result c.share_at-2.result (c.share_at-3.result || c.share_at-4.result)
    ∙ meets-four c.args.one.now c.args.i c.args.other.now c.args.j c.share_at.ensures c.share_at-2.ensures c.share_at-3.ensures c.share_at-4.ensures
