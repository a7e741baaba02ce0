-- The sets of a row are sixteen words. Assumes nothing.
use mathlib.Core.Path.{ap, ◌∙◌}
use Rattle.base_sets.specs.Sets.{set_union}
use Rattle.check_components.proofs.RowSets.{sets-part}
use Rattle.check_components.proofs.join_row.Goals as goal

pub returns : goal.returns
returns c =
    c.join.ensures ∙ ap (set_union c.args.own.now) (sets-part c.args.sets.now c.args.r)
