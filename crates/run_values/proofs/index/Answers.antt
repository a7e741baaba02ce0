-- `index` meets its contract: the subscript of the value of its expression.
use mathlib.Core.Path.{◌∙◌}
use Rattle.meaning.specs.Values.{index}
use Rattle.run_code.proofs.Inside.{second-inside}
use Rattle.run_values.proofs.index.Goals as goal

pub eval-v-requires-clause-inside : goal.eval-v-requires-clause-inside
eval-v-requires-clause-inside c = rw c.place.ensures (second-inside c.requires.table.1 c.args.r c.requires.inside.0 c.requires.inside.1)

pub returns : goal.returns
unfolding index
returns c rows p = c.subscripted.ensures ∙ rw (c.eval-v.ensures rows p, c.place.ensures)
