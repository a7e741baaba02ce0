-- `decided` meets its contract, from what the two functions that it calls ensure.
use mathlib.Core.Path.{ap, ◌∙◌}
use mir.Syntax.{w32}
use mir.ValLaws.{to_z-of_z}
use Rattle.meaning.specs.Values.{is_true, truth}
use Rattle.base_numbers.proofs.operands.decided.Goals as goal

pub returns : goal.returns
returns c = c.truth.ensures ∙ ap truth (c.is_true.ensures ∙ ap is_true (to_z-of_z w32 _ c.ranges.x))
