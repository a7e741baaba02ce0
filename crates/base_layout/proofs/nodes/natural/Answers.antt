-- `natural` meets its contract: the contracts of `field` and of `natural` in the crate `rows`.
use mathlib.Core.Path.{ap, ◌∙◌}
use mir.Syntax.{w32}
use mir.ValLaws.{to_z-of_z}
use Rattle.meaning.specs.Rows.{natural_of}
use Rattle.base_layout.proofs.nodes.natural.Goals as goal

pub returns : goal.returns
returns c = c.natural.ensures ∙ ap natural_of (to_z-of_z w32 _ (record { sfits = c.field.type_inv }) ∙ c.field.ensures)
