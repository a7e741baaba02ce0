-- `wrap` meets its contract: the remainder by 2 ^ 32 is what `turn` takes.
use mathlib.Core.Path.{◌∙◌, ap}
use mir.Syntax.{w32, w64}
use mir.ValLaws.{to_z-of_z}
use Rattle.meaning.specs.declared.Value.TheVariants.{Number}
use Rattle.meaning.specs.Values.{wrapped}
use Rattle.base_numbers.proofs.Turning.{remainder-small, remainder-fits}
use Rattle.base_numbers.proofs.wide.wrap.Goals as goal

pub turn-requires : goal.turn-requires
turn-requires c =
    rw (to_z-of_z w64 _ c.ranges.z, to_z-of_z w64 _ (remainder-fits c.args.z)) (remainder-small c.args.z)

pub returns : goal.returns
unfolding wrapped
returns c =
    rw (to_z-of_z w64 _ c.ranges.z, to_z-of_z w64 _ (remainder-fits c.args.z)) at
    (ap Number (to_z-of_z w32 _ (record { sfits = c.turn.type_inv }) ∙ c.turn.ensures))
