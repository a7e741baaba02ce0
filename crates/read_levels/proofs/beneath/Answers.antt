-- The entry of the table. Assumes nothing.
use mathlib.Core.Path.{refl}
use Rattle.read_levels.specs.Steps.{beneath_table}
use Rattle.read_levels.proofs.beneath.Goals as goal

pub returns : goal.returns
unfolding beneath_table
returns c = refl
