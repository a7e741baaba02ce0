-- The entry of the table. Assumes nothing.
use mathlib.Core.Path.{refl}
use Rattle.read_levels.specs.Steps.{after_table}
use Rattle.read_levels.proofs.after.Goals as goal

pub returns : goal.returns
unfolding after_table
returns c = refl
