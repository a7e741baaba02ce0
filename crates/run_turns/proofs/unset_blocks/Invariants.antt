-- The loop's invariant: the cells of the blocks listed before i are unset.
use mathlib.Core.Path.{◌≡◌}
use mathlib.Core.List.{List}
use lib.IntN.{ℤ}
use lib.ListN.{take}
use Rattle.run_code.specs.Prepared.{Prepared}
use Rattle.run_turns.specs.Turns.{blocks_unset}
use Rattle.run_turns.proofs.unset_blocks.Given as goal

abbrev pub invariant-loop-b : goal.invariant-loop-b
invariant-loop-b l = (rows : List ℤ) → Prepared rows l.code → l.state ≡ blocks_unset rows (take l.b-index l.blocks) l.initial.state
