-- The loop's invariant: the rows listed before i are noted.
use mathlib.Core.Path.{◌≡◌}
use mathlib.Core.List.{List}
use lib.IntN.{ℤ}
use lib.ListN.{take}
use Rattle.run_values.specs.Cells.{state_cells}
use Rattle.run_code.specs.Prepared.{Prepared}
use Rattle.run_turns.specs.Turns.{note_listed}
use Rattle.run_turns.proofs.note_all.Given as goal

abbrev pub invariant-loop-r : goal.invariant-loop-r
invariant-loop-r l = (rows : List ℤ) → Prepared rows l.code → l.notes ≡ note_listed rows (state_cells l.state) l.state.places l.counts l.lines (take l.r-index l.came) l.initial.notes
