use mathlib.Core.List.{List}
use Prim.Native.Nat.{ℕ}
use Rattle.read_processes.specs.Written.{Placeable}
use Rattle.read_processes.proofs.PlaceSteps.{Placing}
use Rattle.read_processes.proofs.place_lines.Given as goal

abbrev pub invariant-loop-line : goal.invariant-loop-line
invariant-loop-line l = (text : List ℕ) → Placeable text l.declared l.lines.kinds.now l.lines.count l.lines.levels.now l.owns l.beneath → Placing text l.initial.starts l.line l.places l.starts
