-- How a process starts its members, and a process that may be absent as members.
use Rattle.std.proofs.Math.Option.{Option}
use Rattle.meaning.specs.Tree.{Process, Processes, empty, and_process}
use Rattle.meaning.specs.Settle.{Mode, in_turn, together, by_step}
use Rattle.run_parents.specs.declared.shape.Mode as code
use Rattle.run_parents.specs.declared.shape.Mode.TheVariants.{InTurn, Together, ByStep}

-- the mode that the code means
abbrev pub mode_of : code.Mode → Mode
mode_of InTurn = in_turn
mode_of Together = together
mode_of ByStep = by_step

-- a process, if there is one, as members
abbrev pub only_process : Option Process → Processes
only_process o = and_process o empty
