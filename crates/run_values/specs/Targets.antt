-- The cell that a target, and that an assignment, means.
use Rattle.std.specs.Prelude.{List, ℕ, eqb}
use Rattle.meaning.specs.declared.Index.{Index}
use Rattle.meaning.specs.declared.Index.TheVariants.{At, Fails}
use Rattle.meaning.specs.Basics.{if_else}
use Rattle.meaning.specs.Tree.{Target, Action, stop, skip, sequence, parallel, assign, input, output, conditional, loop, alternation, block}
use Rattle.meaning.specs.Values.{Message, index}
use Rattle.run_code.specs.Prepared.{place_at}

-- the cell that a target means
abbrev pub target_index : List Message → Target → Index
target_index cells t = index cells t.name.first t.name.size t.subscript

-- the cell that an action assigns to; reason 2 where it is no assignment
abbrev pub assigned_index : List Message → Action → Index
assigned_index cells stop = Fails 2
assigned_index cells skip = Fails 2
assigned_index cells sequence = Fails 2
assigned_index cells parallel = Fails 2
assigned_index cells (assign v e f) = index cells v.first v.size e
assigned_index cells (input i) = Fails 2
assigned_index cells (output c e f) = Fails 2
assigned_index cells (conditional l) = Fails 2
assigned_index cells (loop e b) = Fails 2
assigned_index cells (alternation l) = Fails 2
assigned_index cells (block v) = Fails 2

-- the cell of an element of the prepared list whose subscript is a literal: 2 a cell, 3 a subscript outside its array; reason 0 where row r is neither
abbrev pub fixed_cell_by : List ℕ → ℕ → ℕ → Index
fixed_cell_by code r w = if_else (eqb w 2) (At (place_at code r 1)) (if_else (eqb w 3) (Fails 2) (Fails 0))

unfoldable pub fixed_cell : List ℕ → ℕ → Index
fixed_cell code r = fixed_cell_by code r (place_at code r 0)
