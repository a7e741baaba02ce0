-- What a turn of the run does to what the machine holds: the notes of the step's rows are taken off, the data changes, the cells of the blocks that start become unset,
-- and the rows that came to work are noted.
use Rattle.std.proofs.Math.Option.{none, some}
use Rattle.std.specs.Prelude.{List, [], ◌∷◌, ℕ, zero, suc, ◌+◌, ◌*◌, ℤ, pos, get_or, set, eqb, Option, Some, None}
use Rattle.meaning.specs.Basics.{if_else}
use Rattle.meaning.specs.Declarations.{Variable}
use Rattle.meaning.specs.State.{program}
use Rattle.meaning.specs.Values.{Message}
use Rattle.machine.specs.Came.{local_at}
use Rattle.run_values.specs.declared.store.State.{State}
use Rattle.run_values.specs.Cells.{with_cell, with_unset}
use Rattle.run_notes.specs.declared.Notes.{Notes}
use Rattle.run_notes.specs.Notes.{leave_row}
use Rattle.run_noting.specs.Noting.{row_noted}
use Rattle.run_changes.specs.declared.Data.{Data}
use Rattle.run_changes.specs.declared.Outputs.{Outputs}
use Rattle.run_changes.specs.declared.Data.TheVariants.{Nothing, Cell, Reading, Output}

-- the row of a note, one more than its number, is taken off; 0 is none
abbrev pub leave_noted : List ℤ → ℕ → Notes → Notes
leave_noted rows zero m = m
leave_noted rows (suc r) m = leave_row rows r m

-- the rows of a step are taken off: its owner, and the row that outputs, if there is one
abbrev pub leave_step : List ℤ → ℕ → ℕ → Notes → Notes
leave_step rows owner sender m = leave_noted rows sender (leave_row rows owner m)

-- each of these rows is noted, one after another
abbrev pub note_listed : List ℤ → List Message → List ℕ → List ℕ → ℕ → List ℕ → Notes → Notes
note_listed rows cells places counts lines [] m = m
note_listed rows cells places counts lines (r ∷ l) m = note_listed rows cells places counts lines l (row_noted lines cells places counts rows r m)

-- the cell that a change of data writes, and what it puts there, where the readings are kept as numbers and marks
abbrev pub written : List ℤ → List ℕ → List ℕ → Data → Option (ℕ × Option ℤ)
written readings given places Nothing = None
written readings given places (Cell a x m) = if_else (eqb m 0) (Some (a, None)) (Some (a, Some x))
written readings given places (Reading a p) = let i = p * 128 + get_or places p 0 in if_else (eqb (get_or given i 0) 0) (Some (a, None)) (Some (a, Some (get_or readings i (pos 0))))
written readings given places (Output p strip x m) = None

-- the state with that put into its cell
abbrev pub with_put : Option (ℕ × Option ℤ) → State → State
with_put None s = s
with_put (Some (a, None)) s = with_cell s a none
with_put (Some (a, Some x)) s = with_cell s a (some x)

-- the state with all cells of variables unset
abbrev pub variables_unset : List Variable → State → State
variables_unset [] s = s
variables_unset (v ∷ vs) s = variables_unset vs (with_unset v.first v.size s)

-- of blocks, by their rows
abbrev pub blocks_unset : List ℤ → List ℕ → State → State
blocks_unset rows rs s = variables_unset (local_at (program rows) rs) s

-- what the host has given and been given: places in the readings, the strips' numbers, their counts, the numbers' marks
pub record Host : Type 0 where
  pub places : List ℕ
  pub numbers : List ℤ
  pub counts : List ℕ
  pub output_marks : List ℕ

abbrev pub host_of : List ℕ → List ℤ → List ℕ → List ℕ → Host
host_of p n c m = record { places = p; numbers = n; counts = c; output_marks = m }

-- the same of places and what the run has given
abbrev pub host_with : List ℕ → Outputs → Host
host_with p o = host_of p o.numbers o.counts o.marks

-- a change of data at the host: a reading is taken, a number is given with its mark
abbrev pub host_put : Data → Host → Host
host_put Nothing h = h
host_put (Cell a x m) h = h
host_put (Reading a p) h = host_of (set h.places p (suc (get_or h.places p 0))) h.numbers h.counts h.output_marks
host_put (Output p strip x m) h =
    let i = strip + get_or h.counts p 0 in
    host_of h.places (set h.numbers i x) (set h.counts p (suc (get_or h.counts p 0))) (set h.output_marks i m)
