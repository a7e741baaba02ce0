-- The cells that the machine's arrays hold, and the run's state as it holds them: a state with one cell changed.
use Rattle.std.proofs.Math.Option.{none}
use Rattle.std.specs.Prelude.{List, [], ◌∷◌, ℕ, zero, suc, ℤ, pos, get_or, set, replicate, drop}
use Rattle.meaning.specs.Values.{Message}
use Rattle.meaning.specs.Buffers.{mark, number_in, cell_of, decoded}
use Rattle.run_values.specs.declared.store.State.{State}

-- the first n cells that numbers and set marks stand for
unfoldable pub cells_to : ℕ → List ℤ → List ℕ → List Message
cells_to zero values marks = []
cells_to (suc n) values marks = cell_of (get_or values 0 (pos 0)) (get_or marks 0 0) ∷ cells_to n (drop 1 values) (drop 1 marks)

-- the 256 cells of two arrays
unfoldable pub cells_in : List ℤ → List ℕ → List Message
cells_in values marks = cells_to 256 values marks

-- the cells of a state
abbrev pub state_cells : State → List Message
state_cells s = decoded s.values s.marks

-- "All cells are unset when a run begins"
abbrev pub unset_state : State
unset_state = record { values = replicate 256 (pos 0); marks = replicate 256 0; places = replicate 8 0 }

-- a state with cell i changed to c, as the lent buffers hold it; past the last cell nothing changes
abbrev pub with_cell : State → ℕ → Message → State
with_cell s i c = record { values = set s.values i (number_in c); marks = set s.marks i (mark c); places = s.places }

-- a state with n cells from a on unset
abbrev pub with_unset : ℕ → ℕ → State → State
with_unset a zero s = s
with_unset a (suc n) s = with_unset (suc a) n (with_cell s a none)
