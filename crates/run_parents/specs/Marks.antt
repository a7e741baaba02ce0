-- What the machine notes of rows: a row as one more than its number, 0 where there is none.
use Rattle.std.specs.Prelude.{Bool, true, false, ◌&&◌, List, map, ℕ, zero, suc, ◌+◌, ℤ, length, get_or, set, ltb, eqb}
use Rattle.std.proofs.Math.Option.{Option, none, some}
use Rattle.meaning.specs.Basics.{if_else}
use Rattle.meaning.specs.Usage.{numbers_from}
use Rattle.meaning.specs.State.{program}
use Rattle.machine.specs.RowSteps.{alt_of}

-- a row, if there is one
abbrev pub row_note : Option ℕ → ℕ
row_note none = 0
row_note (some r) = r + 1

-- a note stays; where there is none, one is made if it is due
abbrev pub first_note : Bool → ℕ → ℕ → ℕ
first_note false note old = old
first_note true note zero = note
first_note true note (suc old) = suc old

-- a note at row t, where there is a place for one and none yet
abbrev pub note_at : List ℕ → ℕ → ℕ → List ℕ
note_at notes t note = if_else (ltb t (length notes) && eqb (get_or notes t 0) 0) (set notes t note) notes

-- a note for each of n rows: the ALT that the row is an option of
unfoldable pub owner_notes : List ℤ → ℕ → List ℕ
owner_notes rows n = map (λ j. row_note (alt_of (program rows) j)) (numbers_from 0 n)
