-- The change of the step that a row orders, read from what is noted of rows, for all contents of the lists; and what a change of data does to the arrays.
-- Noted are of each row three numbers (what it would do, where, and which cell, or of an output its message's mark) and a number that it hands over; of each channel element who waits there to input and to output, a row and 1, or 0.
use Rattle.std.specs.Prelude.{List, [], ◌∷◌, ℕ, suc, ◌+◌, ◌*◌, ◌-◌, ◌%◌, ◌<◌, ℤ, pos, length, get_or, set, eqb}
use Rattle.meaning.specs.Basics.{if_else}
use Rattle.meaning.specs.State.{StateChange}
use Rattle.meaning.specs.Step.{becomes}
use Rattle.meaning.specs.Buffers.{Buffers, cell_of}
use Rattle.machine.specs.Held.{put_cell, put_place}
use Rattle.run_code.specs.Prepared.{row_at, prepared, strip_at}
use Rattle.run_changes.specs.declared.Data.{Data}
use Rattle.run_changes.specs.declared.Data.TheVariants.{Nothing, Cell, Reading, Output}
use Rattle.run_changes.specs.declared.Change.{Change}

-- the row of a note, which is one more
abbrev pub row_noted : ℕ → ℕ
row_noted n = (n + 1023) % 1024

-- row `row` gets a state by a step of row `owner`, and the data changes; no other row ends
abbrev pub row_becomes : ℕ → ℕ → ℕ → Data → Change
row_becomes owner row state d = record { owner = owner; at = row; next = state; sender = 0; written = d }

-- what the note of row j is, and number i of it
abbrev pub what_at : List ℕ → ℕ → ℕ
what_at acts j = get_or acts (3 * j) 0

abbrev pub act_at : List ℕ → ℕ → ℕ → ℕ
act_at acts j i = get_or acts (3 * j + i) 0

-- the mark of the message that row j outputs
abbrev pub mark_at : List ℕ → ℕ → ℕ
mark_at acts j = act_at acts j 2

module _ (acts : List ℕ) (sent : List ℤ) where
  -- the row of note n hands its number over to a cell and ends, and row `row` gets a state by a step of row `owner`
  abbrev pub handed_over : ℕ → ℕ → ℕ → ℕ → ℕ → Change
  handed_over owner row state a n =
      record { owner = owner; at = row; next = state; sender = n; written = Cell a (get_or sent (row_noted n) (pos 0)) (mark_at acts (row_noted n) % 256) }

  module _ (elements : List ℕ) where
    -- a communication on element e
    unfoldable pub communicated : ℕ → ℕ → ℕ → ℕ → ℕ → Change
    communicated owner row state e a = handed_over owner row state a (get_or elements (2 * (e % 256) + 1) 0)

    -- the step of an ALT with its option of row j, whose process of row q starts, by what is noted of the option; a closed one stays as it is
    abbrev pub option_change_by : ℕ → ℕ → ℕ → ℕ → Change
    option_change_by owner q j w =
        if_else (eqb w 4) (row_becomes owner q 1 Nothing)
        (if_else (eqb w 5) (row_becomes owner q 1 (Reading (act_at acts j 2) (act_at acts j 1)))
        (if_else (eqb w 7) (communicated owner q 1 (act_at acts j 1) (act_at acts j 2))
        (row_becomes owner j 0 Nothing)))

    unfoldable pub option_change : ℕ → ℕ → ℕ → Change
    option_change owner q j = option_change_by owner q j (what_at acts j)

    -- the step of row j by itself, by what is noted of it; `strip` is where its strip begins if it outputs to the host; a row that has no step stays as it is
    abbrev pub own_change_by : ℕ → ℕ → ℕ → Change
    own_change_by strip j w =
        if_else (eqb w 1) (row_becomes j j (10 + act_at acts j 1 % 64) Nothing)
        (if_else (eqb w 2) (row_becomes j j 2 (Cell (act_at acts j 2) (get_or sent j (pos 0)) 1))
        (if_else (eqb w 3) (row_becomes j j 2 Nothing)
        (if_else (eqb w 4) (row_becomes j (act_at acts j 1) 1 Nothing)
        (if_else (eqb w 5) (row_becomes j j 2 (Reading (act_at acts j 2) (act_at acts j 1)))
        (if_else (eqb w 6) (row_becomes j j 2 (Output (act_at acts j 1) strip (get_or sent j (pos 0)) (mark_at acts j % 256)))
        (if_else (eqb w 7) (communicated j j 2 (act_at acts j 1) (act_at acts j 2))
        (row_becomes j j 1 Nothing)))))))

    unfoldable pub own_change : ℕ → ℕ → Change
    own_change strip j = own_change_by strip j (what_at acts j)

-- the step that row j orders: of an ALT with its option, where the row is one, else of the row by itself
unfoldable pub change_in : List ℤ → List ℕ → List ℤ → List ℕ → ℕ → Change
change_in rows acts sent elements j =
    if_else (eqb (row_at rows j).what 42) (option_change acts sent elements (row_noted (row_at rows j).parent) (row_at rows j).first j)
    (own_change acts sent elements (strip_at (prepared rows) j) j)

-- the changes of row states that a change stands for
abbrev pub changes_of : Change → List StateChange
changes_of c = becomes c.owner c.at c.next ∷ if_else (eqb c.sender 0) [] (becomes (c.sender - 1) (c.sender - 1) 2 ∷ [])

-- one more number with its mark of the p-th output channel, whose strip begins at `strip`
abbrev pub put_number : ℕ → ℕ → ℤ → ℕ → Buffers → Buffers
put_number p strip x m b =
    record {
      cells = b.cells;
      marks = b.marks;
      states = b.states;
      places = b.places;
      numbers = set b.numbers (strip + get_or b.counts p 0) x;
      counts = set b.counts p (suc (get_or b.counts p 0));
      output_marks = set b.output_marks (strip + get_or b.counts p 0) m;
    }

-- where the next reading of the p-th input channel is kept
abbrev pub reading_place : ℕ → Buffers → ℕ
reading_place p b = p * 128 + get_or b.places p 0

-- a change of data in the arrays, where the readings are kept as numbers and marks
abbrev pub put_data : List ℤ → List ℕ → Data → Buffers → Buffers
put_data readings given Nothing b = b
put_data readings given (Cell a x m) b = put_cell a (cell_of x m) b
put_data readings given (Reading a p) b =
    put_place p (suc (get_or b.places p 0)) (put_cell a (cell_of (get_or readings (reading_place p b) (pos 0)) (get_or given (reading_place p b) 0)) b)
put_data readings given (Output p strip x m) b = put_number p strip x m b

-- the arrays with other row states
abbrev pub with_states : List ℕ → Buffers → Buffers
with_states t b = record { cells = b.cells; marks = b.marks; states = t; places = b.places; numbers = b.numbers; counts = b.counts; output_marks = b.output_marks }

-- the numbers of a change of data are within the arrays, and the place of a reading is within the lists that keep the readings
abbrev pub DataFits : List ℤ → List ℕ → Data → Buffers → Type 0
DataFits readings given Nothing b = Unit {0}
DataFits readings given (Cell a x m) b = a < 256
DataFits readings given (Reading a p) b = (a < 256) × (p < 8) × (get_or b.places p 0 < 128) × (reading_place p b < length readings) × (reading_place p b < length given)
DataFits readings given (Output p strip x m) b = (p < 8) × (strip + get_or b.counts p 0 < 1024)
