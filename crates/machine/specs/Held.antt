-- What the machine's arrays hold: a state as the lent buffers would show it, over arrays of zeros that are exactly as long as the limits.
use Rattle.std.specs.Prelude.{◌≡◌, Bool, false, List, [], ◌∷◌, ◌++◌, ℕ, zero, suc, ◌+◌, ◌*◌, ◌<◌, ◌≤◌, ℤ, pos, length, get_or, set, replicate, take, ltb}
use Rattle.std.proofs.Math.Option.{none, some}
use Rattle.std.proofs.Math.ListN.{get_elem?}
use Rattle.meaning.specs.Limits.{max_rows, max_cells, max_host_channels, max_capacity}
use Rattle.meaning.specs.Basics.{is_some}
use Rattle.meaning.specs.Rows.{row_count}
use Rattle.meaning.specs.Declarations.{Variable, total_cells, host_channels}
use Rattle.meaning.specs.Values.{Message}
use Rattle.meaning.specs.Settle.{settle}
use Rattle.meaning.specs.State.{Store, State, program, whole, Write, write_cell, write_place, write_output, write, StateChange, Effect}
use Rattle.meaning.specs.Readings.{Sheet}
use Rattle.meaning.specs.Buffers.{Buffers, mark, number_in, capacities, encode}

-- arrays of zeros
unfoldable pub blank : Buffers
blank =
    record {
      cells = replicate max_cells (pos 0);
      marks = replicate max_cells 0;
      states = replicate max_rows 0;
      places = replicate max_host_channels 0;
      numbers = replicate max_capacity (pos 0);
      counts = replicate max_host_channels 0;
      output_marks = replicate max_capacity 0;
    }

-- the arrays hold a state
abbrev pub HoldsState : List ℤ → State → Buffers → Type 0
HoldsState rows s b = b ≡ encode rows s blank

-- the sum of a list
abbrev pub sum_of : List ℕ → ℕ
sum_of [] = 0
sum_of (n ∷ ns) = n + sum_of ns

-- "A strip follows the one before it by capacity": where that of the p-th output channel begins
unfoldable pub strip_start : List ℤ → ℕ → ℕ
strip_start rows p = sum_of (take p (capacities rows))

-- a state with the data changed
abbrev pub with_write : Write → State → State
with_write w s = record { states = s.states; store = write w s.store }

-- the arrays with one cell, place, row state changed
abbrev pub put_cell : ℕ → Message → Buffers → Buffers
put_cell a m b =
    record {
      cells = set b.cells a (number_in m);
      marks = set b.marks a (mark m);
      states = b.states;
      places = b.places;
      numbers = b.numbers;
      counts = b.counts;
      output_marks = b.output_marks;
    }

abbrev pub put_place : ℕ → ℕ → Buffers → Buffers
put_place p k b = record { cells = b.cells; marks = b.marks; states = b.states; places = set b.places p k; numbers = b.numbers; counts = b.counts; output_marks = b.output_marks }

abbrev pub put_state : ℕ → ℕ → Buffers → Buffers
put_state r v b = record { cells = b.cells; marks = b.marks; states = set b.states r v; places = b.places; numbers = b.numbers; counts = b.counts; output_marks = b.output_marks }

-- one more message for the p-th output channel, which has been given n
abbrev pub put_output : List ℤ → ℕ → ℕ → Message → Buffers → Buffers
put_output rows p n m b =
    record {
      cells = b.cells;
      marks = b.marks;
      states = b.states;
      places = b.places;
      numbers = set b.numbers (strip_start rows p + n) (number_in m);
      counts = set b.counts p (suc n);
      output_marks = set b.output_marks (strip_start rows p + n) (mark m);
    }

-- the row states settle
abbrev pub with_settled : List ℤ → Bool → State → State
with_settled rows t s = record { states = settle (whole (program rows)) t s.states; store = s.store }

abbrev pub put_settled : List ℤ → Bool → Buffers → Buffers
put_settled rows t b =
    record { cells = b.cells; marks = b.marks; states = settle (whole (program rows)) t b.states; places = b.places; numbers = b.numbers; counts = b.counts; output_marks = b.output_marks }

-- the changes of data that a step makes to the arrays: an output list has its new message last
abbrev pub put_write : List ℤ → Write → Buffers → Buffers
put_write rows (write_cell a m) b = put_cell a m b
put_write rows (write_place p k) b = put_place p k b
put_write rows (write_output p l) b = let n = get_or b.counts p 0 in put_output rows p n (get_or l n none) b

abbrev pub put_writes : List ℤ → List Write → Buffers → Buffers
put_writes rows [] b = b
put_writes rows (w ∷ ws) b = put_writes rows ws (put_write rows w b)

-- those of row states
abbrev pub put_changes : List StateChange → Buffers → Buffers
put_changes [] b = b
put_changes (c ∷ cs) b = put_changes cs (put_state c.at c.become b)

-- n cells from a on become unset
abbrev pub put_unset_from : ℕ → ℕ → Buffers → Buffers
put_unset_from a zero b = b
put_unset_from a (suc n) b = put_unset_from (suc a) n (put_cell a none b)

-- all cells of variables become unset
abbrev pub put_unset : List Variable → Buffers → Buffers
put_unset [] b = b
put_unset (v ∷ vs) b = put_unset vs (put_unset_from v.first v.size b)

-- what a step does to the arrays: its changes of data, those of row states, then settling, which starts the blocks of the variables vs and unsets their cells
unfoldable pub put_effect : List ℤ → Effect → List Variable → Buffers → Buffers
put_effect rows e vs b = put_unset vs (put_settled rows false (put_changes e.changes (put_writes rows e.writes b)))

-- a change of data is within what the table declares: a cell, a host channel, one more message where a channel has room
abbrev pub InRange : List ℤ → Store → Write → Type 0
InRange rows x (write_cell a m) = a < total_cells rows
InRange rows x (write_place p k) = p < host_channels 1 rows
InRange rows x (write_output p l) =
    (m : Message) × (p < host_channels 2 rows) × (l ≡ get_or x.outputs p [] ++ (m ∷ [])) × (length (get_or x.outputs p []) < get_or (capacities rows) p 0)

abbrev pub AllInRange : List ℤ → Store → List Write → Type 0
AllInRange rows x [] = Unit {0}
AllInRange rows x (w ∷ ws) = InRange rows x w × AllInRange rows (write w x) ws

-- changes of row states are of rows of the table
abbrev pub ChangesBelow : ℕ → List StateChange → Type 0
ChangesBelow n [] = Unit {0}
ChangesBelow n (c ∷ cs) = (c.at < n) × ChangesBelow n cs

-- a state has as many cells, places, output lists and row states as its table says
pub record Lengths (rows : List ℤ) (s : State) : Type 0 where
  pub cells : length s.store.cells ≡ total_cells rows
  pub places : length s.store.places ≡ host_channels 1 rows
  pub outputs : length s.store.outputs ≡ host_channels 2 rows
  pub states : length s.states ≡ row_count rows

-- the arrays are long enough for them
pub record Room (rows : List ℤ) : Type 0 where
  pub cells : total_cells rows ≤ max_cells
  pub places : host_channels 1 rows ≤ max_host_channels
  pub outputs : host_channels 2 rows ≤ max_host_channels
  pub states : row_count rows ≤ max_rows
  pub numbers : sum_of (capacities rows) ≤ max_capacity

-- the lists hold the readings of a table's role 1 channels: each channel has 128 places in both; a reading is left below the number of lines, and its number and mark (0 where it is absent) are kept at port * 128 + line
pub record KeptReadings (rows : List ℤ) (sheet : Sheet) (readings : List ℤ) (given : List ℕ) (lines : ℕ) : Type 0 where
  pub numbers_fit : 128 * host_channels 1 rows ≤ length readings
  pub marks-fit : 128 * host_channels 1 rows ≤ length given
  pub left : (p n : ℕ) → p < host_channels 1 rows → is_some (get_elem? (get_or sheet p []) n) ≡ ltb n lines
  pub number : (p n : ℕ) → p < host_channels 1 rows → (m : Message) → get_elem? (get_or sheet p []) n ≡ some m → get_or readings (p * 128 + n) (pos 0) ≡ number_in m
  pub marked : (p n : ℕ) → p < host_channels 1 rows → (m : Message) → get_elem? (get_or sheet p []) n ≡ some m → get_or given (p * 128 + n) 0 ≡ mark m
