-- Results read back: the state that the seven lent buffers hold, by what the table declares.
use Rattle.std.specs.Prelude.{true, List, [], ◌∷◌, map, ℕ, zero, suc, ◌+◌, ℤ, get_or, take, drop}
use Rattle.meaning.specs.Values.{Message}
use Rattle.meaning.specs.Basics.{all_below}
use Rattle.meaning.specs.Rows.{row_count}
use Rattle.meaning.specs.Declarations.{total_cells, host_channels}
use Rattle.meaning.specs.State.{State}
use Rattle.meaning.specs.Buffers.{Buffers, decoded, capacities}

-- the sum of the first n numbers
abbrev pub sum_to : ℕ → List ℕ → ℕ
sum_to zero l = 0
sum_to (suc n) [] = 0
sum_to (suc n) (x ∷ l) = x + sum_to n l

-- host output channel number `channel`: its count; its strip in the numbers or in their marks, which "follows the one before it by capacity"; and the messages
-- of the part of the strips that it counts
abbrev pub count_in : ℕ → Buffers → ℕ
count_in channel b = get_or b.counts channel 0

abbrev pub strip_in : {A : Type 0} → List ℤ → ℕ → List A → List A
strip_in rows channel l = take (get_or (capacities rows) channel 0) (drop (sum_to channel (capacities rows)) l)

abbrev pub listed_in : List ℤ → ℕ → Buffers → List Message
listed_in rows channel b = take (count_in channel b) (decoded (strip_in rows channel b.numbers) (strip_in rows channel b.output_marks))

-- the state in the lent buffers: as many row states, cells, places and lists as the table has rows, cells and channels of role 1 and 2
unfoldable pub decode : List ℤ → Buffers → State
decode rows b =
    record {
      states = take (row_count rows) b.states;
      store = record {
        cells = decoded (take (total_cells rows) b.cells) (take (total_cells rows) b.marks);
        places = take (host_channels 1 rows) b.places;
        outputs = map (λ channel. listed_in rows channel b) (all_below (λ channel. true) (host_channels 2 rows));
      };
    }
