-- What the lent buffers of a run say: its cells, its output lists and its row states, read back from the arrays.
use Rattle.std.specs.Prelude.{List, [], ◌∷◌, ◌++◌, ℕ, suc, ◌*◌, ℤ, take, drop}
use Rattle.meaning.specs.declared.Outcome.{Outcome}
use Rattle.meaning.specs.Limits.{max_rows, max_cells, max_host_channels, max_capacity}
use Rattle.meaning.specs.Rows.{row_count}
use Rattle.meaning.specs.State.{State}
use Rattle.meaning.specs.Declarations.{channels}
use Rattle.meaning.specs.Values.{Message}
use Rattle.meaning.specs.Buffers.{decoded, capacities}
use Rattle.meaning.specs.Printing.{Line, cell_lines, out_lines, stop_lines, outcome_line, value_bytes}
use Rattle.write_bytes.specs.Writing.{line_of}

-- the bytes of a line for each message of a list, with its position from i on
unfoldable pub message_bytes : List ℕ → ℕ → ℕ → List Message → List ℕ
message_bytes word r i [] = []
message_bytes word r i (x ∷ xs) = line_of word r i (value_bytes x) ++ message_bytes word r (suc i) xs

-- output lists by their capacities and counts: "A strip follows the one before it by capacity", and its count says how many messages it has
unfoldable pub outputs_in : List ℕ → List ℕ → List Message → List (List Message)
outputs_in [] counts xs = []
outputs_in (k ∷ ks) [] xs = []
outputs_in (k ∷ ks) (n ∷ counts) xs = take n xs ∷ outputs_in ks counts (drop k xs)

-- a table has at most 1,024 rows: what is past them is not looked at
abbrev pub table_rows : List ℤ → List ℤ
table_rows rows = take (4 * max_rows) rows

-- the state that lent buffers hold, of each as much as its limit; the places in the readings are not printed
abbrev pub state_in : List ℤ → List ℤ → List ℕ → List ℕ → List ℤ → List ℕ → List ℕ → State
state_in rows values marks states numbers counts output_marks =
    record {
      states = take (row_count rows) states;
      store = record {
        cells = decoded (take max_cells values) (take max_cells marks);
        places = [];
        outputs = outputs_in (capacities rows) (take max_host_channels counts) (decoded (take max_capacity numbers) (take max_capacity output_marks));
      };
    }

-- the lines of a run by its parts
abbrev pub part_lines : List ℤ → Outcome → ℕ → List Message → List (List Message) → List ℕ → List Line
part_lines rows o steps cells outputs states = outcome_line o steps ∷ cell_lines rows cells ++ out_lines (channels rows 2) outputs ++ stop_lines 0 states
