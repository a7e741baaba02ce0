-- A line of values, as the code holds it, and where its readings are put.
use Rattle.std.specs.Prelude as std
use Rattle.std.specs.Prelude.{List, [], ◌∷◌, ℕ, zero, suc, ◌+◌, ◌*◌, ℤ, take, drop, set}
use Rattle.std.proofs.Math.Option.{Option, none, some}
use Rattle.meaning.specs.Basics.{if_else}
use Rattle.meaning.specs.Lines.{line_size}
use Rattle.meaning.specs.Values.{Message}
use Rattle.meaning.specs.Sheet.{reading, values_of}
use Rattle.read_table.specs.Fields.{field_size, first_line, opens, stop_of}
use Rattle.read_sheet.specs.Fields.{value_of, reading_mark}

module _ {A : Type 0} where
  -- what is kept of the readings of a line, from channel j on, put in place
  unfoldable pub put_readings : (Message → A) → ℕ → ℕ → List Message → List A → List A
  put_readings kept line j [] l = l
  put_readings kept line j (v ∷ vs) l = put_readings kept line (suc j) vs (set l (j * 128 + line) (kept v))

-- a line is right if it has readings
abbrev pub line_as : Option (List Message) → ℕ → std.Option ℕ
line_as none next = std.None
line_as (some vs) next = std.Some next

-- a field's reading in front of others, none of them if the field is no reading
abbrev pub up_to_wrong : Option Message → List Message → List Message
up_to_wrong none vs = []
up_to_wrong (some v) vs = v ∷ vs

-- the readings of a line that is to have so many fields, up to the first field that is no reading or not ended as it is to be
unfoldable pub right_fields : ℕ → List ℕ → List Message
right_fields zero s = []
right_fields (suc after) s =
    let n = field_size s in
    let rest = right_fields after (drop (n + 1) s) in
    if_else (opens (stop_of after) (drop n s)) (up_to_wrong (reading (take n s)) rest) []

-- what reading the first line of some bytes at a place gives: the answer; and the values and the marks, with what is kept of the fields before the first wrong one
abbrev pub line_read : ℕ → ℕ → ℕ → List ℕ → List ℤ → List ℕ → std.Option ℕ × List ℤ × List ℕ
line_read count line from s values marks =
    let vs = right_fields count s in
    (line_as (values_of count (first_line s)) (from + line_size s), put_readings value_of line 0 vs values, put_readings reading_mark line 0 vs marks)
