-- A field of a line of values, as the code holds it.
use Rattle.std.specs.Prelude as std
use Rattle.std.specs.Prelude.{List, ℕ, ◌+◌, ℤ, pos, take, drop}
use Rattle.std.proofs.Math.Option.{Option, none, some}
use Rattle.meaning.specs.Basics.{if_else}
use Rattle.meaning.specs.Values.{Message}
use Rattle.meaning.specs.Sheet.{reading}
use Rattle.base_numbers.specs.Reading.{option_of}
use Rattle.read_table.specs.Fields.{field_size, opens, with_next}

-- a reading's value, 0 where it is absent
abbrev pub value_of : Message → ℤ
value_of none = pos 0
value_of (some z) = z

-- its mark: is there a reading
abbrev pub reading_mark : Message → ℕ
reading_mark none = 0
reading_mark (some z) = 1

-- the first field of the bytes from a place on, if it is a reading and the byte `stop` ends it, and where the next field begins
unfoldable pub reading_field : ℕ → List ℕ → ℕ → Option (Message × ℕ)
reading_field stop s at =
    let n = field_size s in
    if_else (opens stop (drop n s)) (with_next (reading (take n s)) (at + n + 1)) none

-- such a field, as the code's `Option`
abbrev pub reading_told : Option (Message × ℕ) → std.Option (std.Option ℤ × ℕ)
reading_told none = std.None
reading_told (some (v, next)) = std.Some (option_of v, next)
