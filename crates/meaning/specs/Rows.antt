-- Rows of a table: four numbers each, the kind and the fields a, b, c.
use Rattle.std.specs.Prelude.{List, ℕ, ◌+◌, ◌*◌, ◌/◌, ℤ, pos, negsuc, length, get_or}

-- a field as a row number; a negative one is past every row
abbrev pub natural_of : ℤ → ℕ
natural_of (pos n) = n
natural_of (negsuc n) = 4294967295

-- the number of rows
abbrev pub row_count : List ℤ → ℕ
row_count rows = length rows / 4

-- number j of row r: 0 the kind, 1 to 3 the fields a, b, c
abbrev pub field_at : List ℤ → ℕ → ℕ → ℤ
field_at rows r j = get_or rows (4 * r + j) (pos 0)

abbrev pub natural_at : List ℤ → ℕ → ℕ → ℕ
natural_at rows r j = natural_of (field_at rows r j)

abbrev pub kind_at : List ℤ → ℕ → ℕ
kind_at rows r = natural_at rows r 0
