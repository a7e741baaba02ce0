-- The row that a field refers to, where that is a higher row; and that GIVEN's is an element.
use Rattle.std.specs.Prelude.{◌≡◌, List, ℕ, ◌<◌, ℤ, length, ltb}
use Rattle.meaning.specs.Basics.{if_else}
use Rattle.meaning.specs.Rows.{row_count, natural_at, kind_at}

-- the row that number j of row r refers to; past the table where that is no higher row
unfoldable pub operand_at : List ℤ → ℕ → ℕ → ℕ
operand_at rows r j = if_else (ltb r (natural_at rows r j)) (natural_at rows r j) (length rows)

-- a row that GIVEN refers to is an element
abbrev pub GivenElements : List ℤ → Type 0
GivenElements rows = (r : ℕ) → r < row_count rows → kind_at rows r ≡ 12 → natural_at rows r 1 ≡ 2 → operand_at rows r 2 < row_count rows → kind_at rows (operand_at rows r 2) ≡ 11
