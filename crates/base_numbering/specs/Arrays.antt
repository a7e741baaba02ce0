-- What the lent lists of sizes and of new numbers hold when the rows have been gone through.
use Rattle.std.specs.Prelude.{List, ◌++◌, map, ℕ, zero, suc, ◌+◌, ◌-◌, ℤ, get_or, take, drop, set}
use Rattle.meaning.specs.Rows.{row_count, kind_at}
use Rattle.meaning.specs.Declarations.{declarations}
use Rattle.meaning.specs.References.{Column, of-a, of-b, of_c, field_of, number_of}
use Rattle.meaning.specs.Usage.{numbers_from}
use Rattle.base_top_down.specs.Forms.{is_reference, shape_for, form_at, form_size}
use Rattle.base_top_down.specs.New.{child_row}
use Rattle.base_numbering.specs.Fields.{placed_in}

module _ (rows : List ℤ) where
  -- old sizes, with those of the rows from r on in their places
  unfoldable pub sizes_from : ℕ → List ℕ → List ℕ
  sizes_from r old = take r old ++ (map (λ t. form_size (form_at rows t)) (numbers_from r (row_count rows - r)) ++ drop (row_count rows) old)

  -- the row that field p of row r refers to gets the number v
  abbrev pub numbered_field : ℕ → Column → ℕ → List ℕ → List ℕ
  numbered_field r p v numbers = placed_in numbers (is_reference (field_of (shape_for (kind_at rows r)) p)) (number_of rows r p) v

  -- row r gives the rows that it refers to their numbers, from its own
  unfoldable pub numbered_row : ℕ → List ℕ → List ℕ
  numbered_row r numbers =
      let m = get_or numbers r 0 in
      numbered_field r of_c (child_row rows r of_c m) (numbered_field r of-b (child_row rows r of-b m) (numbered_field r of-a (child_row rows r of-a m) numbers))

  -- so do n rows from r on
  unfoldable pub numbered_rows : ℕ → ℕ → List ℕ → List ℕ
  numbered_rows r zero numbers = numbers
  numbered_rows r (suc n) numbers = numbered_rows (r + 1) n (numbered_row r numbers)

  -- old numbers, with those that the root and each row after it give; the root keeps its own
  unfoldable pub numbers_over : List ℕ → List ℕ
  numbers_over old = let d = declarations rows in numbered_rows d (row_count rows - d) (set old d d)
