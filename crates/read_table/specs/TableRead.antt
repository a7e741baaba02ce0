-- What reading a table's bytes into lent rows comes to, and what the lent rows hold after it.
use Rattle.std.specs.Prelude.{List, ◌++◌, ℕ, ◌-◌, ◌*◌, ◌/◌, min, ℤ, length, take, drop, ltb, eqb, Result, Ok, Err}
use Rattle.std.proofs.Math.Option.{Option, none, some}
use Rattle.meaning.specs.Basics.{if_else}
use Rattle.meaning.specs.Refusals.{Refusal}
use Rattle.meaning.specs.Rows.{row_count}
use Rattle.meaning.specs.TableBytes.{bytes_fault, rows_of}
use Rattle.read_table.specs.declared.TableError.{TableError}
use Rattle.read_table.specs.declared.TableError.TheVariants.{Full, Refused}

-- how many rows there are to read: those before the line at fault, which is the place of 2, or all
abbrev pub rows_to_read : Option Refusal → List ℤ → ℕ
rows_to_read none rows = row_count rows
rows_to_read (some (number, place)) rows = if_else (eqb number 2) (place - 2) place

-- the refusal, or how many rows are read
abbrev pub rows_unless_refused : Option Refusal → ℕ → Result ℕ TableError
rows_unless_refused none count = Ok count
rows_unless_refused (some (number, place)) count = Err (Refused number place)

-- numbers over the first places of lent ones, with what is past them
abbrev pub past : List ℤ → List ℤ → List ℤ
past numbers lent = numbers ++ drop (length numbers) lent

-- full if there are more rows to read than room for them; the rows for which there is room stand at the start of the lent ones
unfoldable pub table_read : List ℕ → List ℤ → Result ℕ TableError × List ℤ
table_read bytes lent =
    let fault = bytes_fault bytes in
    let count = rows_to_read fault (rows_of bytes) in
    let room = length lent / 4 in
    (if_else (ltb room count) (Err Full) (rows_unless_refused fault count), past (take (4 * min room count) (rows_of bytes)) lent)
