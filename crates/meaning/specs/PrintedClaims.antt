-- What is claimed of printed forms and of the sheet runner: reading undoes printing, no number has two forms, and how much of the input counts.
use Rattle.std.specs.Prelude.{◌≡◌, ◌↔◌, List, [], ℕ, ◌≤◌, ◌<◌, ℤ, length, take}
use Rattle.std.proofs.Math.Option.{none, some}
use Rattle.std.specs.Int.Signed.{mag}
use Rattle.meaning.specs.Limits.{max_rows, max_table, max_sheet, max_lines}
use Rattle.meaning.specs.Numerals.{number, printed}
use Rattle.meaning.specs.TableBytes.{bytes_fault, rows_of}
use Rattle.meaning.specs.Declarations.{channels}
use Rattle.meaning.specs.Values.{Message}
use Rattle.meaning.specs.Sheet.{sheet_fault, columns, readings}
use Rattle.meaning.specs.Runner.{runner, enough}
use Rattle.meaning.specs.PrintedForms.{flat, table_bytes, sheet_bytes, Each, IsRow, IsValues}

-- a printed number is read as itself
unfoldable pub ReadsBack : Type 0
ReadsBack = (z : ℤ) → mag z < 2147483648 → number (printed z) ≡ some z

-- a field that is read as a number is that number printed: no number has two forms
unfoldable pub OneForm : Type 0
OneForm = (bs : List ℕ) (z : ℤ) → number bs ≡ some z → bs ≡ printed z

-- the bytes that are not refused by 2 or 3 are the tables of at most 1,024 rows and 32,768 bytes
unfoldable pub TableForm : Type 0
TableForm =
    (table : List ℕ)
    → (bytes_fault table ≡ none)
    ↔ ((rows : List (List ℤ)) × (table ≡ table_bytes rows) × (length table ≤ max_table) × (length rows ≤ max_rows) × Each IsRow rows)

-- a table is read as the rows that it was printed from
unfoldable pub TableReads : Type 0
TableReads = (rows : List (List ℤ)) → Each IsRow rows → rows_of (table_bytes rows) ≡ flat rows

-- the sheets that are not refused by 10, beside rows: at most 128 lines of values and 16,384 bytes; with no channel no line
unfoldable pub SheetForm : Type 0
SheetForm =
    (rows : List ℤ) (sheet : List ℕ)
    → (sheet_fault rows sheet ≡ none)
    ↔ ((vs : List (List Message))
    × (sheet ≡ sheet_bytes (channels rows 1) vs)
    × (length sheet ≤ max_sheet)
    × (length vs ≤ max_lines)
    × Each (IsValues (length (channels rows 1))) vs
    × ((length (channels rows 1) ≡ 0) → vs ≡ []))

-- a sheet is read as the columns of the lines that it was printed from
unfoldable pub SheetReads : Type 0
SheetReads =
    (rows : List ℤ) (vs : List (List Message))
    → Each (IsValues (length (channels rows 1))) vs
    → readings rows (sheet_bytes (channels rows 1) vs) ≡ columns vs (length (channels rows 1))

-- what comes after them changes nothing
unfoldable pub Bounded : Type 0
Bounded = (input : List ℕ) → runner (take enough input) ≡ runner input
