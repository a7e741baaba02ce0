-- What reading a text into lent rows comes to, and what the lent rows hold after it.
use Rattle.std.specs.Prelude.{List, [], ℕ, ℤ, pos, length, ltb, Result, Ok, Err}
use Rattle.std.proofs.Math.Option.{Option, none, some}
use Rattle.meaning.specs.Basics.{if_else}
use Rattle.meaning.specs.Refusals.{Refusal}
use Rattle.meaning.specs.Rows.{row_count}
use Rattle.meaning.specs.Buffers.{lent}
use Rattle.grammar.specs.TextRows.{text_rows}
use Rattle.grammar.specs.TextRead.{text_fault}
use Rattle.read_text.specs.declared.Refused.{Refused}

-- four numbers for each of 1,024 rows: "as long as its limit"
abbrev pub max_numbers : ℕ
max_numbers = 4096

-- the rows, and 0 up to the limit; what is past it is untouched
abbrev pub rows_in : List ℤ → List ℤ → List ℤ
rows_in rows old = lent max_numbers (pos 0) rows old

-- a refusal, as the code says it
abbrev pub refused : ℕ → ℕ → Result ℕ Refused
refused number place = Err (record { number = number; place = place })

-- a refusal, which leaves the lent rows, or else how many rows are read
abbrev pub read_unless : Option Refusal → List ℤ → List ℤ → Result ℕ Refused × List ℤ
read_unless none rows old = (Ok (row_count rows), rows_in rows old)
read_unless (some f) rows old = (refused f.0 f.1, old)

-- 1, if the lent rows are too short; then 12, 13 and 3
unfoldable pub text_read : List ℕ → List ℤ → Result ℕ Refused × List ℤ
text_read text old =
    let read = read_unless (text_fault text) (text_rows text) old in
    if_else (ltb (length old) max_numbers) (refused 1 0, old) read

-- lent rows with nothing in them up to the limit
unfoldable pub cleared : List ℤ → List ℤ
cleared old = rows_in [] old
