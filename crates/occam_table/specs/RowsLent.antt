-- A table's rows as numbers in a lent buffer of 4,096 numbers, four to a row.
use Rattle.std.specs.Prelude.{List, ℕ, ℤ, length, ltb}
use Rattle.std.proofs.Math.Option.{Option, none, some}
use Rattle.meaning.specs.Basics.{if_else}
use Rattle.meaning.specs.Refusals.{Refusal}
use Rattle.meaning.specs.TableBytes.{bytes_fault, rows_of}
use Rattle.write_buffers.specs.Replies.{past}
use Rattle.read_text.specs.Reading.{text_read}
use Rattle.occam_table.specs.Packing.{read_number}

-- how many numbers, with the numbers at the start; 0 and nothing written if the bytes are refused
abbrev pub rows_by : Option Refusal → List ℤ → List ℤ → ℕ × List ℤ
rows_by (some f) rows out = (0, out)
rows_by none rows out = (length rows, past rows out)

-- or if the buffer is too short
unfoldable pub rows_lent : List ℕ → List ℤ → ℕ × List ℤ
rows_lent table out =
    let read = rows_by (bytes_fault table) (rows_of table) out in
    if_else (ltb (length out) 4096) (0, out) read

-- a text's rows in such a buffer: what reading comes to as one number, with what the buffer holds
unfoldable pub read_lent : List ℕ → List ℤ → ℕ × List ℤ
read_lent text out = let r = text_read text out in (read_number r.0, r.1)
