-- What reading a sheet gives: how many lines of values there are, the refusal 10, or that there is no room; and what the two lent lists hold then.
use Rattle.std.specs.Prelude.{Bool, false, not, ◌&&◌, ℕ, zero, suc, ◌/◌, ℤ, length, drop, leb, Result, Ok, Err}
use mathlib.Core.List.{List, [], ◌∷◌, tail}
use Rattle.std.proofs.Math.Option.{Option, none, some}
use Rattle.meaning.specs.Limits.{max_sheet, max_lines}
use Rattle.meaning.specs.Basics.{if_else}
use Rattle.meaning.specs.Refusals.{Refusal}
use Rattle.meaning.specs.Lines.{lines, line_size}
use Rattle.meaning.specs.Values.{Message}
use Rattle.meaning.specs.Sheet.{values_of, sheet_fault}
use Rattle.read_table.specs.Fields.{first_line}
use Rattle.read_sheet.specs.declared.SheetError.{SheetError}
use Rattle.read_sheet.specs.declared.SheetError.TheVariants.{Full, Refused}
use Rattle.read_sheet.specs.Fields.{value_of, reading_mark}
use Rattle.read_sheet.specs.Header.{header_read}
use Rattle.read_sheet.specs.Lines.{put_readings, right_fields}

-- the answer where there is room: a refusal's line, or how many lines of values there are
abbrev pub answer_of : Option Refusal → ℕ → Result ℕ SheetError
answer_of none n = Ok n
answer_of (some f) n = Err (Refused f.1)

-- what comes after a line, if the line has readings
abbrev pub if_right : Option (List Message) → List (List Message) → List (List Message)
if_right none rest = []
if_right (some vs) rest = rest

-- the readings of the first n lines of some bytes, for so many channels, up to the first field that is no reading or not ended as it is to be
unfoldable pub right_lines : ℕ → ℕ → List ℕ → List (List Message)
right_lines count zero s = []
right_lines count (suc n) [] = []
right_lines count (suc n) (b ∷ bs) =
    let s = b ∷ bs in
    right_fields count s ∷ if_right (values_of count (first_line s)) (right_lines count n (drop (line_size s) s))

-- what is kept of lines of readings, put in place from a line on
unfoldable pub put_lines : {A : Type 0} → (Message → A) → ℕ → List (List Message) → List A → List A
put_lines kept line [] l = l
put_lines kept line (vs ∷ vss) l = put_lines kept (suc line) vss (put_readings kept line 0 vs l)

-- the header of a sheet that is not too long
abbrev pub header_of : List ℤ → List ℕ → Option (ℕ × ℕ)
header_of rows sheet = if_else (leb (length sheet) max_sheet) (header_read rows sheet) none

-- whether the channels of a header have no room in two lists, 128 places each
abbrev pub is_full : Option (ℕ × ℕ) → ℕ → ℕ → Bool
is_full none m n = false
is_full (some (count, first)) m n = not (leb count (m / 128) && leb count (n / 128))

-- the lines of readings after a header
abbrev pub lines_after : Option (ℕ × ℕ) → List ℕ → List (List Message)
lines_after none sheet = []
lines_after (some (count, first)) sheet = right_lines count max_lines (drop first sheet)

-- what a sheet gives, with these two lists lent
unfoldable pub sheet_read : List ℤ → List ℕ → List ℤ → List ℕ → Result ℕ SheetError × List ℤ × List ℕ
sheet_read rows sheet values marks =
    let header = header_of rows sheet in
    let vss = lines_after header sheet in
    if_else (is_full header (length values) (length marks)) (Err Full, values, marks)
    (answer_of (sheet_fault rows sheet) (length (tail (lines sheet))), put_lines value_of 0 vss values, put_lines reading_mark 0 vss marks)
