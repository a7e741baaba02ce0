-- The sheet runner: from standard input to standard output ("A run on paper").
use mathlib.Core.List.{List, [], ◌∷◌, ◌++◌, flatten}
use Rattle.std.specs.Prelude.{ℕ, ◌+◌, ℤ}
use Rattle.meaning.specs.Basics.{if_else}
use Rattle.meaning.specs.Limits.{max_table, max_sheet, max_budget}
use Rattle.meaning.specs.Texts.{bytes}
use Rattle.meaning.specs.Lines.{lines, same}
use Rattle.meaning.specs.TableBytes.{rows_of}
use Rattle.meaning.specs.Answers.{Result, refused, ran, result_of_bytes}
use Rattle.meaning.specs.Printing.{run_lines, refused_line, line_bytes, printed_lines}

-- the line `=`
abbrev pub separator : List ℕ
separator = bytes "=\n"

-- "a table up to the first line `=`"; "Without that line all is the table"
unfoldable pub table_part : List (List ℕ) → List ℕ
table_part [] = []
table_part (l ∷ ls) = if_else (same l separator) [] (l ++ table_part ls)

-- "then readings"; without that line "the readings are no bytes"
unfoldable pub sheet_part : List (List ℕ) → List ℕ
sheet_part [] = []
sheet_part (l ∷ ls) = if_else (same l separator) (flatten ls) (sheet_part ls)

-- what is printed: "A refusal prints one line only, without the line of names"
abbrev pub printed_result : List ℤ → Result → List ℕ
printed_result rows (refused f) = line_bytes (refused_line f)
printed_result rows (ran r) = printed_lines (run_lines rows r)

-- "Budget 65,536, no choices"
unfoldable pub runner : List ℕ → List ℕ
runner input =
    let ls = lines input in
    let table = table_part ls in
    let sheet = sheet_part ls in
    printed_result (rows_of table) (result_of_bytes table sheet [] max_budget)

-- how many bytes of standard input settle everything: a table at its limit, the line `=`, and a sheet one byte too long
abbrev pub enough : ℕ
enough = max_table + 2 + (max_sheet + 1)
