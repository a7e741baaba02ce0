-- A table's bytes: its lines, refusals 2 and 3, and its rows.
use Rattle.std.specs.Prelude.{Bool, not, ◌&&◌, ◌||◌, ℕ, zero, suc, ◌+◌, ◌/◌, ◌%◌, min, ℤ, length, get_or, leb, ltb, eqb}
use mathlib.Core.List.{List, [], map, tail, flatten}
use Rattle.std.proofs.Math.Option
use Rattle.std.proofs.Math.Option.{Option, none, some}
use Rattle.meaning.specs.Limits.{max_rows, max_table}
use Rattle.meaning.specs.Texts.{bytes}
use Rattle.meaning.specs.Basics.{if_else, is_some, lowest}
use Rattle.meaning.specs.Lines.{lines, read_line, same}
use Rattle.meaning.specs.Numerals.{number}
use Rattle.meaning.specs.Refusals.{Refusal}

-- "The first line is `kind,a,b,c`"
abbrev pub header : List ℕ
header = bytes "kind,a,b,c\n"

-- "one row of four whole numbers": what a line holds, if it is one
unfoldable pub read_row : List ℕ → Option (List ℤ)
read_row line = read_line number 4 line

-- line L, from 1; a missing one has no bytes
abbrev pub line_at : List (List ℕ) → ℕ → List ℕ
line_at ls zero = []
line_at ls (suc i) = get_or ls i []

-- "at most 32,768" bytes
abbrev pub overlong : List ℕ → Bool
overlong table = ltb max_table (length table)

-- 2, "line, 0 if too long": line L is not as the table's form says
abbrev pub malformed : Bool → List (List ℕ) → ℕ → Bool
malformed long ls zero = long
malformed long ls (suc zero) = not (same (line_at ls 1) header)
malformed long ls (suc (suc i)) = leb (suc (suc i)) (length ls) && not (is_some (read_row (line_at ls (suc (suc i)))))

-- 3: "in bytes, line 1,026 exists"
abbrev pub one_too_many : List (List ℕ) → ℕ → Bool
one_too_many ls L = eqb L (max_rows + 2) && leb (max_rows + 2) (length ls)

-- a fault found in line L: "on one line 2"
abbrev pub refusal_at : Bool → List (List ℕ) → ℕ → Refusal
refusal_at long ls L = if_else (malformed long ls L) (2, L) (3, max_rows)

-- "of 2 and 3 found in bytes the earlier line wins"
unfoldable pub bytes_fault : List ℕ → Option Refusal
bytes_fault table =
    let ls = lines table in
    let long = overlong table in
    Option.map (refusal_at long ls) (lowest (λ L. malformed long ls L || one_too_many ls L) (2 + length ls))

-- the numbers of a table's lines after the first, for bytes that are not refused
unfoldable pub rows_of : List ℕ → List ℤ
rows_of table = flatten (map (λ l. Option.get_or (read_row l) []) (tail (lines table)))

-- 3, "rows lent as numbers, not four to each" or more than 1,024: "whole rows, 1,024 at most"
unfoldable pub numbers_fault : List ℤ → Option Refusal
numbers_fault zs =
    let n = length zs in
    if_else (eqb (n % 4) 0 && leb (n / 4) max_rows) none (some (3, min (n / 4) max_rows))
