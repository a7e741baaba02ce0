-- A line's fields from left to right, as the code holds them.
use Rattle.std.specs.Prelude.{Bool, false, List, [], ◌∷◌, ℕ, zero, suc, ◌+◌, ℤ, take, drop, eqb}
use Rattle.std.proofs.Math.Option.{Option, none, some}
use Rattle.meaning.specs.Basics.{if_else}
use Rattle.meaning.specs.Texts.{line_feed, comma}
use Rattle.meaning.specs.Lines.{line_size}
use Rattle.meaning.specs.Numerals.{number}
use Rattle.meaning.specs.TableBytes.{read_row}

-- how many bytes stand before the first comma or line feed
unfoldable pub field_size : List ℕ → ℕ
field_size [] = 0
field_size (b ∷ bs) = let rest = suc (field_size bs) in if_else (eqb b comma) 0 (if_else (eqb b line_feed) 0 rest)

-- whether a byte is the first of some bytes
abbrev pub opens : ℕ → List ℕ → Bool
opens stop [] = false
opens stop (b ∷ bs) = eqb b stop

-- the byte that ends a field with so many after it on the line
abbrev pub stop_of : ℕ → ℕ
stop_of zero = line_feed
stop_of (suc after) = comma

-- a value, if there is one, and where what comes after it begins
abbrev pub with_next : {A : Type 0} → Option A → ℕ → Option (A × ℕ)
with_next none next = none
with_next (some x) next = some (x, next)

-- the first field of the bytes from a place on, if it holds a number and the byte `stop` ends it
unfoldable pub number_field : ℕ → List ℕ → ℕ → Option (ℤ × ℕ)
number_field stop s at =
    let e = field_size s in
    if_else (opens stop (drop e s)) (with_next (number (take e s)) (at + e + 1)) none

-- the first line of some bytes
abbrev pub first_line : List ℕ → List ℕ
first_line s = take (line_size s) s

-- the line that begins at a place, read as a row
unfoldable pub row_from_line : List ℕ → ℕ → Option (List ℤ × ℕ)
row_from_line bytes at =
    let s = drop at bytes in
    with_next (read_row (first_line s)) (at + line_size s)
