-- Bytes written into a lent buffer: what does not fit is left out, what is past them is untouched.
use mathlib.Core.List.{List, [], ◌∷◌, ◌++◌, map, flatten}
use Rattle.std.specs.Prelude.{ℕ, ◌+◌, length, take, drop, set, ltb}
use Rattle.meaning.specs.Basics.{if_else}
use Rattle.meaning.specs.Texts.{line_feed, comma}
use Rattle.meaning.specs.Numerals.{decimal}
use Rattle.meaning.specs.Printing.{Line, line_bytes}
use Rattle.base_numbers.specs.declared.Text.{Text}

-- how many of some bytes fit a lent buffer, and what it holds with them in front
abbrev pub printed_in : List ℕ → List ℕ → ℕ × List ℕ
printed_in bytes old = (length (take (length old) bytes), take (length old) bytes ++ drop (length bytes) old)

-- a place in a lent buffer, and what the buffer holds
abbrev pub Writer : Type 0
Writer = ℕ × List ℕ

-- one byte more, if the place is in the buffer
unfoldable pub put : ℕ → Writer → Writer
put b w = if_else (ltb w.0 (length w.1)) (w.0 + 1, set w.1 w.0 b) w

-- some bytes more
unfoldable pub put_all : List ℕ → Writer → Writer
put_all [] w = w
put_all (b ∷ bs) w = put_all bs (put b w)

-- some lines more
unfoldable pub put_lines : List Line → Writer → Writer
put_lines ls w = put_all (flatten (map line_bytes ls)) w

-- the bytes that a text shows
abbrev pub shown : Text → List ℕ
shown t = take t.length t.bytes

-- a line of four fields, the first and the last as bytes
abbrev pub line_of : List ℕ → ℕ → ℕ → List ℕ → List ℕ
line_of word name at value = word ++ (comma ∷ decimal name) ++ (comma ∷ decimal at) ++ (comma ∷ value) ++ (line_feed ∷ [])
