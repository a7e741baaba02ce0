-- The line at a place of a text, and the tokens that it is cut into.
use Rattle.std.specs.Prelude.{◌≡◌, Bool, not, ◌&&◌, List, [], ◌∷◌, ℕ, ◌+◌, ◌-◌, ◌/◌, ◌<◌, ◌≤◌, ℤ, pos, length, get_or, take, drop, eqb, ltb}
use Rattle.meaning.specs.Basics.{if_else}
use Rattle.meaning.specs.Texts.{line_feed}
use Rattle.meaning.specs.Lines.{lines, line_size}
use Rattle.grammar.specs.Tokens.{is_word_byte}
use Rattle.read_tokens.specs.Sorts as sorts
use Rattle.read_tokens.specs.Held.{placed}
use Rattle.read_scan.specs.Nexts.{blanks}

-- the bytes of the line at a place, with its line feed if it has one
abbrev pub line_from : List ℕ → ℕ → List ℕ
line_from text at = take (line_size (drop at text)) (drop at text)

-- bytes are left: the line at the place is first, and the others begin where it ends
abbrev pub FirstLine : Type 0
FirstLine = (text : List ℕ) (at : ℕ) → at < length text → lines (drop at text) ≡ line_from text at ∷ lines (drop (at + line_size (drop at text)) text)

-- no bytes are left
abbrev pub NoLine : Type 0
NoLine = (text : List ℕ) (at : ℕ) → length text ≤ at → lines (drop at text) ≡ []

-- how many pairs of spaces stand first
abbrev pub indent_of : List ℕ → ℕ
indent_of bs = blanks bs / 2

-- whether a token from a place to a place stands where it may not, if what is before it ends at a place: after a space if it is the first
-- token, directly after a word or number if it is one
abbrev pub misplaced : List ℕ → Bool → ℕ → ℕ → ℕ → Bool
misplaced text begun at from to = if_else (ltb at from) (not begun) (begun && (is_word_byte (get_or text (at - 1) 0) && is_word_byte (get_or text (to - 1) 0)))

-- the number that is listed of a token: of a name where it stands and how many bytes it has
abbrev pub held_value : ℕ → ℤ → ℕ → ℕ → ℤ
held_value sort value from to = if_else (eqb sort sorts.name) (pos (placed from (to - from))) value

-- whether a line is ended at a place: it has tokens, and its line feed is there
abbrev pub ended_at : List ℕ → Bool → ℕ → Bool
ended_at text begun at = begun && eqb (get_or text at 0) line_feed
