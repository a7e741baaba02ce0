-- A text's bytes: its lines, each with its line feed, and the line at which it is refused by 12.
use Rattle.std.specs.Prelude.{Bool, List, ◌≡◌, [], ◌∷◌, ◌++◌, ℕ, length, ltb}
use Rattle.std.proofs.Math.Option.{Option, none, some}
use Rattle.meaning.specs.Basics.{if_else}
use Rattle.meaning.specs.Texts.{line_feed}
use Rattle.meaning.specs.Lines as bytes
use Rattle.meaning.specs.ByteClaims.{NoFeed}
use Rattle.grammar.specs.Outline.{Lined}
use Rattle.grammar.specs.LineBytes.{IsLine, line_of_bytes}
use Rattle.grammar.specs.Places.{fault_line}

-- bytes of a text
abbrev pub max_text : ℕ
max_text = 32768

-- a line of the grammar with its line feed
abbrev pub IsTextLine : List ℕ → Lined → Type 0
IsTextLine line y = (t : List ℕ) × NoFeed t × (line ≡ t ++ (line_feed ∷ [])) × IsLine t y

abbrev pub read_line : Option (List ℕ) → Option Lined
read_line none = none
read_line (some t) = line_of_bytes t

-- the line of the grammar that a line is
abbrev pub text_line : List ℕ → Option Lined
text_line line = read_line (bytes.text line)

-- "at most 32,768 bytes"
abbrev pub overlong : List ℕ → Bool
overlong text = ltb max_text (length text)

-- 12, "line, 0 if too long"
unfoldable pub grammar_fault : List ℕ → Option ℕ
grammar_fault text = if_else (overlong text) (some 0) (fault_line IsTextLine text_line (bytes.lines text))
