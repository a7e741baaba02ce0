-- The code's constant tables of words: a line is a spelling with zeros behind it, its length, a sort and a value.
use Rattle.std.specs.Prelude.{Bool, true, ◌&&◌, List, [], ◌∷◌, ℕ, pos, take, get_or, leb, Option, Some, None}
use Rattle.meaning.specs.Basics.{if_else}
use Rattle.meaning.specs.Lines.{same}
use Rattle.read_tokens.specs.Lexemes.{valued}
use Rattle.read_tokens.specs.declared.Lexeme.{Lexeme}

-- whether a line has room for its spelling
abbrev pub short : List ℕ → Bool
short line = leb (get_or line 7 0) 7

-- whether each line has
unfoldable pub all_short : List (List ℕ) → Bool
all_short [] = true
all_short (l ∷ ls) = short l && all_short ls

-- the bytes that a line spells
abbrev pub line_spelling : List ℕ → List ℕ
line_spelling line = take (get_or line 7 0) line

-- the token of a line
abbrev pub line_lexeme : List ℕ → Lexeme
line_lexeme line = valued (get_or line 8 0) (pos (get_or line 9 0))

-- the token that a table has for some bytes
unfoldable pub lexeme_in : List (List ℕ) → List ℕ → Option Lexeme
lexeme_in [] s = None
lexeme_in (l ∷ ls) s = let rest = lexeme_in ls s in if_else (same s (line_spelling l)) (Some (line_lexeme l)) rest
