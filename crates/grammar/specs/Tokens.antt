-- The table of tokens: words, numbers and symbols, and which bytes hang together.
use Rattle.std.specs.Prelude.{Bool, true, false, ◌&&◌, ◌||◌, List, [], ◌∷◌, ℕ, ℤ, length, eqb, leb}
use Rattle.std.proofs.Math.Option.{Option, none, some}
use Rattle.meaning.specs.Basics.{if_else}
use Rattle.meaning.specs.Texts.{bytes, hyphen}
use Rattle.meaning.specs.Lines.{same}
use Rattle.meaning.specs.Numerals.{is_digit}
use Rattle.meaning.specs.Numerals as numerals
use Rattle.grammar.specs.Grammar.{both, either, Mark, a-skip, a-stop, a-seq, a-par, an-if, an-alt, a-while, becomes, asks, tells, ampersand, an_int, a-chan, a-hostin, a-hostout, colon, unused, Token, name, number, minus, not-word, given, arith, joins, round-open, round-close, square-open, square-close, mark}

abbrev pub is_letter : ℕ → Bool
is_letter b = (leb 65 b && leb b 90) || (leb 97 b && leb b 122)

-- a letter, a digit or `_`
abbrev pub is_word_byte : ℕ → Bool
is_word_byte b = is_digit b || (is_letter b || eqb b 95)

-- whether two neighbouring bytes belong to one token: a word or number goes on; a minus sign directly before a digit; `:=` `<=` `>=`; `<>`
abbrev pub hang : ℕ → ℕ → Bool
hang b c = (is_word_byte c && is_word_byte b) || ((is_digit c && eqb b hyphen) || ((eqb c 61 && (eqb b 58 || (eqb b 60 || eqb b 62))) || (eqb c 62 && eqb b 60)))

pub record TokenEntry : Type 0 where
  pub spelling : List ℕ
  pub token : Token

abbrev pub token_entry : List ℕ → Token → TokenEntry
token_entry s t = record { spelling = s; token = t }

unfoldable pub token_spelt : List TokenEntry → List ℕ → Option Token
token_spelt [] s = none
token_spelt (e ∷ es) s = let rest = token_spelt es s in if_else (same s e.spelling) (some e.token) rest

-- the grammar's words, TRUE, FALSE and FOR
unfoldable pub words : List TokenEntry
words =
    token_entry (bytes "INT") (mark an_int)
    ∷ token_entry (bytes "CHAN") (mark a-chan)
    ∷ token_entry (bytes "HOSTIN") (mark a-hostin)
    ∷ token_entry (bytes "HOSTOUT") (mark a-hostout)
    ∷ token_entry (bytes "SKIP") (mark a-skip)
    ∷ token_entry (bytes "STOP") (mark a-stop)
    ∷ token_entry (bytes "SEQ") (mark a-seq)
    ∷ token_entry (bytes "PAR") (mark a-par)
    ∷ token_entry (bytes "IF") (mark an-if)
    ∷ token_entry (bytes "WHILE") (mark a-while)
    ∷ token_entry (bytes "ALT") (mark an-alt)
    ∷ token_entry (bytes "REM") (arith 4)
    ∷ token_entry (bytes "PLUS") (arith 5)
    ∷ token_entry (bytes "MINUS") (arith 6)
    ∷ token_entry (bytes "TIMES") (arith 7)
    ∷ token_entry (bytes "AND") (joins both)
    ∷ token_entry (bytes "OR") (joins either)
    ∷ token_entry (bytes "NOT") not-word
    ∷ token_entry (bytes "GIVEN") given
    ∷ token_entry (bytes "TRUE") (mark (unused 0))
    ∷ token_entry (bytes "FALSE") (mark (unused 1))
    ∷ token_entry (bytes "FOR") (mark (unused 2))
    ∷ []

unfoldable pub symbols : List TokenEntry
symbols =
    token_entry (bytes ":=") (mark becomes)
    ∷ token_entry (bytes "<>") (arith 9)
    ∷ token_entry (bytes "<=") (arith 11)
    ∷ token_entry (bytes ">=") (arith 13)
    ∷ token_entry (bytes ":") (mark colon)
    ∷ token_entry (bytes "=") (arith 8)
    ∷ token_entry (bytes "<") (arith 10)
    ∷ token_entry (bytes ">") (arith 12)
    ∷ token_entry (bytes "[") square-open
    ∷ token_entry (bytes "]") square-close
    ∷ token_entry (bytes "(") round-open
    ∷ token_entry (bytes ")") round-close
    ∷ token_entry (bytes "+") (arith 0)
    ∷ token_entry (bytes "-") minus
    ∷ token_entry (bytes "*") (arith 2)
    ∷ token_entry (bytes "/") (arith 3)
    ∷ token_entry (bytes "?") (mark asks)
    ∷ token_entry (bytes "!") (mark tells)
    ∷ token_entry (bytes "&") (mark ampersand)
    ∷ []

unfoldable pub all_word_bytes : List ℕ → Bool
all_word_bytes [] = true
all_word_bytes (b ∷ bs) = is_word_byte b && all_word_bytes bs

-- a letter, and then letters, digits and `_`
unfoldable pub is_word : List ℕ → Bool
is_word [] = false
is_word (b ∷ bs) = is_letter b && all_word_bytes bs

-- a word of the grammar, or else a name of at most 31 characters
unfoldable pub or_name : Option Token → List ℕ → Option Token
or_name none s = if_else (leb (length s) 31) (some (name s)) none
or_name (some t) s = some t

unfoldable pub or_number : Option Token → Option ℤ → Option Token
or_number none none = none
or_number none (some z) = some (number z)
or_number (some t) o = some t

-- the token that some bytes are
unfoldable pub token_of : List ℕ → Option Token
token_of s = if_else (is_word s) (or_name (token_spelt words s) s) (or_number (token_spelt symbols s) (numerals.number s))

-- whether a mark is a word
abbrev pub is_mark_word : Mark → Bool
is_mark_word a-skip = true
is_mark_word a-stop = true
is_mark_word a-seq = true
is_mark_word a-par = true
is_mark_word an-if = true
is_mark_word an-alt = true
is_mark_word a-while = true
is_mark_word becomes = false
is_mark_word asks = false
is_mark_word tells = false
is_mark_word ampersand = false
is_mark_word an_int = true
is_mark_word a-chan = true
is_mark_word a-hostin = true
is_mark_word a-hostout = true
is_mark_word colon = false
is_mark_word (unused k) = true

-- whether a token is a word or a number; the operators 4 to 7 are REM, PLUS, MINUS and TIMES
abbrev pub is_wordlike : Token → Bool
is_wordlike (name n) = true
is_wordlike (number z) = true
is_wordlike minus = false
is_wordlike not-word = true
is_wordlike given = true
is_wordlike (arith k) = leb 4 k && leb k 7
is_wordlike (joins l) = true
is_wordlike round-open = false
is_wordlike round-close = false
is_wordlike square-open = false
is_wordlike square-close = false
is_wordlike (mark m) = is_mark_word m

-- words and numbers must be parted by a space
abbrev pub needs_space : Token → Token → Bool
needs_space t u = is_wordlike t && is_wordlike u
