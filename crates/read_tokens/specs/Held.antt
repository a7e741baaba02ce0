-- Tokens as the code lists them: the sort of each, and a number, which of a name says where it stands in the text, or which row it means.
use Rattle.std.specs.Prelude.{◌≡◌, List, [], ◌∷◌, map, ℕ, ◌+◌, ◌-◌, ◌*◌, ◌/◌, ◌%◌, ℤ, pos, negsuc, length, get_or, take, drop, eqb, ltb}
use Rattle.std.proofs.Math.Option.{Option, none, some}
use Rattle.meaning.specs.Basics.{if_else}
use Rattle.grammar.specs.Grammar.{both, either, a-skip, a-stop, a-seq, a-par, an-if, an-alt, a-while, becomes, asks, tells, ampersand, an_int, a-chan, a-hostin, a-hostout, colon, unused, Token, name, number, minus, not-word, given, arith, joins, round-open, round-close, square-open, square-close, mark}
use Rattle.read_tokens.specs.Sorts as sorts
use Rattle.read_tokens.specs.Lexemes.{token_lexeme}

-- the sort of a token
abbrev pub token_sort : Token → ℕ
token_sort t = (token_lexeme t).sort

-- what a list has from a place up to a place
abbrev pub part : {A : Type 0} → List A → ℕ → ℕ → List A
part xs a b = take (b - a) (drop a xs)

-- One token ---------------------------------------------------------------------------------------------------------------------------

-- the tokens whose sort says all, by sort
unfoldable pub plain_tokens : List (Option Token)
plain_tokens =
    none ∷ none ∷ none ∷ some minus ∷ some not-word ∷ some given
    ∷ none ∷ some (joins both) ∷ some (joins either) ∷ some round-open ∷ some round-close ∷ some square-open ∷ some square-close
    ∷ some (mark a-skip) ∷ some (mark a-stop) ∷ some (mark a-seq) ∷ some (mark a-par) ∷ some (mark an-if) ∷ some (mark an-alt) ∷ some (mark a-while)
    ∷ some (mark becomes) ∷ some (mark asks) ∷ some (mark tells) ∷ some (mark ampersand)
    ∷ some (mark an_int) ∷ some (mark a-chan) ∷ some (mark a-hostin) ∷ some (mark a-hostout) ∷ some (mark colon) ∷ []

-- what a number tells that is not negative
abbrev pub by_natural : (ℕ → Option Token) → ℤ → Option Token
by_natural f (pos k) = f k
by_natural f (negsuc k) = none

-- the token of a sort and a number; of a name the number tells which it is
unfoldable pub token_by : (ℕ → Option Token) → ℕ → ℤ → Option Token
token_by named s v =
    if_else (eqb s sorts.name) (by_natural named v)
    (if_else (eqb s sorts.number) (some (number v))
    (if_else (eqb s sorts.arith) (by_natural (λ k. some (arith k)) v)
    (if_else (eqb s sorts.unused) (by_natural (λ k. some (mark (unused k))) v) (get_or plain_tokens s none))))

-- tokens by their sorts and numbers, one by one
unfoldable pub tokens_by : (ℕ → Option Token) → List ℕ → List ℤ → List (Option Token)
tokens_by named [] vs = []
tokens_by named (s ∷ ss) [] = []
tokens_by named (s ∷ ss) (v ∷ vs) = token_by named s v ∷ tokens_by named ss vs

-- Names -------------------------------------------------------------------------------------------------------------------------------

-- where a name stands in a text and how many bytes it has, in one number
abbrev pub placed : ℕ → ℕ → ℕ
placed from size = 32 * from + size

-- the letters that such a number tells
abbrev pub letters_at : List ℕ → ℕ → List ℕ
letters_at text k = take (k % 32) (drop (k / 32) text)

-- a name by where it stands
abbrev pub name_held : List ℕ → ℕ → Option Token
name_held text k = some (name (letters_at text k))

-- rows that a name can mean
abbrev pub row_limit : ℕ
row_limit = 32768

-- a name by the row that it means: that number stands for its letters
abbrev pub name_of_row : ℕ → Option Token
name_of_row k = if_else (ltb k row_limit) (some (name (k ∷ []))) none

-- tokens whose names are listed by where they stand
abbrev pub tokens_held : List ℕ → List ℕ → List ℤ → List (Option Token)
tokens_held text ss vs = tokens_by (name_held text) ss vs

-- tokens whose names are listed by their rows
abbrev pub tokens_resolved : List ℕ → List ℤ → List (Option Token)
tokens_resolved ss vs = tokens_by name_of_row ss vs

-- Laws --------------------------------------------------------------------------------------------------------------------------------

-- listed tokens have the listed sorts
abbrev pub SortsTold : Type 0
SortsTold = (named : ℕ → Option Token) (names-named : (k : ℕ) (t : Token) → named k ≡ some t → token_sort t ≡ sorts.name)
    (ss : List ℕ) (vs : List ℤ) (ts : List Token) → length ss ≡ length vs → tokens_by named ss vs ≡ map some ts → ss ≡ map token_sort ts

-- a part of listed tokens is listed by the parts of the two lists
abbrev pub PartsListed : Type 0
PartsListed = (named : ℕ → Option Token) (ss : List ℕ) (vs : List ℤ) (a b : ℕ) → length ss ≡ length vs → tokens_by named (part ss a b) (part vs a b) ≡ part (tokens_by named ss vs) a b
