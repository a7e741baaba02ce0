-- The uses of names in a line, told from its tokens: a name is used as a variable, but the first token before `?` as an input and before `!` as an output.
use Rattle.std.specs.Prelude.{◌≡◌, Bool, true, false, not, List, [], ◌∷◌, ◌++◌, map, ℕ, eqb}
use Rattle.std.proofs.Math.Option.{Option, none, some}
use Rattle.meaning.specs.Basics.{if_else}
use Rattle.grammar.specs.Grammar.{Token, name, number, minus, not-word, given, arith, joins, round-open, round-close, square-open, square-close, mark}
use Rattle.grammar.specs.Outline.{OutlineLine, is_declaration}
use Rattle.grammar.specs.Lines.{Spells}
use Rattle.grammar.specs.Names.{Sort, as-variable, as-input, as-output, Use, use_of, uses_of}
use Rattle.read_tokens.specs.Sorts as sorts
use Rattle.read_classes.specs.Parts.{sort_of, is_mark, part_at_mark}

-- what a name is used as that stands first before a mark of a sort
abbrev pub sort_by : ℕ → Sort
sort_by m = if_else (eqb m sorts.asks) as-input (if_else (eqb m sorts.tells) as-output as-variable)

-- the sort of the first mark, 0 if there is none
abbrev pub mark_ahead : List (Option Token) → ℕ
mark_ahead os = (part_at_mark os).sort

-- the mark that the chunk after a chunk stands first before, 0 if it does not stand first
abbrev pub mark_after : Option Token → List (Option Token) → ℕ
mark_after o os = if_else (is_mark o) (mark_ahead os) sorts.no_token

-- whether no subscript begins
abbrev pub bare_before : List (Option Token) → Bool
bare_before [] = true
bare_before (o ∷ os) = not (eqb (sort_of o) sorts.square_open)

-- the use that a token is, if it is a name
abbrev pub token_use : Sort → Bool → Token → List Use
token_use s b (name n) = use_of n b s ∷ []
token_use s b (number z) = []
token_use s b minus = []
token_use s b not-word = []
token_use s b given = []
token_use s b (arith k) = []
token_use s b (joins l) = []
token_use s b round-open = []
token_use s b round-close = []
token_use s b square-open = []
token_use s b square-close = []
token_use s b (mark m) = []

abbrev pub chunk_use : Sort → Bool → Option Token → List Use
chunk_use s b none = []
chunk_use s b (some t) = token_use s b t

-- the uses in chunks, of which the first stands first before a mark of a sort
unfoldable pub uses_from : ℕ → List (Option Token) → List Use
uses_from m [] = []
uses_from m (o ∷ os) = chunk_use (sort_by m) (bare_before os) o ++ uses_from (mark_after o os) os

-- the uses in the chunks of a line
abbrev pub uses_in : List (Option Token) → List Use
uses_in os = uses_from (mark_ahead os) os

-- they are the uses in the line, unless it is a declaration
abbrev pub UsesTold : Type 0
UsesTold = (ts : List Token) (x : OutlineLine) → Spells ts x → is_declaration x ≡ false → uses_in (map some ts) ≡ uses_of x
