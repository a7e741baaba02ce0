-- The lines of a text as the code lists them: of each line its kind and where its tokens end, and the tokens one after the other.
use Rattle.std.specs.Prelude.{◌≡◌, List, ◌∷◌, map, ℕ, zero, suc, ◌≤◌, ℤ, length, get_or, take, drop}
use Rattle.std.proofs.Math.Option.{Option, none, some}
use Rattle.grammar.specs.Grammar.{Token}
use Rattle.grammar.specs.Outline.{OutlineLine, Lined, lined}
use Rattle.grammar.specs.Lines.{line_spelt}
use Rattle.grammar.specs.TextBytes.{grammar_fault}
use Rattle.grammar.specs.TextRows.{text_lines}
use Rattle.read_tokens.specs.Held.{token_sort, part, tokens_by, name_held}
use Rattle.read_levels.specs.Kinds.{kinds_of}

-- the lists
pub record Listing : Type 0 where
  pub kinds : List ℕ
  pub ends : List ℕ
  pub sorts : List ℕ
  pub values : List ℤ

abbrev pub listing : List ℕ → List ℕ → List ℕ → List ℤ → Listing
listing ks es ss vs = record { kinds = ks; ends = es; sorts = ss; values = vs }

-- where the tokens of a line begin: where those of the line before it end
unfoldable pub start_of : List ℕ → ℕ → ℕ
start_of ends zero = 0
start_of ends (suc j) = get_or ends j 0

-- the sorts of a line's tokens, and their numbers
abbrev pub sorts_on : List ℕ → List ℕ → ℕ → List ℕ
sorts_on ends sorts j = part sorts (start_of ends j) (get_or ends j 0)

abbrev pub values_on : List ℕ → List ℤ → ℕ → List ℤ
values_on ends values j = part values (start_of ends j) (get_or ends j 0)

-- line j is listed: its tokens by `named`, each as f makes it
pub record LineListed (named : ℕ → Option Token) (f : Token → Token) (x : OutlineLine) (j : ℕ) (ends sorts : List ℕ) (values : List ℤ) : Type 0 where
  pub tokens : List Token
  pub spelt : line_spelt tokens ≡ some x
  pub sorts-held : sorts_on ends sorts j ≡ map token_sort tokens
  pub values-held : tokens_by named (sorts_on ends sorts j) (values_on ends values j) ≡ map (λ t. some (f t)) tokens
  pub begins : start_of ends j ≤ get_or ends j 0
  pub within : get_or ends j 0 ≤ length sorts

-- all lines are
pub record LinesListed (named : ℕ → Option Token) (f : Token → Token) (ls : List Lined) (count : ℕ) (g : Listing) : Type 0 where
  pub counted : count ≡ length ls
  pub kinds-held : take count g.kinds ≡ kinds_of ls
  pub line : (j l : ℕ) (x : OutlineLine) (rest : List Lined) → drop j ls ≡ lined l x ∷ rest → LineListed named f x j g.ends g.sorts g.values
  pub kinds-long : count ≤ length g.kinds
  pub ends-long : count ≤ length g.ends
  pub even : length g.sorts ≡ length g.values
  pub short : length g.sorts ≤ 32768

-- a text of the grammar, its lines listed with names by where they stand
pub record TextListed (text : List ℕ) (count : ℕ) (g : Listing) : Type 0 where
  pub of-grammar : grammar_fault text ≡ none
  pub lines : LinesListed (name_held text) (λ t. t) (text_lines text) count g

-- the levels of lines, listed
abbrev pub level_on : Lined → ℕ
level_on (lined l x) = l

pub record LevelsListed (ls : List Lined) (count : ℕ) (levels : List ℕ) : Type 0 where
  pub held : take count levels ≡ map level_on ls
  pub long : count ≤ length levels

-- some text is so listed
abbrev pub SomeTextListed : ℕ → Listing → Type 0
SomeTextListed count g = (text : List ℕ) × TextListed text count g
