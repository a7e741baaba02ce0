-- How many rows a line makes, told from its kind and the sorts of its tokens.
use Rattle.std.specs.Prelude.{◌≡◌, Bool, false, ◌&&◌, ◌||◌, List, [], ◌∷◌, map, ℕ, ◌+◌, ◌-◌, ◌/◌, ◌%◌, eqb, leb}
use Rattle.std.proofs.Math.Option.{some}
use Rattle.meaning.specs.Basics.{if_else}
use Rattle.grammar.specs.Grammar.{Token}
use Rattle.grammar.specs.Outline.{OutlineLine, Expect, nothing, one-process, heads, is_declaration}
use Rattle.grammar.specs.Lines.{Spells, line_spelt}
use Rattle.grammar.specs.Classes.{other-declaration, class_of}
use Rattle.read_tokens.specs.Sorts as sorts
use Rattle.read_tokens.specs.Held.{token_sort}
use Rattle.read_classes.specs.ClassNumbers.{number_of}
use Rattle.read_levels.specs.Kinds.{expect_number, kind_number}
use Rattle.read_counts.specs.OwnRows.{listed_rows, own_rows}

-- Tokens ----------------------------------------------------------------------------------------------------------------------------

-- the rows that a token adds, by its sort: two for a name, as if it were bare; one for a number, an operator, a process word and `&`
abbrev pub sort_rows : ℕ → ℕ
sort_rows s =
    if_else (eqb s sorts.name) 2
    (if_else ((leb sorts.number s && leb s sorts.or) || ((leb sorts.skip s && leb s sorts.while) || eqb s sorts.ampersand)) 1 0)

-- the rows that a token takes away: one for a subscript's bracket, since the name before it is not bare
abbrev pub sort_less : ℕ → ℕ
sort_less s = if_else (eqb s sorts.square_open) 1 0

-- the rows that tokens of some sorts add, and those that they take away
unfoldable pub full_rows : List ℕ → ℕ
full_rows [] = 0
full_rows (s ∷ ss) = let rest = full_rows ss in sort_rows s + rest

unfoldable pub less_rows : List ℕ → ℕ
less_rows [] = 0
less_rows (s ∷ ss) = let rest = less_rows ss in sort_less s + rest

-- the rows of tokens of some sorts
abbrev pub rows_by_sorts : List ℕ → ℕ
rows_by_sorts ss = full_rows ss - less_rows ss

-- the rows of some tokens
abbrev pub token_rows : List Token → ℕ
token_rows ts = rows_by_sorts (map token_sort ts)

-- so do a line's, unless it is a declaration
abbrev pub LineTokens : Type 0
LineTokens = (e : Expect) (ts : List Token) (x : OutlineLine) → is_declaration x ≡ false → Spells ts x → own_rows e x ≡ listed_rows e + token_rows ts

-- Lines by kind ---------------------------------------------------------------------------------------------------------------------

-- whether a kind is that of a declaration
abbrev pub declared_at : ℕ → Bool
declared_at kind = leb (kind % 16) (number_of other-declaration)

-- the row of a member, choice or option, by the number of what is expected
abbrev pub listed_at : ℕ → ℕ
listed_at e = if_else (eqb e (expect_number nothing) || (eqb e (expect_number one-process) || eqb e (expect_number heads))) 0 1

-- the row of a declaration's block, by the same number
abbrev pub block_at : ℕ → ℕ
block_at e = if_else (eqb e (expect_number heads)) 0 1

-- the rows that a line itself makes, by its kind and the sorts of its tokens
unfoldable pub rows_by_kind : ℕ → List ℕ → ℕ
rows_by_kind kind ss = if_else (declared_at kind) (block_at (kind / 16)) (listed_at (kind / 16) + rows_by_sorts ss)

-- the row of its declaration
abbrev pub declaration_rows : ℕ → ℕ
declaration_rows kind = if_else (declared_at kind) 1 0

-- kind and sorts tell the rows of a line of the grammar
abbrev pub KindRows : Type 0
KindRows = (e : Expect) (x : OutlineLine) (ts : List Token) → line_spelt ts ≡ some x
    → (rows_by_kind (kind_number e (class_of x)) (map token_sort ts) ≡ own_rows e x) × (declaration_rows (kind_number e (class_of x)) ≡ if_else (is_declaration x) 1 0)
