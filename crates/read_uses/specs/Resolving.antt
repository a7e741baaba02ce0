-- The names of a line resolved: the row that each means, in place of where it stands.
use Rattle.std.specs.Prelude.{◌≡◌, Bool, false, List, map, ℕ, ◌≤◌, ℤ, length}
use Rattle.std.proofs.Math.Option.{Option, none, some}
use Rattle.grammar.specs.Grammar.{Token}
use Rattle.grammar.specs.TextRows.{declarations, text_lines}
use Rattle.read_tokens.specs.Held.{row_limit, tokens_held, tokens_resolved}
use Rattle.read_names.specs.Listed.{names_at}
use Rattle.read_names.specs.Keys.{Indexed}
use Rattle.read_resolved.specs.Resolved.{resolved_token, declared_names}
use Rattle.read_declared.specs.Declarations.{Declared}
use Rattle.read_uses.specs.Misuses.{tokens_misnamed}

-- a token with the row in place of a name
abbrev pub resolved_chunk : List (List ℕ) → Option Token → Option Token
resolved_chunk names none = none
resolved_chunk names (some t) = some (resolved_token names t)

-- the declarations of a text are listed and indexed, no more than rows that a name can mean
abbrev pub NamesKnown : List ℕ → List ℕ → List ℕ → List ℕ → List ℕ → List ℕ → Type 0
NamesKnown text froms sizes roles heads nexts =
    Declared text froms sizes roles × Indexed (names_at text froms sizes) heads nexts × (length (declarations (text_lines text)) ≤ row_limit)

-- the tokens of a line are listed, their names by where they stand
abbrev pub LineHeld : List ℕ → List ℕ → List ℤ → Type 0
LineHeld text ss vs = (length ss ≡ length vs) × ((ts : List Token) × (tokens_held text ss vs ≡ map some ts))

-- whether names are not in order on a line; if they are, they are resolved
pub record LineChecked (text : List ℕ) (declares : Bool) (seen : ℕ) (ss : List ℕ) (vs : List ℤ) (fault : Bool) (ws : List ℤ) : Type 0 where
  pub same_length : length ws ≡ length vs
  pub told : fault ≡ tokens_misnamed (declarations (text_lines text)) declares seen (tokens_held text ss vs)
  pub resolved : fault ≡ false → tokens_resolved ss ws ≡ map (resolved_chunk (declared_names text)) (tokens_held text ss vs)
