-- The next token of a line from a place on.
use Rattle.std.specs.Prelude.{List, [], ◌∷◌, ℕ, suc, ◌+◌, ◌-◌, length, take, drop, eqb, ltb, Some, None}
use Rattle.std.proofs.Math.Option.{Option, none, some}
use Rattle.meaning.specs.Basics.{if_else}
use Rattle.grammar.specs.Grammar.{Token}
use Rattle.grammar.specs.Scan.{space}
use Rattle.grammar.specs.Tokens.{token_of}
use Rattle.read_tokens.specs.Lexemes.{token_lexeme}
use Rattle.read_tokens.specs.Chunks.{chunk_size}
use Rattle.read_scan.specs.declared.Next.{Next}

-- how many spaces stand first
unfoldable pub blanks : List ℕ → ℕ
blanks [] = 0
blanks (b ∷ bs) = let more = suc (blanks bs) in if_else (eqb b space) more 0

-- the chunk at a place
abbrev pub chunk_in : List ℕ → ℕ → List ℕ
chunk_in line from = take (chunk_size (drop from line)) (drop from line)

-- a token from a place to a place; no token ends where it begins
abbrev pub standing : Option Token → ℕ → ℕ → Next
standing none from to = record { token = None; from = from; to = from }
standing (some t) from to = record { token = Some (token_lexeme t); from = from; to = to }

-- the token of the chunk at a place
abbrev pub next_from : List ℕ → ℕ → Next
next_from line from = standing (token_of (chunk_in line from)) from (from + chunk_size (drop from line))

-- the next token of a line from a place on; none at the line's end
unfoldable pub next_in : List ℕ → ℕ → Next
next_in line at = next_from line (at + blanks (drop at line))

-- up to where a token that begins at a place is looked for: 32 bytes are no token
abbrev pub reach_from : List ℕ → ℕ → ℕ
reach_from line from = if_else (ltb (length line - from) 32) (length line) (from + 32)
