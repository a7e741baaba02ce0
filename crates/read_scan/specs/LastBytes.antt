-- The last byte of a token.
use Rattle.std.specs.Prelude.{◌≡◌, Bool, List, [], ◌∷◌, ℕ}
use Rattle.std.proofs.Math.Option.{some}
use Rattle.grammar.specs.Grammar.{Token}
use Rattle.grammar.specs.Tokens.{is_word_byte, token_of, is_wordlike}

-- the last byte
unfoldable pub last_of : List ℕ → ℕ
last_of [] = 0
last_of (b ∷ []) = b
last_of (b ∷ c ∷ cs) = last_of (c ∷ cs)

-- whether bytes end like a word or number
abbrev pub ends_like_word : List ℕ → Bool
ends_like_word s = is_word_byte (last_of s)

-- a token is a word or number exactly if its last byte is a letter, a digit or `_`
abbrev pub LastTells : Type 0
LastTells = (s : List ℕ) (t : Token) → token_of s ≡ some t → is_wordlike t ≡ ends_like_word s
