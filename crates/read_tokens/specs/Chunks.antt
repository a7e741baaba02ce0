-- How many bytes at the beginning hang together.
use Rattle.std.specs.Prelude.{List, [], ◌∷◌, ℕ, suc}
use Rattle.meaning.specs.Basics.{if_else}
use Rattle.grammar.specs.Tokens.{hang}

-- how many bytes at the beginning hang together
unfoldable pub chunk_size : List ℕ → ℕ
chunk_size [] = 0
chunk_size (b ∷ []) = 1
chunk_size (b ∷ c ∷ cs) = let more = suc (chunk_size (c ∷ cs)) in if_else (hang b c) more 1
