-- Chunks have bytes, and no more than there are; after the spaces no space is next.
use mathlib.Core.Path.{◌≡◌, refl}
use mathlib.Core.Bool.{Bool, true, false}
use mathlib.Core.List.{List, [], ◌∷◌}
use Prim.Native.Nat.{ℕ, suc, ◌≤◌, ◌<◌}
use native.Mathlib.Omega.{arith}
use lib.ListN.{length, drop}
use lib.Dec.{eqb}
use Rattle.meaning.specs.Basics.{if_else}
use Rattle.grammar.specs.Scan.{space}
use Rattle.grammar.specs.Tokens.{hang}
use Rattle.read_tokens.specs.Chunks.{chunk_size}
use Rattle.read_scan.specs.Nexts.{blanks}

-- Chunks ------------------------------------------------------------------------------------------------------------------------

-- at least one byte hangs together
pub chunk-wide : (b : ℕ) (bs : List ℕ) → 0 < chunk_size (b ∷ bs)
unfolding chunk_size
chunk-wide b [] = omega arith
chunk-wide b (c ∷ cs) = go (hang b c)
  where
    go : (t : Bool) → 0 < if_else t (suc (chunk_size (c ∷ cs))) 1
    go true = omega arith
    go false = omega arith

-- and no more than there are
pub chunk-within : (bs : List ℕ) → chunk_size bs ≤ length bs
unfolding chunk_size
chunk-within [] = omega arith
chunk-within (b ∷ []) = omega arith
chunk-within (b ∷ c ∷ cs) = go (hang b c) (chunk-within (c ∷ cs))
  where
    go : (t : Bool) → chunk_size (c ∷ cs) ≤ suc (length cs) → if_else t (suc (chunk_size (c ∷ cs))) 1 ≤ suc (suc (length cs))
    go true h = omega arith
    go false h = omega arith

-- Spaces ------------------------------------------------------------------------------------------------------------------------

-- no bytes, or such as begin with no space
pub data AfterBlanks : List ℕ → Type 0 where
  nothing : AfterBlanks []
  begun : (c : ℕ) (cs : List ℕ) → eqb c space ≡ false → AfterBlanks (c ∷ cs)

pub after-blanks : (bs : List ℕ) → AfterBlanks (drop (blanks bs) bs)
unfolding blanks
after-blanks [] = nothing
after-blanks (b ∷ bs) = go (eqb b space) refl (after-blanks bs)
  where
    go : (t : Bool) → eqb b space ≡ t → AfterBlanks (drop (blanks bs) bs) → AfterBlanks (drop (if_else t (suc (blanks bs)) 0) (b ∷ bs))
    go true q w = w
    go false q w = begun b bs q
