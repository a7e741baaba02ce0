-- The lines of some bytes are the first line and the lines of what is after it.
use mathlib.Core.Path.{◌≡◌, refl, ap}
use mathlib.Core.Bool.{Bool, true, false}
use mathlib.Core.List.{List, [], ◌∷◌}
use Prim.Native.Nat.{ℕ, suc}
use lib.ListN.{take, drop}
use lib.Dec.{eqb}
use Rattle.meaning.specs.Basics.{if_else}
use Rattle.meaning.specs.Texts.{line_feed}
use Rattle.meaning.specs.Lines.{onto, lines, line_size}

-- the first line of some bytes, and the lines of what is after it
pub lines-first : (b : ℕ) (bs : List ℕ) → lines (b ∷ bs) ≡ take (line_size (b ∷ bs)) (b ∷ bs) ∷ lines (drop (line_size (b ∷ bs)) (b ∷ bs))
unfolding lines line_size
lines-first b [] = go (eqb b line_feed)
  where
    go : (t : Bool) → if_else t ((b ∷ []) ∷ []) ((b ∷ []) ∷ []) ≡ take (if_else t 1 1) (b ∷ []) ∷ lines (drop (if_else t 1 1) (b ∷ []))
    go true = refl
    go false = refl
lines-first b (c ∷ cs) = go (eqb b line_feed) (lines-first c cs)
  where
    go : (t : Bool) → lines (c ∷ cs) ≡ take (line_size (c ∷ cs)) (c ∷ cs) ∷ lines (drop (line_size (c ∷ cs)) (c ∷ cs))
        → if_else t ((b ∷ []) ∷ lines (c ∷ cs)) (onto b (lines (c ∷ cs))) ≡ take (if_else t 1 (suc (line_size (c ∷ cs)))) (b ∷ c ∷ cs) ∷ lines (drop (if_else t 1 (suc (line_size (c ∷ cs)))) (b ∷ c ∷ cs))
    go true h = refl
    go false h = ap (onto b) h
