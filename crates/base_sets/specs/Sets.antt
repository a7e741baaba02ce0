-- Bit sets in words of 64 bits, four words for each of four sorts: with one number more, with all of a list, with all of another; and whether two have a number in common.
use Rattle.std.specs.Prelude.{Bool, not, ◌||◌, List, [], ◌∷◌, map, ℕ, ◌+◌, ◌*◌, ◌/◌, ◌%◌, ◌^◌, get_or, set, take, drop, replicate, ltb, eqb}
use Rattle.std.specs.Int.Bits.{bit_and, bit_or}
use Rattle.meaning.specs.Basics.{if_else}

-- numbers of a sort, each told apart from the numbers of other sorts
abbrev pub in_sort : ℕ → List ℕ → List ℕ
in_sort sort l = map (λ x. 4 * x + sort) l

-- number x of a sort put in; past 255 there is nothing to put
unfoldable pub with_one : List ℕ → ℕ → ℕ → List ℕ
with_one ws sort x = if_else (ltb x 256) (set ws (4 * sort + x / 64) (bit_or (get_or ws (4 * sort + x / 64) 0) (2 ^ (x % 64)))) ws

-- numbers of several sorts put in
unfoldable pub with_all : List ℕ → List ℕ → List ℕ
with_all ws [] = ws
with_all ws (n ∷ l) = with_all (with_one ws (n % 4) (n / 4)) l

-- what two sets hold
unfoldable pub set_union : List ℕ → List ℕ → List ℕ
set_union [] ws = []
set_union (v ∷ vs) [] = v ∷ vs
set_union (v ∷ vs) (w ∷ ws) = bit_or v w ∷ set_union vs ws

-- the sets of row k among those of all rows: sixteen words, from 16 k on
abbrev pub sets_at : List ℕ → ℕ → List ℕ
sets_at ws k = take 16 (drop (16 * k) ws)

-- have two words a bit in common
abbrev pub share : ℕ → ℕ → Bool
share a b = not (eqb (bit_and a b) 0)

-- have four words of one, from i on, and four of another, from j on, a bit in common
unfoldable pub in_common : List ℕ → ℕ → List ℕ → ℕ → Bool
in_common vs i ws j =
    share (get_or vs i 0) (get_or ws j 0)
    || (share (get_or vs (i + 1) 0) (get_or ws (j + 1) 0)
    || (share (get_or vs (i + 2) 0) (get_or ws (j + 2) 0)
    || share (get_or vs (i + 3) 0) (get_or ws (j + 3) 0)))

-- sets that hold nothing
abbrev pub no_numbers : List ℕ
no_numbers = replicate 16 0
