-- The first token of a sort among listed ones.
use Rattle.std.specs.Prelude.{◌≡◌, List, [], ◌∷◌, ℕ, suc, ◌<◌, ℤ, pos, length, get_or, eqb, ltb}
use Rattle.meaning.specs.Basics.{if_else}
use Rattle.meaning.specs.Rows.{natural_of}
use Rattle.read_tokens.specs.Sorts as sorts

-- the place of the first token of a sort, the length if there is none
unfoldable pub place_of_sort : ℕ → List ℕ → ℕ
place_of_sort s [] = 0
place_of_sort s (t ∷ ts) = let later = suc (place_of_sort s ts) in if_else (eqb t s) 0 later

-- the first number, 1 if there is none
unfoldable pub number_in : List ℕ → List ℤ → ℤ
number_in ss vs = let at = place_of_sort sorts.number ss in if_else (ltb at (length ss)) (get_or vs at (pos 0)) (pos 1)

-- what is listed of the first name
abbrev pub name_in : List ℕ → List ℤ → ℕ
name_in ss vs = natural_of (get_or vs (place_of_sort sorts.name ss) (pos 0))

-- there is a name, listed by a number that is not negative
abbrev pub Named : List ℕ → List ℤ → Type 0
Named ss vs = (place_of_sort sorts.name ss < length vs) × (get_or vs (place_of_sort sorts.name ss) (pos 0) ≡ pos (name_in ss vs))
