-- The rows that have come to work and the blocks that have started, read off their lists.
use mathlib.Core.List.{List, [], ◌∷◌, ◌++◌, Memᴰ}
use Rattle.std.specs.Prelude.{ℕ, zero, suc, ◌+◌, get_or}
use Rattle.meaning.specs.Declarations.{Variable}
use Rattle.meaning.specs.Tree.{action_of}
use Rattle.meaning.specs.Settle.{local_of}
use Rattle.meaning.specs.State.{Program, process_at}

-- the first n rows of the list that begins, with their number, at a place
abbrev pub first_rows : ℕ → ℕ → List ℕ → List ℕ
first_rows from zero l = []
first_rows from (suc n) l = first_rows from n l ++ get_or l (suc (from + n)) 0 ∷ []

-- all of them
abbrev pub rows_from : ℕ → List ℕ → List ℕ
rows_from from l = first_rows from (get_or l from 0) l

-- the rows that have come to work
abbrev pub listed_rows : List ℕ → List ℕ
listed_rows l = rows_from 0 l

-- the blocks that have started
abbrev pub listed_blocks : List ℕ → List ℕ
listed_blocks l = rows_from 2049 l

-- the variables of blocks, by their rows
abbrev pub local_at : Program → List ℕ → List Variable
local_at P [] = []
local_at P (r ∷ rs) = local_of (action_of (process_at P r)) ++ local_at P rs

-- no row stands twice in a list
abbrev pub Distinct : List ℕ → Type 0
Distinct [] = Unit {0}
Distinct (x ∷ l) = (Memᴰ x l → ⊥) × Distinct l
