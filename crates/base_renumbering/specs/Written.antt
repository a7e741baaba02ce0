-- What is written for a row.
use Rattle.std.specs.Prelude.{Bool, ◌&&◌, List, ℕ, ◌+◌, ℤ, pos, ltb, length, get_or, set}
use Rattle.meaning.specs.Basics.{if_else}
use Rattle.meaning.specs.Rows.{natural_of}

-- what is written for a field: the number of the row that it refers to, and any other number as it is
abbrev pub renumbered_in : List ℕ → Bool → ℤ → ℤ
renumbered_in numbers refers z = if_else (refers && ltb (natural_of z) (length numbers)) (pos (get_or numbers (natural_of z) 0)) z

-- four numbers from place p on
abbrev pub set_four : List ℤ → ℕ → ℤ → ℤ → ℤ → ℤ → List ℤ
set_four l p k a b c = set (set (set (set l p k) (p + 1) a) (p + 2) b) (p + 3) c
