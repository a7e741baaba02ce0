-- What a field does to sizes and numbers: it holds as many rows as the row that it refers to, and gives that row its number.
use Rattle.std.specs.Prelude.{Bool, List, ℕ, ℤ, get_or, set}
use Rattle.meaning.specs.Basics.{if_else}
use Rattle.meaning.specs.Rows.{natural_of}

-- the size of what a field holds, if it refers to a row; −1 refers past every list
abbrev pub held_in : List ℕ → Bool → ℤ → ℕ
held_in sizes refers z = if_else refers (get_or sizes (natural_of z) 0) 0

-- numbers, with v for the row that a field refers to
abbrev pub placed_in : List ℕ → Bool → ℤ → ℕ → List ℕ
placed_in numbers refers z v = if_else refers (set numbers (natural_of z) v) numbers
