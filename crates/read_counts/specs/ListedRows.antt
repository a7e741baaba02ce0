-- How many rows listed lines make: each line by its kind and the sorts of its tokens.
use Rattle.std.specs.Prelude.{List, [], ◌∷◌, ℕ, zero, suc, ◌+◌, ◌≤◌, ◌<◌, length, get_or}
use Rattle.read_levels.specs.Listing.{start_of, sorts_on}
use Rattle.read_counts.specs.TokenRows.{rows_by_kind, declaration_rows}

-- so many lines are listed, their tokens one after the other
pub record Spans (count : ℕ) (kinds ends sorts : List ℕ) : Type 0 where
  pub kinds-long : count ≤ length kinds
  pub ends-long : count ≤ length ends
  pub few : count ≤ 32768
  pub short : length sorts ≤ 32768
  pub span : (j : ℕ) → j < count → (start_of ends j ≤ get_or ends j 0) × (get_or ends j 0 ≤ length sorts)

module _ (kinds ends sorts : List ℕ) where
  -- the rows that line j itself makes
  abbrev pub own_on : ℕ → ℕ
  own_on j = rows_by_kind (get_or kinds j 0) (sorts_on ends sorts j)

  -- the same with the row of its declaration
  abbrev pub rows_on : ℕ → ℕ
  rows_on j = declaration_rows (get_or kinds j 0) + own_on j

-- a number of each of so many lines from line j on, and their sum
unfoldable pub each_line : (ℕ → ℕ) → ℕ → ℕ → List ℕ
each_line f zero j = []
each_line f (suc n) j = f j ∷ each_line f n (suc j)

unfoldable pub all_lines : (ℕ → ℕ) → ℕ → ℕ → ℕ
all_lines f zero j = 0
all_lines f (suc n) j = let rest = all_lines f n (suc j) in f j + rest

-- the rows that each line itself makes
unfoldable pub owns_listed : ℕ → List ℕ → List ℕ → List ℕ → List ℕ
owns_listed count kinds ends sorts = each_line (own_on kinds ends sorts) count 0

-- the rows of all lines, with those of declarations
unfoldable pub rows_listed : ℕ → List ℕ → List ℕ → List ℕ → ℕ
rows_listed count kinds ends sorts = all_lines (rows_on kinds ends sorts) count 0
