-- What stands at each row, from what stands at rows of higher number ("So an expression's value follows from rows of higher number only").
use Rattle.std.specs.Prelude.{List, [], ◌∷◌, ℕ, zero, suc, ◌-◌, get_or, ltb}
use Rattle.meaning.specs.Basics.{if_else}

-- What stands at each of n rows: by `step`, from what stands at higher rows; d where there is no higher row.
module _ {E : Type 0} (d : E) (step : ℕ → (ℕ → E) → E) (n : ℕ) where
  -- what stands at row b, in a list of the rows after r; d where b is none of them
  abbrev pub higher : List E → ℕ → ℕ → E
  higher l r b = if_else (ltb r b) (get_or l (b - suc r) d) d

  -- what stands at the last k rows
  unfoldable pub last_rows : ℕ → List E
  last_rows zero = []
  last_rows (suc k) = let l = last_rows k in step (n - suc k) (higher l (n - suc k)) ∷ l

  -- what stands at row r
  unfoldable pub at_row : ℕ → E
  at_row r = get_or (last_rows n) r d
