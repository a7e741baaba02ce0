-- Steps by name: whose step it is, and the row by which ready steps are ordered.
use Rattle.std.specs.Prelude.{List, [], ◌∷◌, ℕ, suc, ◌≤◌}

-- a step: of a row by itself; of an input and an output; of an ALT and its option, without and with an output
pub data Label : Type 0 where
  own : ℕ → Label
  pass : ℕ → ℕ → Label
  take_option : ℕ → ℕ → Label
  take_with_output : ℕ → ℕ → ℕ → Label
  deriving Discrete as label-discrete

-- "Ready steps are ordered by row": the row itself; the input of a communication; the option for an ALT
abbrev pub order_row : Label → ℕ
order_row (own r) = r
order_row (pass i o) = i
order_row (take_option r j) = j
order_row (take_with_output r j o) = j

-- each number is above the one before it
abbrev pub Ascending : ℕ → List ℕ → Type 0
Ascending from [] = Unit {0}
Ascending from (n ∷ l) = (from ≤ n) × Ascending (suc n) l
