-- What the arrays hold of a store.
use Rattle.std.specs.Prelude.{◌≡◌, List, [], ℕ, ℤ, length, get_or}
use Rattle.std.proofs.Math.Option.{none}
use Rattle.meaning.specs.State.{Store}
use Rattle.run_values.specs.Cells.{cells_in}

-- the arrays hold a store, but for what the output lists contain: its cells, places, and the lengths of its output lists
pub record Held (x : Store) (values : List ℤ) (marks : List ℕ) (places_held : List ℕ) (counts_held : List ℕ) : Type 0 where
  pub cells : (i : ℕ) → get_or x.cells i none ≡ get_or (cells_in values marks) i none
  pub places : (p : ℕ) → get_or x.places p 0 ≡ get_or places_held p 0
  pub counts : (p : ℕ) → length (get_or x.outputs p []) ≡ get_or counts_held p 0
