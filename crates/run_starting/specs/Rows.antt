-- A list of rows with its count before it, as the definitions have it.
use Rattle.std.specs.Prelude.{List, ◌∷◌, ℕ}
use Rattle.run_starting.specs.declared.rows.RowList.{RowList}

abbrev pub numbers_of : RowList → List ℕ
numbers_of l = l.count ∷ l.rows
