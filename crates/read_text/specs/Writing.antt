-- The rows of a text whose lines are listed with their names resolved, in lent rows.
use Rattle.std.specs.Prelude.{◌≡◌, List, ℕ, ℤ}
use Rattle.grammar.specs.TextRows.{text_rows}
use Rattle.read_levels.specs.Listing.{Listing}
use Rattle.read_processes.specs.Written.{Ready}
use Rattle.read_text.specs.Reading.{rows_in}

-- lent rows hold the rows of any text that is so listed
abbrev pub TextWritten : ℕ → ℕ → List ℕ → Listing → List ℤ → List ℤ → Type 0
TextWritten declared count levels g old new = (text : List ℕ) → Ready text declared count levels g → new ≡ rows_in (text_rows text) old
