-- Accepted tables and sheets, of which the demands speak.
use Rattle.std.specs.Prelude.{◌≡◌, List, ℕ, ℤ}
use Rattle.std.proofs.Math.Option.{none}
use Rattle.meaning.specs.Readings.{Sheet}
use Rattle.meaning.specs.Sheet.{sheet_fault, readings}
use Rattle.meaning.specs.Answers.{check}

-- "A table is accepted if these rules refuse nothing in it, and so is a sheet beside an accepted table"
abbrev pub BothAccepted : List ℤ → Sheet → Type 0
BothAccepted rows sheet = (check rows ≡ none) × ((bytes : List ℕ) × ((sheet_fault rows bytes ≡ none) × (readings rows bytes ≡ sheet)))
