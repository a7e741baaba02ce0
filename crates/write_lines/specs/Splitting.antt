-- Where standard input is split: the table's bytes end, and the sheet's begin.
use Rattle.std.specs.Prelude.{◌≡◌, List, ℕ, ◌-◌, ◌≤◌, length, take, drop}
use Rattle.meaning.specs.Lines.{lines}
use Rattle.meaning.specs.Runner.{table_part, sheet_part}
use Rattle.write_lines.specs.declared.Parts.{Parts}

-- where the table's bytes end, and the sheet's begin
unfoldable pub parts_of : List ℕ → Parts
parts_of input = record { end = length (table_part (lines input)); start = length input - length (sheet_part (lines input)) }

-- what these places mean: the table is what comes before one place, the sheet what comes from the other on; both are places of the input
pub record Splits (input : List ℕ) (p : Parts) : Type 0 where
  pub table : take p.end input ≡ table_part (lines input)
  pub sheet : drop p.start input ≡ sheet_part (lines input)
  pub table-inside : p.end ≤ length input
  pub sheet-inside : p.start ≤ length input
