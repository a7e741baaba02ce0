-- The sums that 6 holds to the limits, together.
use Rattle.std.specs.Prelude.{Bool, ◌||◌, List, ℕ, ℤ, ltb}
use Rattle.meaning.specs.Limits.{max_cells, max_elements, max_host_channels, max_capacity}
use Rattle.meaning.specs.Declarations.{sum_below, cells_at, elements_at, host_channels_at, capacity_at}
use Rattle.base_rows.specs.declared.limits.Sums.{Sums}

-- what the rows below r declare
abbrev pub limit_sums : List ℤ → ℕ → Sums
limit_sums rows r = record {
  cells = sum_below (cells_at rows) r;
  elements = sum_below (elements_at rows) r;
  sources = sum_below (host_channels_at 1 rows) r;
  sinks = sum_below (host_channels_at 2 rows) r;
  capacity = sum_below (capacity_at rows) r;
}

-- whether one of them passes its limit
abbrev pub sums_over : Sums → Bool
sums_over s =
    ltb max_cells s.cells
    || ltb max_elements s.elements
    || ltb max_host_channels s.sources
    || ltb max_host_channels s.sinks
    || ltb max_capacity s.capacity
