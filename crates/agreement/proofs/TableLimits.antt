-- An accepted table is within the limits: its rows, cells, host channels and capacities.
use mathlib.Core.Path.{◌≡◌}
use mathlib.Core.Option.{none}
use mathlib.Core.List.{List}
use Prim.Native.Nat.{ℕ, zero, suc, ◌<◌, ◌≤◌}
use native.Mathlib.Omega.{arith}
use lib.IntN.{ℤ}
use Rattle.meaning.specs.Limits.{max_rows, max_cells, max_host_channels, max_capacity}
use Rattle.meaning.specs.Rows.{row_count}
use Rattle.meaning.specs.Declarations.{declarations, sum_below, cells_at, host_channels_at, capacity_at, total_cells, host_channels}
use Rattle.meaning.specs.Faults.{WithinLimits}
use Rattle.meaning.specs.Answers.{check}
use Rattle.agreement.proofs.VerdictExact.{verdict-exact}

pub record Limited (rows : List ℤ) : Type 0 where
  pub states : row_count rows ≤ max_rows
  pub cells : total_cells rows ≤ max_cells
  pub places : host_channels 1 rows ≤ max_host_channels
  pub outputs : host_channels 2 rows ≤ max_host_channels
  pub numbers : sum_below (capacity_at rows) (declarations rows) ≤ max_capacity

-- a bound of each sum up to a row is one of the whole sum
whole_sum : (f : ℕ → ℕ) (limit n : ℕ) → ((r : ℕ) → r < n → sum_below f (suc r) ≤ limit) → sum_below f n ≤ limit
unfolding sum_below
whole_sum f limit zero h = omega arith
whole_sum f limit (suc n) h = h n (omega arith)

pub limited : (rows : List ℤ) → check rows ≡ none → Limited rows
unfolding WithinLimits total_cells host_channels
limited rows ok =
    let (whole, _, _, each, _, _) = (verdict-exact rows).0 ok in
    record {
      states = whole.1;
      cells = whole_sum (cells_at rows) max_cells (declarations rows) (λ r h. (each r h).0);
      places = whole_sum (host_channels_at 1 rows) max_host_channels (declarations rows) (λ r h. (each r h).2);
      outputs = whole_sum (host_channels_at 2 rows) max_host_channels (declarations rows) (λ r h. (each r h).3);
      numbers = whole_sum (capacity_at rows) max_capacity (declarations rows) (λ r h. (each r h).4);
    }
