-- The rows of the options of ALTs: what the order of ready steps uses of an accepted table, beside Fit.
use mathlib.Core.Path.{◌≡◌}
use mathlib.Core.List.{Memᴰ}
use Prim.Native.Nat.{ℕ}
use Rattle.meaning.specs.Tree.{Action, Processes, rows_in}
use Rattle.meaning.specs.State.{Program, whole}
pub use Rattle.agreement.specs.RowsOfSteps.{rows_of_options, option_rows}
use Rattle.agreement.proofs.Again.{Out}
use Rattle.agreement.proofs.Reach.{Sub}

pub record OptionRows (P : Program) : Type 0 where
  -- the row of an option is no row of a process of the whole
  pub no-process : (k : Action) (r : ℕ) (ms : Processes) → Sub k r ms (whole P) → (j : ℕ) → Memᴰ j (option_rows k) → Out j (rows_in (whole P))
  -- and stands in one ALT
  pub one-alt : (k : Action) (r : ℕ) (ms : Processes) (k' : Action) (r' : ℕ) (ms' : Processes) → Sub k r ms (whole P) → Sub k' r' ms' (whole P)
      → (j : ℕ) → Memᴰ j (option_rows k) → Memᴰ j (option_rows k') → r ≡ r'
