-- The claims of demands 2 and 3 as the proofs go by them, for any meaning of accepted. `Statements` words them for accepted tables.
use mathlib.Core.Path.{◌≡◌}
use mathlib.Core.Logic.{◌≢◌, ◌⊎◌, ◌↔◌}
use mathlib.Core.List.{List, Memᴰ}
use Prim.Native.Nat.{ℕ, ◌<◌, ◌≤◌}
use lib.IntN.{ℤ}
use lib.ListN.{length}
use Rattle.meaning.specs.declared.Outcome.TheVariants.{Spent}
use Rattle.meaning.specs.Rows.{row_count, kind_at}
use Rattle.meaning.specs.State.{State, program}
use Rattle.meaning.specs.Labels.{Label, order_row}
use Rattle.meaning.specs.Readings.{Sheet}
use Rattle.meaning.specs.Ready.{ready, after}
use Rattle.meaning.specs.Step.{Step}
use Rattle.meaning.specs.Run.{RunResult, run}
use Rattle.meaning.specs.Order.{OrderOf, ChosenOf, RestOf, outcome_of}

module _ (Accepted : List ℤ → Sheet → Type 0) where
  -- a step is in the list of ready steps exactly if a rule allows it; the state that it leaves is one
  abbrev pub ReadySteps : Type 0
  ReadySteps = (rows : List ℤ) (sheet : Sheet) (l : List Label) (s : State) → Accepted rows sheet → OrderOf rows sheet l s
      → (x : Label) → (Memᴰ x (ready (program rows) sheet s) ↔ ((t : State) × Step (program rows) sheet s x t))
      × ((t : State) → Step (program rows) sheet s x t → t ≡ after (program rows) sheet x s)

  -- no two ready steps have one row
  abbrev pub RowsDiffer : Type 0
  RowsDiffer = (rows : List ℤ) (sheet : Sheet) (l : List Label) (s : State) → Accepted rows sheet → OrderOf rows sheet l s
      → (x y : Label) → Memᴰ x (ready (program rows) sheet s) → Memᴰ y (ready (program rows) sheet s) → order_row x ≡ order_row y → x ≡ y

  -- how a run ends: at rest, with the outcome of rest and no step ready; or spent, with the budget used and a step left
  abbrev pub Finish : List ℤ → Sheet → ℕ → RunResult → Type 0
  Finish rows sheet budget r =
      (RestOf rows sheet r.state × (r.outcome ≡ outcome_of rows r.state) × (r.ready ≡ 0))
      ⊎ ((r.steps ≡ budget) × (r.outcome ≡ Spent) × (0 < r.ready) × ((x : Label) × ((t : State) × Step (program rows) sheet r.state x t)))

  -- "A run takes the order that its choices pick, up to rest or its budget, and the steps it reports are the length of that order"
  abbrev pub Runs : Type 0
  Runs = (rows : List ℤ) (sheet : Sheet) (choices : List ℕ) (budget : ℕ) → Accepted rows sheet
      → let r = run rows sheet choices budget in
      (l : List Label) × OrderOf rows sheet l r.state × ChosenOf rows sheet choices l r.state
      × (length l ≡ r.steps) × (r.steps ≤ budget) × Finish rows sheet budget r × (r.ready ≡ length (ready (program rows) sheet r.state))

  -- "Every step so allowed can be chosen": every order is some run's
  abbrev pub Choosable : Type 0
  Choosable = (rows : List ℤ) (sheet : Sheet) (l : List Label) (s : State) → Accepted rows sheet → OrderOf rows sheet l s
      → (choices : List ℕ) × ((c : ℕ) → Memᴰ c choices → c < 65536) × ChosenOf rows sheet choices l s
      × ((run rows sheet choices (length l)).state ≡ s) × ((run rows sheet choices (length l)).steps ≡ length l)

  -- "without ALT"
  abbrev pub WithoutAlt : List ℤ → Type 0
  WithoutAlt rows = (r : ℕ) → r < row_count rows → kind_at rows r ≢ 34

  -- demand 3: one order at rest after n steps; then no order is longer, each at rest has n steps and the same end, and each run with budget n or more answers that, and with less is spent
  abbrev pub Agreement : Type 0
  Agreement = (rows : List ℤ) (sheet : Sheet) → Accepted rows sheet → WithoutAlt rows
      → (l : List Label) (s : State) → OrderOf rows sheet l s → RestOf rows sheet s
      → ((k : List Label) (t : State) → OrderOf rows sheet k t → (length k ≤ length l) × (RestOf rows sheet t → (length k ≡ length l) × (t ≡ s)))
      × ((choices : List ℕ) (budget : ℕ)
      → (length l ≤ budget → run rows sheet choices budget ≡ record { outcome = outcome_of rows s; steps = length l; ready = 0; state = s })
      × (budget < length l → ((run rows sheet choices budget).outcome ≡ Spent) × ((run rows sheet choices budget).steps ≡ budget) × (0 < (run rows sheet choices budget).ready)))
