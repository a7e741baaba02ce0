-- What is claimed of the tree of an accepted table: its rows are the table's process rows, but for those of guards. So what is said of the rows beneath a process is said of the table's rows.
use Rattle.std.specs.Prelude.{◌≡◌, ◌⊎◌, ◌↔◌, ℕ, ◌<◌, ℤ, get_or}
use Rattle.std.proofs.Math.Option.{none}
use mathlib.Core.List.{List, [], ◌∷◌, Memᴰ}
use Rattle.meaning.specs.Rows.{row_count, kind_at}
use Rattle.meaning.specs.Kinds.{processes}
use Rattle.meaning.specs.References.{of-b, of_c, Refers, Beneath}
use Rattle.meaning.specs.Tree.{processes_in, rows_in, rows_beneath}
use Rattle.meaning.specs.State.{State, program, process_at, whole}
use Rattle.meaning.specs.Labels.{Label}
use Rattle.meaning.specs.Readings.{Sheet}
use Rattle.meaning.specs.Order.{OrderOf}
use Rattle.meaning.specs.Answers.{check}
use Rattle.agreement.specs.Coherence.{AllIdle}

-- no number stands in the list twice
pub data EachOnce : List ℕ → Type 0 where
  once-none : EachOnce []
  once_more : {x : ℕ} {l : List ℕ} → ¬ Memᴰ x l → EachOnce l → EachOnce (x ∷ l)

module _ (rows : List ℤ) where
  -- "a process one of kind 20 to 34"; "Kind 35 is a block, a process"
  abbrev pub IsProcess : ℕ → Type 0
  IsProcess r = Memᴰ (kind_at rows r) processes

  -- "The rows of guards": what an option refers to as its guard, and what a guard refers to as its input or SKIP
  pub data OfGuard (b : ℕ) : Type 0 where
    of-option : (q : ℕ) → kind_at rows q ≡ 42 → Refers rows q of_c b → OfGuard b
    of_guard : (q : ℕ) → kind_at rows q ≡ 43 → Refers rows q of-b b → OfGuard b

-- the rows beneath the process at row r, in the tree, are the process rows beneath row r that are not of guards
abbrev pub BeneathInTree : Type 0
BeneathInTree = (rows : List ℤ) → check rows ≡ none → (r : ℕ) → r < row_count rows → IsProcess rows r → (b : ℕ)
    → Memᴰ b (rows_beneath (processes_in (process_at (program rows) r))) ↔ (Beneath rows r b × IsProcess rows b × (¬ OfGuard rows b))

-- the rows of the whole tree are the table's process rows that are not of guards
abbrev pub RowsOfTree : Type 0
RowsOfTree = (rows : List ℤ) → check rows ≡ none → (b : ℕ)
    → Memᴰ b (rows_in (whole (program rows))) ↔ ((b < row_count rows) × IsProcess rows b × (¬ OfGuard rows b))

-- and each is in it once
abbrev pub RowsOnce : Type 0
RowsOnce = (rows : List ℤ) → check rows ≡ none → EachOnce (rows_in (whole (program rows)))

-- "other rows are 0", "The rows of guards stay 0"
abbrev pub OtherRowsIdle : Type 0
OtherRowsIdle = (rows : List ℤ) → check rows ≡ none → (sheet : Sheet) (l : List Label) (s : State) → OrderOf rows sheet l s
    → (x : ℕ) → (¬ IsProcess rows x) ⊎ OfGuard rows x → get_or s.states x 0 ≡ 0

-- "every row beneath it is idle": of the rows in the tree, and so of all rows of the table beneath row r
abbrev pub BeneathIdle : Type 0
BeneathIdle = (rows : List ℤ) → check rows ≡ none → (sheet : Sheet) (l : List Label) (s : State) → OrderOf rows sheet l s
    → (r : ℕ) → r < row_count rows → IsProcess rows r
    → AllIdle s.states (rows_beneath (processes_in (process_at (program rows) r))) ↔ ((b : ℕ) → Beneath rows r b → get_or s.states b 0 ≡ 0)
