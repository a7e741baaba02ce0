-- Of an accepted table, in a state of an order: the ready steps are the steps of the rows in row order, how many there are, and of which row each is.
use mathlib.Core.Path.{◌≡◌, ap, ◌∙◌}
use mathlib.Core.Option.{Option, none, some}
use mathlib.Core.List.{List, map, flatten}
use Prim.Native.Nat.{ℕ, ◌<◌}
use lib.IntN.{ℤ}
use lib.ListN.{length, get_or}
use Rattle.meaning.specs.Rows.{row_count}
use Rattle.meaning.specs.Usage.{numbers_from}
use Rattle.meaning.specs.State.{State, program}
use Rattle.meaning.specs.Labels.{Label}
use Rattle.meaning.specs.Readings.{Sheet}
use Rattle.meaning.specs.Ready.{ready}
use Rattle.meaning.specs.Order.{OrderOf}
use Rattle.meaning.specs.Answers.{check}
use Rattle.meaning.proofs.AnswerLaws.{accepted}
use Rattle.agreement.proofs.Steps.{offers-rise}
use Rattle.agreement.proofs.Separate.{table-inv}
use Rattle.agreement.proofs.TableFit.{fit}
use Rattle.agreement.proofs.TableOptions.{option-rows, one-alt-row}
use Rattle.machine.specs.RowSteps.{list_of, step_at, steps_by_row, step_rows}
use Rattle.machine.proofs.RowReady.{ready-by-row}
use Rattle.machine.proofs.StepRows.{count-steps, step-of-row}

module _ (rows : List ℤ) (ok : check rows ≡ none) (sheet : Sheet) (l : List Label) (s : State) (o : OrderOf rows sheet l s) where
  abbrev step : ℕ → Option Label
  step = step_at (program rows) sheet s

  -- a state for each row
  pub states-length : length s.states ≡ row_count rows
  states-length = (table-inv rows sheet (fit rows ok) l s o).size

  -- the ready steps are the steps of the rows, in row order
  pub ready-is : ready (program rows) sheet s ≡ flatten (map (λ j. list_of (step_at (program rows) sheet s j)) (numbers_from 0 (row_count rows)))
  unfolding steps_by_row
  ready-is =
      ready-by-row (program rows) (row_count rows) (fit rows ok) sheet s (table-inv rows sheet (fit rows ok) l s o) (option-rows rows ok) (one-alt-row rows ((accepted rows).0 ok)) (offers-rise rows sheet s)
      ∙ ap (λ (n : ℕ). flatten (map (λ j. list_of (step j)) (numbers_from 0 n))) states-length

  -- there are as many ready steps as rows that order one
  pub ready-count : length (ready (program rows) sheet s) ≡ length (step_rows (program rows) sheet s (row_count rows))
  unfolding step_rows
  ready-count = ap (λ (m : List Label). length m) ready-is ∙ count-steps step (row_count rows)

  -- the k-th ready step is that of the k-th such row
  pub ready-of-row : (k : ℕ) (d : Label) → k < length (step_rows (program rows) sheet s (row_count rows))
      → step_at (program rows) sheet s (get_or (step_rows (program rows) sheet s (row_count rows)) k 0) ≡ some (get_or (ready (program rows) sheet s) k d)
  unfolding step_rows
  ready-of-row k d h = rw ready-is (step-of-row step (row_count rows) k d h)
