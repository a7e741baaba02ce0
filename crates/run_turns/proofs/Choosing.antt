-- The bits of a state of an order: their total is the number of ready steps, and the row that a choice picks orders the chosen step.
use mathlib.Core.Path.{◌≡◌, sym, ap, ◌∙◌}
use mathlib.Core.Option.{none, some}
use mathlib.Core.List.{List, ◌∷◌, []}
use Prim.Native.Nat.{ℕ, ◌%◌, ◌<◌}
use native.Mathlib.Nat.{mod-lt}
use native.Mathlib.Omega.{arith}
use lib.IntN.{ℤ}
use lib.ListN.{length, get_or}
use Rattle.meaning.specs.Basics.{is_some, all_below}
use Rattle.meaning.specs.Rows.{row_count}
use Rattle.meaning.specs.State.{State, program}
use Rattle.meaning.specs.Labels.{Label}
use Rattle.meaning.specs.Readings.{Sheet}
use Rattle.meaning.specs.Order.{OrderOf, chosen_step}
use Rattle.meaning.specs.Ready.{ready}
use Rattle.meaning.specs.Answers.{check}
use Rattle.machine.specs.RowSteps.{step_at, step_rows}
use Rattle.machine.proofs.RowTables.{ready-count, ready-of-row}
use Rattle.machine.proofs.StepRows.{any-default}
use Rattle.run_ready_bits.proofs.Agreeing.{below-same}
use Rattle.run_ready_bits.proofs.Splits.{each_below}
use Rattle.run_ready_bits.specs.Bits.{Shown}
use Rattle.run_ready_bits.proofs.Raises.{shown-total}
use Rattle.run_kept.specs.Kept.{ready_row}
use Rattle.run_kept.proofs.ReadyRows.{ready-told}

module _ (rows : List ℤ) (ok : check rows ≡ none) (sheet : Sheet) (l : List Label) (s : State) (o : OrderOf rows sheet l s) (bits : List ℕ) (S : Shown (ready_row (program rows) sheet s) (row_count rows) bits) where
  -- the rows that have a ready step are those that order one
  listed-are : all_below (ready_row (program rows) sheet s) (row_count rows) ≡ step_rows (program rows) sheet s (row_count rows)
  unfolding step_rows
  listed-are = below-same (ready_row (program rows) sheet s) (λ j. is_some (step_at (program rows) sheet s j)) (row_count rows) (λ j k. sym (ready-told (program rows) sheet s j))

  -- the total is the number of ready steps
  pub total-counts : get_or bits 32 0 ≡ length (ready (program rows) sheet s)
  total-counts = shown-total (ready_row (program rows) sheet s) (row_count rows) bits S ∙ ap (λ (m : List ℕ). length m) listed-are ∙ sym (ready-count rows ok sheet l s o)

  module _ (choice j : ℕ) (some-ready : 0 < get_or bits 32 0) (picked : j ≡ get_or (all_below (ready_row (program rows) sheet s) (row_count rows)) (choice % get_or bits 32 0) (row_count rows)) where
    in_rows : choice % get_or bits 32 0 < length (step_rows (program rows) sheet s (row_count rows))
    in_rows = omega (arith, mod-lt choice some-ready, total-counts, ready-count rows ok sheet l s o)

    -- the row is one of the table
    pub row_below : j < row_count rows
    row_below =
        let k : choice % get_or bits 32 0 < length (all_below (ready_row (program rows) sheet s) (row_count rows)) = rw listed-are in_rows in
        rw (picked ∙ any-default (all_below (ready_row (program rows) sheet s) (row_count rows)) (choice % get_or bits 32 0) (row_count rows) 0 k) (each_below (ready_row (program rows) sheet s) (row_count rows) (choice % get_or bits 32 0) k)

    -- it orders the chosen step
    pub row-chosen : (y : Label) (m : List Label) → ready (program rows) sheet s ≡ y ∷ m → step_at (program rows) sheet s j ≡ some (chosen_step (choice ∷ []) y m)
    unfolding chosen_step
    row-chosen y m q =
        let rows_of = step_rows (program rows) sheet s (row_count rows) in
        let u : get_or (ready (program rows) sheet s) (choice % get_or bits 32 0) y ≡ get_or (y ∷ m) (choice % length (y ∷ m)) y =
        ap (λ (z : List Label). get_or z (choice % get_or bits 32 0) y) q ∙ ap (λ (i : ℕ). get_or (y ∷ m) i y) (ap (λ (i : ℕ). choice % i) (total-counts ∙ ap (λ (z : List Label). length z) q))
        in
        let v : step_at (program rows) sheet s j ≡ some (get_or (ready (program rows) sheet s) (choice % get_or bits 32 0) y) =
        rw (picked ∙ ap (λ (m : List ℕ). get_or m (choice % get_or bits 32 0) (row_count rows)) listed-are ∙ any-default rows_of (choice % get_or bits 32 0) (row_count rows) 0 in_rows) (ready-of-row rows ok sheet l s o (choice % get_or bits 32 0) y in_rows)
        in
        v ∙ ap (λ (x : Label). some x) u
