-- The outcome at rest, from the array of row states.
use mathlib.Core.Path.{◌≡◌, sym, ap, ap₂, ◌∙◌}
use mathlib.Core.Option.{none}
use mathlib.Core.List.{List}
use Prim.Native.Nat.{ℕ}
use lib.IntN.{ℤ}
use lib.ListN.{take, replicate}
use lib.Dec.{eqb}
use Rattle.meaning.specs.declared.Outcome.TheVariants.{Ended, Stuck, Broken}
use Rattle.meaning.specs.Basics.{if_else}
use Rattle.meaning.specs.Limits.{max_rows}
use Rattle.meaning.specs.Rows.{row_count}
use Rattle.meaning.specs.Declarations.{root}
use Rattle.meaning.specs.State.{State, any_of, program}
use Rattle.meaning.specs.Labels.{Label}
use Rattle.meaning.specs.Readings.{Sheet}
use Rattle.meaning.specs.Order.{is_stopped, outcome_at_rest, OrderOf}
use Rattle.meaning.specs.Buffers.{Buffers}
use Rattle.meaning.specs.Answers.{check}
use Rattle.meaning.proofs.LentLaws.{lent-whole}
use Rattle.machine.specs.Held.{HoldsState}
use Rattle.machine.proofs.Declared.{room}
use Rattle.machine.proofs.HeldLaws.{states-are, read-state}
use Rattle.machine.proofs.StateSizes.{lengths}
use Rattle.run_turns.specs.Results.{rest_outcome}

-- the array of row states tells the outcome at rest
pub rest-is : (rows : List ℤ) → check rows ≡ none → (sheet : Sheet) (l : List Label) (s : State) → OrderOf rows sheet l s → (b : Buffers) → HoldsState rows s b
    → rest_outcome (root rows) (row_count rows) b.states ≡ outcome_at_rest (program rows) s
unfolding outcome_at_rest program
rest-is rows ok sheet l s o b h =
    let L = lengths rows ok sheet l s o in
    let t : take (row_count rows) b.states ≡ s.states = ap (take (row_count rows)) (states-are rows s b h) ∙ lent-whole 0 max_rows (row_count rows) s.states (replicate max_rows 0) L.states (room rows ok).states in
    ap₂ (λ (n : ℕ) (m : List ℕ). if_else (eqb n 2) Ended (if_else (any_of is_stopped m) Broken Stuck)) (sym (read-state rows (room rows ok) s L b h (root rows))) t
