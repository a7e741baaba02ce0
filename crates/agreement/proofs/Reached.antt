-- In every state that an order reaches the list of ready steps is what the rules allow; and an order can be followed by one step more.
use mathlib.Core.List.{List, [], ◌∷◌, ◌++◌}
use lib.IntN.{ℤ}
use Rattle.meaning.specs.Rows.{row_count}
use Rattle.meaning.specs.State.{State, Program, program}
use Rattle.meaning.specs.Labels.{Label}
use Rattle.meaning.specs.Readings.{Sheet}
use Rattle.meaning.specs.Ready.{after}
use Rattle.meaning.specs.Step.{Step}
use Rattle.meaning.specs.Order.{Order, halt, next-step, OrderOf}
use Rattle.agreement.proofs.Claims.{ReadySteps}
use Rattle.agreement.proofs.Fit.{Fit}
use Rattle.agreement.proofs.Steps.{ready-allowed, allowed-ready}
use Rattle.agreement.proofs.Separate.{table-inv}

-- an order with one step more at its end
more : (P : Program) (sheet : Sheet) {s t u : State} {l : List Label} {x : Label} → Order P sheet s l t → Step P sheet t x u → Order P sheet s (l ++ (x ∷ [])) u
more P sheet halt h = next-step h halt
more P sheet (next-step k o) h = next-step k (more P sheet o h)

pub order-more : (rows : List ℤ) (sheet : Sheet) {t u : State} {l : List Label} {x : Label} → OrderOf rows sheet l t → Step (program rows) sheet t x u → OrderOf rows sheet (l ++ (x ∷ [])) u
order-more rows sheet o h = record { beginning = o.beginning; begins = o.begins; order = more (program rows) sheet o.order h }

-- the claim of `Order`, for any meaning of accepted that gives what the proofs use of a table
pub ready-steps : (Accepted : List ℤ → Sheet → Type 0) → ((rows : List ℤ) (sheet : Sheet) → Accepted rows sheet → Fit (program rows) (row_count rows)) → ReadySteps Accepted
ready-steps Accepted fit rows sheet l s a o x =
    let F = fit rows sheet a in
    let i = table-inv rows sheet F l s o in (
      (λ m. (after (program rows) sheet x s, ready-allowed rows sheet F s i x m), λ h. (allowed-ready rows sheet F s i x h.0 h.1).0),
      λ t h. (allowed-ready rows sheet F s i x t h).1,
    )
