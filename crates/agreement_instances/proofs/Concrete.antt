-- Orders of a written-out table on an empty sheet, step by step from the list of ready steps.
use mathlib.Core.Path.{◌≡◌, refl, sym, subst, ◌∙◌}
use mathlib.Core.Bool.{false≢true}
use mathlib.Core.Logic.{◌≢◌}
use mathlib.Core.Option.{none}
use mathlib.Core.List.Memᴰ
use mathlib.Core.List.{List, [], ◌∷◌, ◌++◌, Memᴰ}
use Prim.Native.Nat.{ℕ}
use lib.IntN.{ℤ}
use lib.Dec.{eqb}
use borrow.Author.Tests.{eq-eqb}
use Rattle.meaning.specs.Basics.{lowest}
use Rattle.meaning.specs.Rows.{row_count, kind_at}
use Rattle.meaning.specs.State.{State, program}
use Rattle.meaning.specs.Labels.{Label}
use Rattle.meaning.specs.Readings.{Sheet}
use Rattle.meaning.specs.Settle.{start}
use Rattle.meaning.specs.Ready.{ready, after}
use Rattle.meaning.specs.Order.{Order, OrderOf, RestOf}
use Rattle.meaning.specs.Sheet.{readings}
use Rattle.meaning.specs.Answers.{check}
use Rattle.meaning.proofs.NoFault.{lowest-none}
use Rattle.agreement.specs.Statements.{NoAlt, StepOf}
use Rattle.agreement.proofs.Demands.{ready-exactly, after-is-step}
use Rattle.agreement.proofs.Reached.{order-more}
use Rattle.agreement.proofs.OrdersSettle.{start-begins}

-- a sheet for a table with no role 1 channel: one empty line
abbrev pub empty_sheet : List ℕ
empty_sheet = 10 ∷ []

module _ (rows : List ℤ) where
  abbrev pub sheet_of : Sheet
  sheet_of = readings rows empty_sheet

  abbrev pub at_start : State
  at_start = start (program rows)

  abbrev pub ready_in : State → List Label
  ready_in s = ready (program rows) sheet_of s

  abbrev pub after_step : Label → State → State
  after_step x s = after (program rows) sheet_of x s

  -- no row is an ALT, by one test
  pub no-alt : lowest (λ q. eqb (kind_at rows q) 34) (row_count rows) ≡ none → NoAlt rows
  no-alt k r h e = false≢true (sym (lowest-none (λ q. eqb (kind_at rows q) 34) (row_count rows) k r h) ∙ eq-eqb (kind_at rows r) 34 e)

  module _ (ok : check rows ≡ none) where
    -- an order from the start of a run
    pub from_start : (l : List Label) (s : State) → Order (program rows) sheet_of at_start l s → OrderOf rows sheet_of l s
    from_start l s o = record { beginning = at_start; begins = (start-begins rows ok at_start).1 refl; order = o }

    -- a step that the list of ready steps holds, by an equation
    pub ready-step : (k : List Label) (s : State) → OrderOf rows sheet_of k s → (x : Label) (l : List Label) → ready_in s ≡ l → Memᴰ x l → StepOf rows sheet_of s x (after_step x s)
    ready-step k s o x l e m = (after-is-step rows ok sheet_of s (k, o) x (subst (λ (k : List Label). Memᴰ x k) (sym e) m)).0

    -- with no ready step an order is at rest
    pub rests : (l : List Label) (s : State) → OrderOf rows sheet_of l s → ready_in s ≡ [] → RestOf rows sheet_of s
    rests l s o e x t h = Memᴰ.not-nil (subst (λ (k : List Label). Memᴰ x k) e ((ready-exactly rows ok sheet_of s (l, o) x).0.1 (t, h)))

    -- an order with a ready step more
    pub one_more : {k : List Label} {s : State} → OrderOf rows sheet_of k s → (x : Label) (l : List Label) → ready_in s ≡ l → Memᴰ x l → OrderOf rows sheet_of (k ++ (x ∷ [])) (after_step x s)
    one_more {k} {s} o x l e m = order-more rows sheet_of o (ready-step k s o x l e m)
