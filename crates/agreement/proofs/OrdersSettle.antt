-- The row states of an accepted table's orders are settled: the start, and each step, leave the one state that the rules of settling lead to.
use mathlib.Core.Path.{◌≡◌, sym, ap, subst}
use mathlib.Core.Bool.{false}
use mathlib.Core.Option.{none, some}
use mathlib.Core.List.{List}
use Prim.Native.Nat.{ℕ}
use lib.IntN.{ℤ}
use Rattle.meaning.specs.Rows.{row_count}
use Rattle.meaning.specs.Tree.{row_of}
use Rattle.meaning.specs.SettlingRules.{Final}
use Rattle.meaning.specs.State.{State, Program, program, whole, Effect, changed}
use Rattle.meaning.specs.Usage.{cells_of_all}
use Rattle.meaning.specs.Labels.{Label}
use Rattle.meaning.specs.Readings.{Sheet}
use Rattle.meaning.specs.Ready.{effect_of, intent_at}
use Rattle.meaning.specs.Settle.{settle, begun, settled}
use Rattle.meaning.specs.Step.{Leaves, Step}
use Rattle.meaning.specs.Order.{Begins, Order, halt, next-step}
use Rattle.meaning.specs.Answers.{check}
use Rattle.agreement.specs.SettlingClaims.{NormalForm, StartSettles, StartBegins, StepsSettle, SettledIsAfterSettling, OrdersSettled, SettledAgain, SettlingBegins}
use Rattle.agreement.proofs.Takeable.{takeable}
use Rattle.agreement.proofs.Steps.{distinct-options}
use Rattle.agreement.proofs.Settled.{settles}
use Rattle.agreement.proofs.Fit.{Fit}
use Rattle.agreement.proofs.Active.{active}
use Rattle.agreement.proofs.Working.{Inv}
use Rattle.agreement.proofs.Invariant.{step-normal, leaves-settled, only-settled, step-effect}
use Rattle.agreement.proofs.Beginning.{start-normal, begins-at-start, begins-start}
use Rattle.agreement.proofs.Separate.{table-inv}
use Rattle.agreement.proofs.TableFit.{fit}
use Rattle.agreement.proofs.NormalForm.{after_settling, final-is}
use Rattle.agreement.proofs.Begun.{begun-unchanged}
use Rattle.meaning.proofs.UnsetLaws.{mem-among, not-among, length-unset_all, places-unset_all, outputs-unset_all, cell-held, cell-kept}

pub settling-begins : SettlingBegins
unfolding settled
settling-begins P e s =
    let c = changed e s in
    let vs = begun (whole P) false c.states in (
      places-unset_all vs c.store,
      outputs-unset_all vs c.store,
      length-unset_all vs c.store,
      λ a m. cell-held vs c.store a (mem-among a (cells_of_all vs) m),
      λ a o. cell-kept vs c.store a (not-among a (cells_of_all vs) o),
    )

module _ (rows : List ℤ) (ok : check rows ≡ none) where
  abbrev P : Program
  P = program rows

  abbrev n : ℕ
  n = row_count rows

  abbrev F : Fit P n
  F = fit rows ok

  -- the whole process stands at the root
  pub whole_row : row_of (whole P) ≡ P.root
  whole_row = F.at-root

  module _ (sheet : Sheet) where
    normal-after : (s : State) → Inv P n F sheet s → (x : Label) (t : State) → Step P sheet s x t
        → (e : Effect) × (effect_of x (intent_at P sheet s) ≡ some e) × (t ≡ settled P e s) × NormalForm (whole P) (changed e s) t
    normal-after s i x t h =
        let (e, q, z) = step-effect P n F sheet (distinct-options rows sheet) s x t i h in
        (e, q, z, subst (λ (y : State). NormalForm (whole P) (changed e s) y) (sym z) (step-normal P n F sheet s i (active (intent_at P sheet s) x e q)))

    order-final : {s t : State} {l : List Label} → Final (whole P) s → Order P sheet s l t → Final (whole P) t
    order-final f halt = f
    order-final f (next-step h o) = order-final h.leaves.final o

pub start-settles : StartSettles
start-settles rows ok = start-normal (program rows) (row_count rows) (fit rows ok)

pub start-begins : StartBegins
start-begins rows ok s =
    let F = fit rows ok in
    (begins-start (program rows) (row_count rows) F s, λ e. subst (λ (t : State). Begins (program rows) t) (sym e) (begins-at-start (program rows) (row_count rows) F))

pub steps-settle : StepsSettle
steps-settle rows ok sheet l s o = normal-after rows ok sheet s (table-inv rows sheet (fit rows ok) l s o)

pub settled-is-after-settling : SettledIsAfterSettling
settled-is-after-settling rows ok sheet l s o x e h t =
    let P = program rows in
    let F = fit rows ok in
    let i = table-inv rows sheet F l s o in
    let a = active (intent_at P sheet s) x e (takeable P sheet s (distinct-options rows sheet s) x e h) in
    (only-settled P (row_count rows) F sheet s i a t, λ z. subst (λ (u : State). Leaves P s e u) (sym z) (leaves-settled P (row_count rows) F sheet s i a))

pub orders-settled : OrdersSettled
orders-settled rows ok sheet l s o = order-final rows ok sheet o.begins.final o.order

pub settled-again : SettledAgain
settled-again rows ok sheet l s o =
    let p = whole (program rows) in
    let F = fit rows ok in
    let size = (table-inv rows sheet F l s o).size in
    let same : s ≡ after_settling p s
    = final-is p (row_count rows) F.sound F.plain s (after_settling p s) (settles p (row_count rows) F.sound F.plain s.states size s.store) (orders-settled rows ok sheet l s o) in
    let unchanged : settle p false s.states ≡ s.states = sym (ap (λ (t : State). t.states) same) in
    (unchanged, begun-unchanged p (row_count rows) F.sound false s.states size unchanged)
