-- Demand 3: of an accepted table without ALT all orders that come to rest have one length and one end, and every run answers it. By the one-step diamond any two
-- orders come to a common state (request 14); one that is at rest is there already.
use mathlib.Core.Path.{◌≡◌, refl, sym, ap, subst, ◌∙◌}
use mathlib.Core.Logic.{◌≢◌, inl, inr}
use mathlib.Core.List.{List, [], ◌∷◌, ◌++◌}
use Prim.Native.Nat.{ℕ, ◌+◌, ◌<◌, ◌≤◌}
use native.Mathlib.Omega.{arith}
use lib.IntN.{ℤ}
use lib.ListN.{length, length-append}
use Rattle.meaning.specs.declared.Outcome.{Outcome}
use Rattle.meaning.specs.declared.Outcome.TheVariants.{Spent}
use Rattle.meaning.specs.Rows.{row_count, kind_at}
use Rattle.meaning.specs.State.{State, program}
use Rattle.meaning.specs.Labels.{Label}
use Rattle.meaning.specs.Readings.{Sheet}
use Rattle.meaning.specs.Step.{Step}
use Rattle.meaning.specs.Run.{RunResult, run}
use Rattle.meaning.specs.Settle.{start}
use Rattle.meaning.specs.Order.{Order, halt, next-step, Begins, OrderOf, RestOf, outcome_of}
use Rattle.agreement.specs.Statements.{Reached}
use Rattle.agreement.specs.CommonClaims.{Common}
use Rattle.agreement.proofs.Claims.{Finish, Agreement}
use Rattle.agreement.proofs.Join.{join}
use Rattle.agreement.proofs.Steps.{allowed-ready}
use Rattle.agreement.proofs.Reached.{order-more}
use Rattle.agreement.proofs.Running
use Rattle.agreement.proofs.Running.{Fits}
use Rattle.agreement.proofs.Fit.{Fit}
use Rattle.agreement.proofs.Separate.{table-inv}
use Rattle.agreement.proofs.Beginning.{begins-start}
use Rattle.agreement.proofs.WithoutAlt.{one-step-diamond}

pub result-is : (r : RunResult) (o : Outcome) (n k : ℕ) (s : State) → r.outcome ≡ o → r.steps ≡ n → r.ready ≡ k → r.state ≡ s → r ≡ record { outcome = o; steps = n; ready = k; state = s }
result-is r o n k s a b c d = rw (← a, ← b, ← c, ← d)

-- an order from a state at rest takes no step
pub no_more : (rows : List ℤ) (sheet : Sheet) {s t : State} {l : List Label} → RestOf rows sheet s → Order (program rows) sheet s l t → (t ≡ s) × (length l ≡ 0)
no_more rows sheet r halt = (refl, refl)
no_more rows sheet r (next-step {t} {x} h o) = absurd (r x t h)

module _ (rows : List ℤ) (sheet : Sheet) (F : Fit (program rows) (row_count rows)) (w : (r : ℕ) → r < row_count rows → kind_at rows r ≢ 34) where
  -- any two orders come to a common state
  pub orders-join : (l : List Label) (s : State) → OrderOf rows sheet l s → (k : List Label) (t : State) → OrderOf rows sheet k t → Common (program rows) sheet l s k t
  orders-join l s o k t q =
      join (program rows) sheet (Reached rows sheet) (λ s x t (l, o) h. (l ++ (x ∷ []), order-more rows sheet o h)) one_end
      (λ s x y t u (l, o). one-step-diamond rows sheet F w l s o x y t u) ([], record { beginning = o.beginning; begins = o.begins; order = halt })
      o.order (subst (λ (p : State). Order (program rows) sheet p k t) (begin q.beginning q.begins ∙ sym (begin o.beginning o.begins)) q.order)
    where
      begin : (p : State) → Begins (program rows) p → p ≡ start (program rows)
      begin = begins-start (program rows) (row_count rows) F

      one_end : (s : State) (x : Label) (t u : State) → Reached rows sheet s → Step (program rows) sheet s x t → Step (program rows) sheet s x u → t ≡ u
      one_end s x t u (l, o) h g = let i = table-inv rows sheet F l s o in (allowed-ready rows sheet F s i x t h).1 ∙ sym (allowed-ready rows sheet F s i x u g).1

  module _ (l : List Label) (s : State) (o : OrderOf rows sheet l s) (r : RestOf rows sheet s) where
    -- each order goes on to the rest
    pub comes-to-rest : (k : List Label) (t : State) → OrderOf rows sheet k t → (more : List Label) × Order (program rows) sheet t more s × (length k + length more ≡ length l)
    comes-to-rest k t q =
        let c = orders-join l s o k t q in
        let (e, z) = no_more rows sheet r c.first-comes in
        (c.second_more, subst (λ (v : State). Order (program rows) sheet t c.second_more v) e c.second-comes, omega (arith, z, c.equally-long))

    -- no order is longer, and each at rest has that length and that end
    pub one-rest : (k : List Label) (t : State) → OrderOf rows sheet k t → (length k ≤ length l) × (RestOf rows sheet t → (length k ≡ length l) × (t ≡ s))
    one-rest k t q =
        let (more, g, e) = comes-to-rest k t q in
        (omega arith, λ z. let (f, n) = no_more rows sheet z g in (omega arith, sym f))

    -- every run comes to that rest, or its budget is less
    module _ (Accepted : List ℤ → Sheet → Type 0) (fit : Fits Accepted) (a : Accepted rows sheet) (choices : List ℕ) (budget : ℕ) where
      abbrev R : RunResult
      R = run rows sheet choices budget

      abbrev Wanted : Type 0
      Wanted = (length l ≤ budget → R ≡ record { outcome = outcome_of rows s; steps = length l; ready = 0; state = s }) × (budget < length l → (R.outcome ≡ Spent) × (R.steps ≡ budget) × (0 < R.ready))

      answers : (k : List Label) → OrderOf rows sheet k R.state → length k ≡ R.steps → R.steps ≤ budget → Finish Accepted rows sheet budget R → Wanted
      answers k q e le (inl (z, c, d)) =
          let (m, y) = (one-rest k R.state q).1 z in
          (λ h. result-is R (outcome_of rows s) (length l) 0 s (c ∙ ap (outcome_of rows) y) (sym e ∙ m) d y, λ h. absurd (omega arith))
      answers k q e le (inr (z, c, d, (x, (t, h)))) =
          let n = (one-rest (k ++ (x ∷ [])) t (order-more rows sheet q h)).0 in
          (λ g. absurd (omega (arith, length-append k (x ∷ []), n)), λ g. (c, z, d))

      pub run-answers : Wanted
      run-answers = let (k, q, c, e, le, f, _) = Running.runs Accepted fit rows sheet choices budget a in answers k q e le f

-- the claim of `Order`, of every meaning of accepted that gives what the proofs use of a table
pub agreement : (Accepted : List ℤ → Sheet → Type 0) → Fits Accepted → Agreement Accepted
agreement Accepted fit rows sheet a w l s o r =
    let (F, O) = fit rows sheet a in
    (one-rest rows sheet F w l s o r, λ choices budget. run-answers rows sheet F w l s o r Accepted fit a choices budget)
