-- A run takes the order that its choices pick; rest is reported exactly if no step is allowed, spent exactly if one is and the budget is used.
-- Its total is how many steps are ready at its end.
use mathlib.Core.Path.{◌≡◌, refl, sym, ap, ◌∙◌}
use mathlib.Core.Logic.{◌≢◌, inl, inr, ◌↔◌}
use mathlib.Core.Bool.{Bool, true, false}
use mathlib.Core.Option.{none}
use mathlib.Core.List.{List}
use Prim.Native.Nat.{ℕ}
use native.Mathlib.Omega.{arith}
use lib.IntN.{ℤ}
use lib.ListN.{get_or}
use lib.Dec.{eqb}
use Rattle.meaning.specs.declared.Outcome.{Outcome}
use Rattle.meaning.specs.declared.Outcome.TheVariants.{Ended, Stuck, Broken, Spent}
use Rattle.meaning.specs.Basics.{if_else}
use Rattle.meaning.specs.State.{State, any_of, Program, program}
use Rattle.meaning.specs.Labels.{Label}
use Rattle.meaning.specs.Readings.{Sheet}
use Rattle.meaning.specs.Ready.{ready}
use Rattle.meaning.specs.Run.{RunResult, run}
use Rattle.meaning.specs.Order.{is_stopped, outcome_at_rest, RestOf, outcome_of}
use Rattle.meaning.specs.Answers.{check}
use Rattle.agreement.proofs.Claims.{Finish}
use Rattle.agreement.specs.Statements.{StepOf, RunTakesOrder}
use Rattle.agreement.proofs.TableFit.{fit}
use Rattle.agreement.proofs.TableOptions.{option-rows}
use Rattle.agreement.proofs.Running.{runs}
use Rattle.agreement.proofs.RowsAscend.{ready-listed}

-- an accepted table and any readings
abbrev Any : List ℤ → Sheet → Type 0
Any rows sheet = check rows ≡ none

tag : Outcome → ℕ
tag Ended = 0
tag Stuck = 0
tag Broken = 0
tag Spent = 1

-- the outcome of rest is not spent
rest-not-spent : (P : Program) (s : State) → outcome_at_rest P s ≢ Spent
unfolding outcome_at_rest tag
rest-not-spent P s = go (eqb (get_or s.states P.root 0) 2) (any_of is_stopped s.states)
  where
    go : (t u : Bool) → if_else t Ended (if_else u Broken Stuck) ≢ Spent
    go true u e = let z : ◌≡◌ {A = ℕ} 0 1 = ap tag e in omega arith
    go false true e = let z : ◌≡◌ {A = ℕ} 0 1 = ap tag e in omega arith
    go false false e = let z : ◌≡◌ {A = ℕ} 0 1 = ap tag e in omega arith

module _ (rows : List ℤ) (sheet : Sheet) (budget : ℕ) (r : RunResult) where
  abbrev Left : Type 0
  Left = (x : Label) × ((t : State) × StepOf rows sheet r.state x t)

  rest-exactly : Finish Any rows sheet budget r → (r.outcome ≢ Spent) ↔ RestOf rows sheet r.state
  rest-exactly (inl (h, e, z)) = (λ n. h, λ k z. rest-not-spent (program rows) r.state (sym e ∙ z))
  rest-exactly (inr (n, e, p, (x, (t, h)))) = (λ k. absurd (k e), λ k. absurd (k x t h))

  rest-outcome : Finish Any rows sheet budget r → RestOf rows sheet r.state → r.outcome ≡ outcome_of rows r.state
  rest-outcome (inl (h, e, z)) k = e
  rest-outcome (inr (n, e, p, (x, (t, h)))) k = absurd (k x t h)

  spent-exactly : Finish Any rows sheet budget r → (r.outcome ≡ Spent) ↔ ((r.steps ≡ budget) × Left)
  spent-exactly (inl (h, e, y)) = (λ z. absurd (rest-not-spent (program rows) r.state (sym e ∙ z)), λ k. (let (x, (t, q)) = k.1 in absurd (h x t q)))
  spent-exactly (inr (n, e, p, k)) = (λ z. (n, k), λ z. e)

  rest-total : Finish Any rows sheet budget r → (r.ready ≡ 0) ↔ RestOf rows sheet r.state
  rest-total (inl (h, e, z)) = (λ n. h, λ k. z)
  rest-total (inr (n, e, p, (x, (t, h)))) = (λ k. absurd (omega arith), λ k. absurd (k x t h))

pub run-takes-order : RunTakesOrder
run-takes-order rows ok sheet choices budget =
    let r = run rows sheet choices budget in
    let (l, o, c, n, b, f, q) = runs Any (λ rows sheet a. (fit rows a, option-rows rows a)) rows sheet choices budget ok in
    (l, o, c, n, b, rest-exactly rows sheet budget r f, rest-outcome rows sheet budget r f, spent-exactly rows sheet budget r f, (ready (program rows) sheet r.state, (ready-listed rows ok sheet r.state (l, o) (ready (program rows) sheet r.state)).1 refl, sym q), rest-total rows sheet budget r f)
