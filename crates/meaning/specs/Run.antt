-- Runs: at each step the choice picks one of the ready steps, up to rest or the budget.
use Rattle.std.specs.Prelude.{List, [], ◌∷◌, ℕ, zero, suc, ℤ, length, drop}
use Rattle.meaning.specs.declared.Outcome.{Outcome}
use Rattle.meaning.specs.declared.Outcome.TheVariants.{Spent}
use Rattle.meaning.specs.State.{State, Program, program}
use Rattle.meaning.specs.Labels.{Label}
use Rattle.meaning.specs.Readings.{Sheet}
use Rattle.meaning.specs.Settle.{start}
use Rattle.meaning.specs.Ready.{ready, after}
use Rattle.meaning.specs.Order.{outcome_at_rest, chosen_step}

-- the outcome, the length of the order taken, how many steps are ready after it, and the state that it leaves
pub record RunResult : Type 0 where
  pub outcome : Outcome
  pub steps : ℕ
  pub ready : ℕ
  pub state : State

module _ (P : Program) (sheet : Sheet) where
  -- on from a state after n steps, with these steps ready; each step uses one choice. "Spent: the steps equal the budget and one is ready"
  unfoldable pub go_from : ℕ → ℕ → List ℕ → State → List Label → RunResult
  go_from zero n choices s [] = record { outcome = outcome_at_rest P s; steps = n; ready = 0; state = s }
  go_from (suc budget) n choices s [] = record { outcome = outcome_at_rest P s; steps = n; ready = 0; state = s }
  go_from zero n choices s (x ∷ l) = record { outcome = Spent; steps = n; ready = length (x ∷ l); state = s }
  go_from (suc budget) n choices s (x ∷ l) =
      let t = after P sheet (chosen_step choices x l) s in
      go_from budget (suc n) (drop 1 choices) t (ready P sheet t)

  -- on from a state after n steps
  unfoldable pub go : ℕ → ℕ → List ℕ → State → RunResult
  go budget n choices s = go_from budget n choices s (ready P sheet s)

-- "A run takes the order that its choices pick, up to rest or its budget"
unfoldable pub run : List ℤ → Sheet → List ℕ → ℕ → RunResult
run rows sheet choices budget = let P = program rows in go P sheet budget 0 choices (start P)
