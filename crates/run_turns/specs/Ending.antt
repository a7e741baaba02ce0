-- When a run ends, and with which outcome, by how many steps are ready.
use Rattle.std.specs.Prelude.{Bool, ◌||◌, List, ℕ, eqb}
use Rattle.meaning.specs.declared.Outcome.{Outcome}
use Rattle.meaning.specs.declared.Outcome.TheVariants.{Spent}
use Rattle.meaning.specs.Basics.{if_else}
use Rattle.run_turns.specs.Results.{rest_outcome}

-- does a run end after n steps: no step is ready, or its budget is used
abbrev pub is_last : ℕ → ℕ → ℕ → Bool
is_last count n budget = eqb count 0 || eqb n budget

-- the outcome of a run that ends with so many steps ready: rest is looked at before the budget
abbrev pub outcome_with : ℕ → ℕ → ℕ → List ℕ → Outcome
outcome_with count root n states = if_else (eqb count 0) (rest_outcome root n states) Spent
