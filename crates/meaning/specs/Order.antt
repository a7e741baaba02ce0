-- Orders of steps, rest and its outcome, and the order that choices pick ("An order of steps is a list of such steps, of any length, none included").
use Rattle.std.specs.Prelude.{Bool, ◌↔◌, ℕ, ◌%◌, ℤ, length, get_or, set, drop, leb, eqb}
use mathlib.Core.List.{List, [], ◌∷◌, map, Memᴰ}
use Rattle.meaning.specs.declared.Outcome.{Outcome}
use Rattle.meaning.specs.declared.Outcome.TheVariants.{Ended, Stuck, Broken}
use Rattle.meaning.specs.Basics.{if_else}
use Rattle.meaning.specs.Tree.{Process}
use Rattle.meaning.specs.State.{State, Program, program, whole, any_of, all_unset}
use Rattle.meaning.specs.Labels.{Label, order_row, Ascending}
use Rattle.meaning.specs.Readings.{Sheet}
use Rattle.meaning.specs.SettlingRules.{SettlesTo}
use Rattle.meaning.specs.Step.{Step}

-- stopped: 10 plus the reason
abbrev pub is_stopped : ℕ → Bool
is_stopped n = leb 10 n

-- at rest: "ended if the root has ended, broken if a row is stopped, else stuck"
unfoldable pub outcome_at_rest : Program → State → Outcome
outcome_at_rest P s = if_else (eqb (get_or s.states P.root 0) 2) Ended (if_else (any_of is_stopped s.states) Broken Stuck)

-- "Choices are 16-bit numbers. The choice for a step is divided by the number of ready steps, and the remainder picks, from 0. When the list is used up, 0 is meant"
unfoldable pub chosen_step : List ℕ → Label → List Label → Label
chosen_step choices x l = get_or (x ∷ l) (get_or choices 0 0 % length (x ∷ l)) x

module _ (P : Program) where
  -- "Before its first step all cells are unset, nothing has been read from or written to the host, and from all process rows idle the root has started"
  abbrev pub root_started : State
  root_started = record { states = set (map (λ (p : Process). 0) P.processes) P.root 1; store = all_unset P }

  -- "the root has started and settled"
  abbrev pub Begins : State → Type 0
  Begins s = SettlesTo (whole P) root_started s

  module _ (sheet : Sheet) where
    -- "Each step is ready in the state that the one before it left, after settling, and nothing else changes that state"
    pub data Order : State → List Label → State → Type 0 where
      halt : {s : State} → Order s [] s
      next-step : {s t u : State} {x : Label} {l : List Label} → Step P sheet s x t → Order t l u → Order s (x ∷ l) u

    -- "At rest no step is ready"
    abbrev pub Rest : State → Type 0
    Rest s = (x : Label) (t : State) → ¬ Step P sheet s x t

    -- "Ready steps are ordered by row": the list of all that are ready, in ascending rows
    pub record ReadyList (s : State) (l : List Label) : Type 0 where
      pub just-these : (x : Label) → Memᴰ x l ↔ ((t : State) × Step P sheet s x t)
      pub in_order : Ascending 0 (map order_row l)

    -- the order that choices pick, from a state to a state
    pub data Chosen : State → List ℕ → List Label → State → Type 0 where
      none_left : {s : State} {choices : List ℕ} → Chosen s choices [] s
      chosen : {s t u : State} {choices : List ℕ} {x : Label} {l m : List Label} → ReadyList s (x ∷ m) → Step P sheet s (chosen_step choices x m) t
          → Chosen t (drop 1 choices) l u → Chosen s choices (chosen_step choices x m ∷ l) u

-- an order of a table on a sheet, from the beginning to a state
pub record OrderOf (rows : List ℤ) (sheet : Sheet) (l : List Label) (s : State) : Type 0 where
  pub beginning : State
  pub begins : Begins (program rows) beginning
  pub order : Order (program rows) sheet beginning l s

-- an order of a table on a sheet that choices pick, from the beginning to a state
pub record ChosenOf (rows : List ℤ) (sheet : Sheet) (choices : List ℕ) (l : List Label) (s : State) : Type 0 where
  pub beginning : State
  pub begins : Begins (program rows) beginning
  pub picked : Chosen (program rows) sheet beginning choices l s

abbrev pub RestOf : List ℤ → Sheet → State → Type 0
RestOf rows sheet s = Rest (program rows) sheet s

abbrev pub outcome_of : List ℤ → State → Outcome
outcome_of rows s = outcome_at_rest (program rows) s
