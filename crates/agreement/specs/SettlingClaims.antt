-- What is claimed of settling: on the states of orders the paper's rules (`SettlingRules`) lead to one state, and the walk of `Settle` goes there; of the data it
-- changes the cells of blocks that start, and is no step.
use Rattle.std.specs.Prelude.{◌≡◌, false, ◌↔◌, ℕ, suc, ◌*◌, ◌≤◌, ℤ, length, get_or}
use Rattle.std.proofs.Math.Option.{none, some}
use mathlib.Core.List.{List, [], Memᴰ}
use Rattle.meaning.specs.Tree.{Process, rows_in}
use Rattle.meaning.specs.Usage.{cells_of_all}
use Rattle.meaning.specs.Settle.{settle, begun, start, settled}
use Rattle.meaning.specs.SettlingRules.{Settling, no_change, next-change, Final}
use Rattle.meaning.specs.State.{State, Program, program, whole, Effect, changed}
use Rattle.meaning.specs.Labels.{Label}
use Rattle.meaning.specs.Readings.{Sheet}
use Rattle.meaning.specs.Ready.{effect_of, intent_at}
use Rattle.meaning.specs.Step.{Allows, Leaves, Step}
use Rattle.meaning.specs.Order.{root_started, Begins, OrderOf}
use Rattle.meaning.specs.Answers.{check}

module _ (whole : Process) where
  -- how many changes the rules made
  abbrev pub changes_in : {s t : State} → Settling whole s t → ℕ
  changes_in no_change = 0
  changes_in (next-change h k) = suc (changes_in k)

  -- u is the one normal form of s
  pub record NormalForm (s u : State) : Type 0 where
    -- the rules lead from s to u
    pub reached : Settling whole s u
    -- in u no rule applies
    pub final : Final whole u
    -- whatever changes they made before, the rules lead on to u
    pub always : (t : State) → Settling whole s t → Settling whole t u
    -- where they lead and none applies, that is u
    pub only : (t : State) → Settling whole s t → Final whole t → t ≡ u
    -- they come to an end: at most three changes for each row of the process
    pub ends : (t : State) (h : Settling whole s t) → changes_in h ≤ 3 * length (rows_in whole)

-- "from all process rows idle the root has started and settled"
abbrev pub StartSettles : Type 0
StartSettles = (rows : List ℤ) → check rows ≡ none → let P = program rows in NormalForm (whole P) (root_started P) (start P)

-- so orders begin at the start of a run, and nowhere else
abbrev pub StartBegins : Type 0
StartBegins = (rows : List ℤ) → check rows ≡ none → (s : State) → Begins (program rows) s ↔ (s ≡ start (program rows))

-- a step makes its changes, and the state that it leaves is the normal form of what they made: settling is part of the step
abbrev pub StepsSettle : Type 0
StepsSettle = (rows : List ℤ) → check rows ≡ none → (sheet : Sheet) (l : List Label) (s : State) → OrderOf rows sheet l s → let P = program rows in
    (x : Label) (t : State) → Step P sheet s x t
    → (e : Effect) × (effect_of x (intent_at P sheet s) ≡ some e) × (t ≡ settled P e s) × NormalForm (whole P) (changed e s) t

-- "after settling": where the rules lead from the changes of a step, and none applies, is where the walk goes
abbrev pub SettledIsAfterSettling : Type 0
SettledIsAfterSettling = (rows : List ℤ) → check rows ≡ none → (sheet : Sheet) (l : List Label) (s : State) → OrderOf rows sheet l s → let P = program rows in
    (x : Label) (e : Effect) → Allows P sheet s x e → (t : State) → Leaves P s e t ↔ (t ≡ settled P e s)

-- so in every state that an order reaches no rule of settling applies
abbrev pub OrdersSettled : Type 0
OrdersSettled = (rows : List ℤ) → check rows ≡ none → (sheet : Sheet) (l : List Label) (s : State) → OrderOf rows sheet l s → Final (whole (program rows)) s

-- and to settle it again changes nothing, and starts no block
abbrev pub SettledAgain : Type 0
SettledAgain = (rows : List ℤ) → check rows ≡ none → (sheet : Sheet) (l : List Label) (s : State) → OrderOf rows sheet l s
    → (settle (whole (program rows)) false s.states ≡ s.states) × (begun (whole (program rows)) false s.states ≡ [])

-- what settling does to the data that a step's own changes made: the cells of the blocks that start in it are unset, and all else is kept
abbrev pub SettlingBegins : Type 0
SettlingBegins = (P : Program) (e : Effect) (s : State) → let c = changed e s in let t = settled P e s in let vs = begun (whole P) false c.states in
    (t.store.places ≡ c.store.places) × (t.store.outputs ≡ c.store.outputs) × (length t.store.cells ≡ length c.store.cells)
    × ((a : ℕ) → Memᴰ a (cells_of_all vs) → get_or t.store.cells a none ≡ none)
    × ((a : ℕ) → ¬ Memᴰ a (cells_of_all vs) → get_or t.store.cells a none ≡ get_or c.store.cells a none)
