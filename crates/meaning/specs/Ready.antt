-- The steps that are ready in a state, in the order of their rows, and the state that each leaves.
use Rattle.std.specs.Prelude.{Bool, true, false, ◌&&◌, List, [], ◌∷◌, ◌++◌, map, ℕ, zero, suc, length, get_or, eqb}
use Rattle.std.proofs.Math.Option.{Option, none, some}
use Rattle.meaning.specs.Basics.{if_else}
use Rattle.meaning.specs.Tree.{action_of, processes_in, rows_beneath}
use Rattle.meaning.specs.Values.{Message}
use Rattle.meaning.specs.State.{State, Program, process_at, write_cell, StateChange, Effect}
use Rattle.meaning.specs.Labels.{Label, own, pass, take_option, take_with_output, order_row}
use Rattle.meaning.specs.Readings.{Sheet}
use Rattle.meaning.specs.Settle.{settled}
use Rattle.meaning.specs.Intent.{Offer, open_offer, input_offer, Intent, waits, moves, inputs_from, outputs_to, selects, intent}

-- are all these rows idle
abbrev pub all_idle : List ℕ → List ℕ → Bool
all_idle [] s = true
all_idle (r ∷ l) s = eqb (get_or s r 0) 0 && all_idle l s

-- the rows from r on that are running
abbrev pub running_from : ℕ → List ℕ → List ℕ
running_from r [] = []
running_from r (x ∷ s) = let l = running_from (suc r) s in if_else (eqb x 1) (r ∷ l) l

-- what a row does that would do w by itself
abbrev pub own_effect : ℕ → Intent → Option Effect
own_effect r waits = none
own_effect r (moves x v ws) = some (record { changes = record { by = r; at = x; become = v } ∷ []; writes = ws })
own_effect r (inputs_from e a) = none
own_effect r (outputs_to e v) = none
own_effect r (selects l) = none

-- an input that waits for an output: at which element, into which cell, and the change of a row state by which it takes place
pub record WaitingInput : Type 0 where
  pub element : ℕ
  pub cell : ℕ
  pub change : StateChange

-- a value passes to the cell of a waiting input, where the elements are the same, and the output o ends
abbrev pub communication_where : Bool → WaitingInput → ℕ → Message → Option Effect
communication_where false w o z = none
communication_where true w o z = some (record { changes = w.change ∷ record { by = o; at = o; become = 2 } ∷ []; writes = write_cell w.cell z ∷ [] })

-- a waiting input, and what the row o would do
abbrev pub communication_effect : WaitingInput → ℕ → Intent → Option Effect
communication_effect w o waits = none
communication_effect w o (moves y v ws) = none
communication_effect w o (inputs_from f c) = none
communication_effect w o (outputs_to f z) = communication_where (eqb w.element f) w o z
communication_effect w o (selects l) = none

-- "an input and an output on the same channel element: the value passes, both end"
abbrev pub pass_effect : ℕ → ℕ → Intent → Intent → Option Effect
pass_effect i o waits u = none
pass_effect i o (moves x v ws) u = none
pass_effect i o (inputs_from e a) u = communication_effect (record { element = e; cell = a; change = record { by = i; at = i; become = 2 } }) o u
pass_effect i o (outputs_to e v) u = none
pass_effect i o (selects l) u = none

-- "the option's process starts", by itself or with an output
abbrev pub take_option_effect : ℕ → Offer → Option Effect
take_option_effect r (open_offer j q ws) = some (record { changes = record { by = r; at = q; become = 1 } ∷ []; writes = ws })
take_option_effect r (input_offer j q e a) = none

abbrev pub take_with_output_effect : ℕ → ℕ → Intent → Offer → Option Effect
take_with_output_effect r o u (open_offer j q ws) = none
take_with_output_effect r o u (input_offer j q e a) = communication_effect (record { element = e; cell = a; change = record { by = r; at = q; become = 1 } }) o u

abbrev pub option_row : Offer → ℕ
option_row (open_offer j q ws) = j
option_row (input_offer j q e a) = j

-- the offer of option j, put to f
abbrev pub offer_effect_at : ℕ → (Offer → Option Effect) → List Offer → Option Effect
offer_effect_at j f [] = none
offer_effect_at j f (o ∷ l) = if_else (eqb (option_row o) j) (f o) (offer_effect_at j f l)

abbrev pub offer_effect : ℕ → (Offer → Option Effect) → Intent → Option Effect
offer_effect j f waits = none
offer_effect j f (moves x v ws) = none
offer_effect j f (inputs_from e a) = none
offer_effect j f (outputs_to e v) = none
offer_effect j f (selects l) = offer_effect_at j f l

-- what a step does, if it is ready, where w is what each row would do
abbrev pub effect_of : Label → (ℕ → Intent) → Option Effect
effect_of (own r) w = own_effect r (w r)
effect_of (pass i o) w = pass_effect i o (w i) (w o)
effect_of (take_option r j) w = offer_effect j (take_option_effect r) (w r)
effect_of (take_with_output r j o) w = offer_effect j (take_with_output_effect r o (w o)) (w r)

-- a running row, with what it would do
pub record RunningRow : Type 0 where
  pub row : ℕ
  pub intent : Intent

-- row r where it outputs to element e
abbrev pub output_at : ℕ → ℕ → Intent → List ℕ
output_at e r waits = []
output_at e r (moves x v ws) = []
output_at e r (inputs_from f a) = []
output_at e r (outputs_to f v) = if_else (eqb e f) (r ∷ []) []
output_at e r (selects l) = []

-- the rows that would output to element e
abbrev pub outputs_at : ℕ → List RunningRow → List ℕ
outputs_at e [] = []
outputs_at e (b ∷ l) = output_at e b.row b.intent ++ outputs_at e l

abbrev pub offered : ℕ → List RunningRow → List Offer → List Label
offered r running_rows [] = []
offered r running_rows (open_offer j q ws ∷ l) = take_option r j ∷ offered r running_rows l
offered r running_rows (input_offer j q e a ∷ l) = map (take_with_output r j) (outputs_at e running_rows) ++ offered r running_rows l

-- the steps of row r, which would do w
abbrev pub steps_of : List RunningRow → ℕ → Intent → List Label
steps_of running_rows r waits = []
steps_of running_rows r (moves x v ws) = own r ∷ []
steps_of running_rows r (inputs_from e a) = map (pass r) (outputs_at e running_rows)
steps_of running_rows r (outputs_to e v) = []
steps_of running_rows r (selects l) = offered r running_rows l

abbrev pub steps_all : List RunningRow → List RunningRow → List Label
steps_all running_rows [] = []
steps_all running_rows (b ∷ l) = steps_of running_rows b.row b.intent ++ steps_all running_rows l

-- the steps ordered by row j
abbrev pub steps_at : ℕ → List Label → List Label
steps_at j [] = []
steps_at j (x ∷ l) = let m = steps_at j l in if_else (eqb (order_row x) j) (x ∷ m) m

-- the steps of k rows from j on, row after row
abbrev pub by_row : ℕ → ℕ → List Label → List Label
by_row zero j l = []
by_row (suc k) j l = steps_at j l ++ by_row k (suc j) l

module _ (P : Program) (sheet : Sheet) where
  -- "in a running row"; "A WHILE, IF or ALT has a step only while every row beneath it is idle"
  unfoldable pub is_live : ℕ → State → Bool
  is_live r s = eqb (get_or s.states r 0) 1 && all_idle (rows_beneath (processes_in (process_at P r))) s.states

  -- what row r would do: nothing, where it is not at work
  unfoldable pub intent_at : State → ℕ → Intent
  intent_at s r = let w = intent sheet (action_of (process_at P r)) r s.store in if_else (is_live r s) w waits

  unfoldable pub running_rows : State → List RunningRow
  running_rows s = map (λ (r : ℕ). record { row = r; intent = intent_at s r }) (running_from 0 s.states)

  -- all ready steps, in row order
  unfoldable pub ready : State → List Label
  ready s = let b = running_rows s in by_row (length s.states) 0 (steps_all b b)

  abbrev pub taken : Option Effect → State → State
  taken none s = s
  taken (some e) s = settled P e s

  -- the state that a step leaves, after settling
  unfoldable pub after : Label → State → State
  after x s = taken (effect_of x (intent_at s)) s
