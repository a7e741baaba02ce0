-- Ready steps row by row: the step that a row orders, if there is one, told by what the rows would do. One pass over the rows finds them in order.
use Rattle.std.specs.Prelude.{Bool, true, false, ℕ, length, eqb}
use Rattle.std.proofs.Math.Option
use Rattle.std.proofs.Math.Option.{Option, none, some}
use mathlib.Core.List.{List, [], ◌∷◌, map, flatten}
use Rattle.meaning.specs.declared.Node.{Node}
use Rattle.meaning.specs.declared.Node.TheVariants.{Literal, Element, Monadic, Dyadic, Stop, Skip, Assignment, Input, Output, Seq, Par, If, While, Alt, Block, Member, Choice, OptionRow, Guard, Other}
use Rattle.meaning.specs.Basics.{is_some, among, lowest, all_below}
use Rattle.meaning.specs.Tree.{action_of}
use Rattle.meaning.specs.Usage.{numbers_from}
use Rattle.meaning.specs.State.{State, Program, process_at}
use Rattle.meaning.specs.Labels.{Label, own, pass, take_option, take_with_output}
use Rattle.meaning.specs.Readings.{Sheet}
use Rattle.meaning.specs.Intent.{Offer, open_offer, input_offer, Intent, waits, moves, inputs_from, outputs_to, selects}
use Rattle.meaning.specs.Ready.{intent_at}
use Rattle.agreement.specs.RowsOfSteps.{option_rows, offer_at}

-- whether a row that would do so outputs to element e
abbrev pub is_output_to : ℕ → Intent → Bool
is_output_to e waits = false
is_output_to e (moves x v ws) = false
is_output_to e (inputs_from f a) = false
is_output_to e (outputs_to f v) = eqb e f
is_output_to e (selects os) = false

-- whether a row is an option of an ALT
abbrev pub is_option : Node → Bool
is_option (Literal x) = false
is_option (Element a b) = false
is_option (Monadic a b) = false
is_option (Dyadic a b c) = false
is_option Stop = false
is_option Skip = false
is_option (Assignment a b c) = false
is_option (Input a b c) = false
is_option (Output a b c) = false
is_option (Seq a) = false
is_option (Par a) = false
is_option (If a) = false
is_option (While a b) = false
is_option (Alt a) = false
is_option (Block a b) = false
is_option (Member a b) = false
is_option (Choice a b c) = false
is_option (OptionRow a b c) = true
is_option (Guard a b) = false
is_option Other = false

-- the ALT whose option row j is
unfoldable pub alt_of : Program → ℕ → Option ℕ
alt_of P j = lowest (λ r. among j (option_rows (action_of (process_at P r)))) (length P.processes)

-- the step of row j by itself; `waiting` is the row that waits to output to an element
abbrev pub own_step_by : (ℕ → Option ℕ) → ℕ → Intent → Option Label
own_step_by waiting j waits = none
own_step_by waiting j (moves x v ws) = some (own j)
own_step_by waiting j (inputs_from e a) = Option.map (pass j) (waiting e)
own_step_by waiting j (outputs_to e v) = none
own_step_by waiting j (selects os) = none

-- the step of an ALT r and its option j, by what the option offers
abbrev pub offer_step : (ℕ → Option ℕ) → ℕ → ℕ → Option Offer → Option Label
offer_step waiting r j none = none
offer_step waiting r j (some (open_offer i q ws)) = some (take_option r j)
offer_step waiting r j (some (input_offer i q e a)) = Option.map (take_with_output r j) (waiting e)

abbrev pub option_step_by : (ℕ → Option ℕ) → ℕ → ℕ → Intent → Option Label
option_step_by waiting r j waits = none
option_step_by waiting r j (moves x v ws) = none
option_step_by waiting r j (inputs_from e a) = none
option_step_by waiting r j (outputs_to e v) = none
option_step_by waiting r j (selects os) = offer_step waiting r j (offer_at j os)

-- the first step, else the second
abbrev pub first_step : Option Label → Option Label → Option Label
first_step none y = y
first_step (some x) y = some x

-- the list of none or one
abbrev pub list_of : Option Label → List Label
list_of none = []
list_of (some x) = x ∷ []

module _ (P : Program) (sheet : Sheet) (s : State) where
  -- the row that would output to element e
  unfoldable pub waiting_at : ℕ → Option ℕ
  waiting_at e = lowest (λ r. is_output_to e (intent_at P sheet s r)) (length s.states)

  -- the step that row j has by itself: a step of its own, or an input from a row that waits
  unfoldable pub own_step : ℕ → Option Label
  own_step j = own_step_by waiting_at j (intent_at P sheet s j)

  -- the step of row j as an option of ALT r
  abbrev pub option_step_of : ℕ → Option ℕ → Option Label
  option_step_of j none = none
  option_step_of j (some r) = option_step_by waiting_at r j (intent_at P sheet s r)

  unfoldable pub option_step : ℕ → Option Label
  option_step j = option_step_of j (alt_of P j)

  -- the step that row j orders
  unfoldable pub step_at : ℕ → Option Label
  step_at j = first_step (own_step j) (option_step j)

  -- the steps of all rows, in order
  unfoldable pub steps_by_row : List Label
  steps_by_row = flatten (map (λ j. list_of (step_at j)) (numbers_from 0 (length s.states)))

  -- the rows below n that order a step, in order
  unfoldable pub step_rows : ℕ → List ℕ
  step_rows n = all_below (λ j. is_some (step_at j)) n
