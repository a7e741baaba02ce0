-- What the machine may keep of a state between steps: what each row would do, who waits at each channel element, which rows order a ready step, and how many do.
use Rattle.std.specs.Prelude.{◌≡◌, ◌⊎◌, Bool, true, false, ◌||◌, ℕ, zero, suc, ◌+◌, length, eqb}
use Rattle.std.proofs.Math.Option.{Option, none, some}
use Rattle.meaning.specs.Basics.{if_else, is_some, any_passes, lowest}
use Rattle.meaning.specs.State.{State, Program}
use Rattle.meaning.specs.Labels.{Label}
use Rattle.meaning.specs.Readings.{Sheet}
use Rattle.meaning.specs.Intent.{Offer, open_offer, input_offer, Intent, waits, moves, inputs_from, outputs_to, selects}
use Rattle.meaning.specs.Ready.{is_live, intent_at}
use Rattle.agreement.specs.RowsOfSteps.{RowOf, offer_at}
use Rattle.machine.specs.RowSteps.{alt_of, waiting_at}

-- how many numbers below n pass a test
unfoldable pub count_below : (ℕ → Bool) → ℕ → ℕ
count_below p zero = 0
count_below p (suc n) = count_below p n + if_else (p n) 1 0

-- whether an option offers an input from element e
abbrev pub offers_input : ℕ → Offer → Bool
offers_input e (open_offer j q ws) = false
offers_input e (input_offer j q f a) = eqb e f

-- whether a row that would do so inputs from element e: an input, or an ALT one of whose options does
abbrev pub is_input_from : ℕ → Intent → Bool
is_input_from e waits = false
is_input_from e (moves x v ws) = false
is_input_from e (inputs_from f a) = eqb e f
is_input_from e (outputs_to f v) = false
is_input_from e (selects os) = any_passes (offers_input e) os

-- what option j offers, by what its ALT would do
abbrev pub offer_of : ℕ → Intent → Option Offer
offer_of j waits = none
offer_of j (moves x v ws) = none
offer_of j (inputs_from e a) = none
offer_of j (outputs_to e v) = none
offer_of j (selects os) = offer_at j os

-- the element at which a row by itself, or an option, wants a sender
abbrev pub wanted_element : Intent → Option ℕ
wanted_element waits = none
wanted_element (moves x v ws) = none
wanted_element (inputs_from e a) = some e
wanted_element (outputs_to e v) = none
wanted_element (selects os) = none

abbrev pub offer_wants : Option Offer → Option ℕ
offer_wants none = none
offer_wants (some (open_offer j q ws)) = none
offer_wants (some (input_offer j q e a)) = some e

-- whether a row by itself has a step, and whether an option has, where `sender` is who waits to output to an element
abbrev pub own_ready : (ℕ → Option ℕ) → Intent → Bool
own_ready sender waits = false
own_ready sender (moves x v ws) = true
own_ready sender (inputs_from e a) = is_some (sender e)
own_ready sender (outputs_to e v) = false
own_ready sender (selects os) = false

abbrev pub offer_ready : (ℕ → Option ℕ) → Option Offer → Bool
offer_ready sender none = false
offer_ready sender (some (open_offer j q ws)) = true
offer_ready sender (some (input_offer j q e a)) = is_some (sender e)

module _ (P : Program) (sheet : Sheet) (s : State) where
  -- what row r would do, noted when it comes to work
  abbrev pub intent_noted : ℕ → Intent
  intent_noted r = intent_at P sheet s r

  -- what a row would do, if there is one
  abbrev pub note_if : Option ℕ → Intent
  note_if none = waits
  note_if (some r) = intent_at P sheet s r

  -- what option j of its ALT offers
  unfoldable pub option_note : ℕ → Option Offer
  option_note j = offer_of j (note_if (alt_of P j))

  -- the row that waits at element e to output, and the one that waits there to input: an input or an ALT
  abbrev pub waiting_output : ℕ → Option ℕ
  waiting_output e = waiting_at P sheet s e

  unfoldable pub waiting_input : ℕ → Option ℕ
  waiting_input e = lowest (λ r. is_input_from e (intent_at P sheet s r)) (length s.states)

  -- whether row j orders a ready step
  unfoldable pub ready_row : ℕ → Bool
  ready_row j = own_ready (waiting_at P sheet s) (intent_at P sheet s j) || offer_ready (waiting_at P sheet s) (option_note j)

  -- how many rows do
  unfoldable pub total : ℕ
  total = count_below ready_row (length s.states)

  -- row j, or its option, wants a sender at element e
  abbrev pub Wants : ℕ → ℕ → Type 0
  Wants j e = (wanted_element (intent_at P sheet s j) ≡ some e) ⊎ (offer_wants (option_note j) ≡ some e)

-- a row that was not at work before a step, and is after it
abbrev pub Comes : Program → Sheet → State → State → ℕ → Type 0
Comes P sheet s t r = (is_live P sheet r s ≡ false) × (is_live P sheet r t ≡ true)

-- a row of the step itself, or one that comes to work by it: the rows that are noted anew
abbrev pub Moved : Program → Sheet → State → Label → State → ℕ → Type 0
Moved P sheet s x t r = RowOf x r ⊎ Comes P sheet s t r
