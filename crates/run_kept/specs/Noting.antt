-- Notes as one list of what rows would do, from which all else that is kept follows: who waits, and the bits. A step takes the notes of its rows off; each row that comes to work is then noted, one after another.
use Rattle.std.specs.Prelude.{Bool, false, ◌||◌, ℕ, eqb}
use Rattle.std.proofs.Math.Option.{Option, none, some}
use Rattle.meaning.specs.Basics.{if_else, lowest}
use Rattle.meaning.specs.Labels.{Label}
use Rattle.meaning.specs.Intent.{Intent, waits}
use Rattle.machine.specs.RowSteps.{is_output_to}
use Rattle.run_kept.specs.Kept.{is_input_from, offer_of, own_ready, offer_ready}
use Rattle.run_kept.specs.Mending.{is_row_of}

module _ (n : ℕ) (alt : ℕ → Option ℕ) (w : ℕ → Intent) where
  -- who waits at an element, by the notes of n rows
  unfoldable pub output_noted : ℕ → Option ℕ
  output_noted e = lowest (λ r. is_output_to e (w r)) n

  unfoldable pub input_noted : ℕ → Option ℕ
  input_noted e = lowest (λ r. is_input_from e (w r)) n

  -- the note of a row, if there is one
  abbrev pub note_of : Option ℕ → Intent
  note_of none = waits
  note_of (some r) = w r

  -- the bit of row j
  unfoldable pub bit_in : ℕ → Bool
  bit_in j = own_ready output_noted (w j) || offer_ready output_noted (offer_of j (note_of (alt j)))

-- the notes of a step's rows taken off
abbrev pub off : Label → (ℕ → Intent) → ℕ → Intent
off x w r = if_else (is_row_of x r) waits (w r)

-- row r noted
abbrev pub noted : ℕ → Intent → (ℕ → Intent) → ℕ → Intent
noted r i w q = if_else (eqb r q) i (w q)

-- whether a row that would do i outputs to an element, if there is one
abbrev pub outputs_to_element : Intent → Option ℕ → Bool
outputs_to_element i none = false
outputs_to_element i (some e) = is_output_to e i
