-- How the total of ready steps is mended after a step, as tests of rows: whose bits the step takes off, whose are noted anew, and which a sender that came wakes.
use Rattle.std.specs.Prelude.{Bool, false, not, ◌&&◌, ◌||◌, ℕ, eqb}
use Rattle.std.proofs.Math.Option.{Option, none, some}
use Rattle.meaning.specs.State.{State, Program}
use Rattle.meaning.specs.Labels.{Label, own, pass, take_option, take_with_output}
use Rattle.meaning.specs.Readings.{Sheet}
use Rattle.meaning.specs.Ready.{is_live, intent_at}
use Rattle.machine.specs.RowSteps.{alt_of, waiting_at}
use Rattle.run_kept.specs.Kept.{wanted_element, offer_wants, option_note, ready_row}

-- whether a row is one of a step's rows
abbrev pub is_row_of : Label → ℕ → Bool
is_row_of (own r) j = eqb r j
is_row_of (pass i o) j = eqb i j || eqb o j
is_row_of (take_option r i) j = eqb r j
is_row_of (take_with_output r i o) j = eqb r j || eqb o j

-- a test of a number, if there is one
abbrev pub passes_if : (ℕ → Bool) → Option ℕ → Bool
passes_if f none = false
passes_if f (some r) = f r

module _ (P : Program) (sheet : Sheet) (s : State) (x : Label) (t : State) where
  -- whether row r is of the step, or comes to work by it
  abbrev pub is_moved : ℕ → Bool
  is_moved r = is_row_of x r || (not (is_live P sheet r s) && is_live P sheet r t)

  -- whether row j or its ALT is of the step; whether it is noted anew
  unfoldable pub steps : ℕ → Bool
  steps j = is_row_of x j || passes_if (is_row_of x) (alt_of P j)

  unfoldable pub anew : ℕ → Bool
  anew j = is_moved j || passes_if is_moved (alt_of P j)

  -- whether a sender that is noted anew waits at an element, if there is one
  abbrev pub wakes : Option ℕ → Bool
  wakes d = passes_if (λ e. passes_if is_moved (waiting_at P sheet t e)) d

  -- the bits that the step takes off: those of its rows
  unfoldable pub taken_off : ℕ → Bool
  taken_off j = ready_row P sheet s j && steps j

  -- the bits that rows noted anew raise
  unfoldable pub raised_bits : ℕ → Bool
  raised_bits j = ready_row P sheet t j && anew j

  -- the bits of rows that were waiting, raised by a sender that came
  unfoldable pub woken : ℕ → Bool
  woken j = not (anew j) && (wakes (wanted_element (intent_at P sheet s j)) || wakes (offer_wants (option_note P sheet s j)))
