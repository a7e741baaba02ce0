-- A row that came to work is noted as what it would do: with these cells, places in the readings and counts of the strips, and so many lines of readings.
use Rattle.std.specs.Prelude.{List, ℕ, ℤ}
use Rattle.meaning.specs.Values.{Message}
use Rattle.meaning.specs.Tree.{AltOption, action_of}
use Rattle.meaning.specs.State.{program, process_at}
use Rattle.run_intents.specs.Does.{option_does, does_of}
use Rattle.run_notes.specs.declared.Note.{Note}
use Rattle.run_notes.specs.declared.Notes.{Notes}
use Rattle.run_notes.specs.Notes.{Noted, note_numbers, note_options, note_alt, note_row}

module _ (lines : ℕ) (cells : List Message) (places : List ℕ) where
  -- the note of an option
  abbrev pub option_note : AltOption → Note
  option_note b = note_numbers (option_does lines cells places b)

  -- the options of ALT r are noted, and what the ALT would do is its note
  abbrev pub options_noted : List ℤ → ℕ → List AltOption → Notes → Noted
  options_noted rows r bs m = note_options rows option_note r bs m

  -- ALT r is noted
  abbrev pub alt_noted : List ℤ → ℕ → Notes → Notes
  alt_noted rows r m = note_alt rows option_note r m

  -- row r is noted
  abbrev pub row_noted : List ℕ → List ℤ → ℕ → Notes → Notes
  row_noted counts rows r m = note_row rows option_note r (note_numbers (does_of lines cells places counts (action_of (process_at (program rows) r)))) m
