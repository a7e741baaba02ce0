-- To note a row in the lists, by what it and its options would do, is to note the intent that this stands for.
use mathlib.Core.Path.{◌≡◌, refl, sym, ap, subst, ◌∙◌}
use mathlib.Core.Logic.{◌≢◌}
use mathlib.Core.Option.{Option, none, some}
use mathlib.Core.List.{List, map, flatten}
use Prim.Native.Nat.{ℕ, ◌<◌}
use native.Mathlib.Omega.{arith}
use native.Mathlib.Decide.{ℕ_discrete}
use lib.IntN.{ℤ}
use Rattle.meaning.specs.Rows.{row_count}
use Rattle.meaning.specs.Tree.{AltOption, action_of}
use Rattle.meaning.specs.Values.{Message}
use Rattle.meaning.specs.State.{Store, program, process_at}
use Rattle.meaning.specs.Readings.{Sheet}
use Rattle.meaning.specs.Intent.{Offer, Intent, waits, moves, inputs_from, outputs_to, selects, OptionsResult, fails, offers, selecting}
use Rattle.meaning.specs.Answers.{check}
use Rattle.machine.specs.RowSteps.{alt_of}
use Rattle.run_kept.specs.Noting.{noted}
use Rattle.run_intents.specs.declared.Does.{Does}
use Rattle.run_intents.specs.declared.Does.TheVariants.{Waits, Stops, Assigns, Ends, Starts, Reads, Writes, InputsFrom, OutputsTo, Selects}
use Rattle.run_intents.specs.Does.{option_does, does_of}
use Rattle.run_intents.specs.Stands.{OptionNote, options_of, option_notes, first_stop, offers_of, unless_stops, alt_intent, stands_for}
use Rattle.run_intents.proofs.Ranges.{InRange, NotesInRange, row-in-range}
use Rattle.run_notes.specs.declared.Note.{Note}
use Rattle.run_notes.specs.Notes.{note_numbers, options_at, note_row}
use Rattle.run_notes.proofs.Changes.{test-yes, test-no}
use Rattle.run_noted.specs.Noted.{note_of_intent, noted_by, NotesFit, Tells}
use Rattle.run_noted.proofs.NotedRows.{waits-row, step_row, input-row, stops-row, selects-row}
use Rattle.run_noted.proofs.Sending.{output_row}
use Rattle.run_noted.proofs.Encoded.{does-note, result_of, options-told}

module _ (rows : List ℤ) (ok : check rows ≡ none) (w : ℕ → Intent) (r : ℕ) (l : r < row_count rows) (plain : alt_of (program rows) r ≡ none) (bare : w r ≡ waits) (G : AltOption → Note) where
  -- a row that is no ALT at its options
  pub note-plain : (i : Intent) → (note_of_intent i).what ≢ 9 → NotesFit rows (noted r i w) → note_row rows G r (note_of_intent i) (noted_by rows w) ≡ noted_by rows (noted r i w)
  unfolding note_row
  note-plain waits z F = waits-row rows ok w r l plain bare F
  note-plain (moves x v ws) z F = rw (test-no z) (step_row rows ok w r l plain bare x v ws F)
  note-plain (inputs_from e a) z F = input-row rows ok w r l plain bare e a F
  note-plain (outputs_to e m) z F = output_row rows ok w r l plain bare e m F
  note-plain (selects os) z F = absurd (z refl)

  -- an ALT
  note-alternation : (k : Note) → k.what ≡ 9 → (o : OptionsResult) → Tells G (options_at rows r) o → NotesFit rows (noted r (selecting r o) w) → note_row rows G r k (noted_by rows w) ≡ noted_by rows (noted r (selecting r o) w)
  unfolding note_row
  note-alternation k z (fails j) t F = rw (test-yes z) (stops-row rows ok w r l plain bare G j t F)
  note-alternation k z (offers os) t F = rw (test-yes z) (selects-row rows ok w r l plain bare G os t F)

alt-selects : (sheet : Sheet) (x : Store) (r : ℕ) (ns : List OptionNote) → alt_intent sheet x r ns ≡ unless_stops r (first_stop ns) (flatten (map (offers_of sheet x) ns))
unfolding alt_intent
alt-selects sheet x r ns = refl

-- with what a row and its options would do, from cells, places and counts
module _ (rows : List ℤ) (ok : check rows ≡ none) (w : ℕ → Intent) (r : ℕ) (l : r < row_count rows) (plain : alt_of (program rows) r ≡ none) (bare : w r ≡ waits)
    (sheet : Sheet) (x : Store) (lines : ℕ) (cells : List Message) (places counts : List ℕ) where
  -- the intent that stands for it
  abbrev pub found_intent : Intent
  found_intent = let a = action_of (process_at (program rows) r) in stands_for sheet x r (option_notes lines cells places (options_of a)) (does_of lines cells places counts a)

  found : (d : Does) → InRange d → NotesInRange (option_notes lines cells places (options_at rows r)) → NotesFit rows (noted r (stands_for sheet x r (option_notes lines cells places (options_at rows r)) d) w)
      → note_row rows (λ b. note_numbers (option_does lines cells places b)) r (note_numbers d) (noted_by rows w) ≡ noted_by rows (noted r (stands_for sheet x r (option_notes lines cells places (options_at rows r)) d) w)
  found d h ns F = go (ℕ_discrete (note_numbers d).what 9)
    where
      G : AltOption → Note
      G b = note_numbers (option_does lines cells places b)

      notes : List OptionNote
      notes = option_notes lines cells places (options_at rows r)

      go : Dec ((note_numbers d).what ≡ 9) → note_row rows (λ b. note_numbers (option_does lines cells places b)) r (note_numbers d) (noted_by rows w) ≡ noted_by rows (noted r (stands_for sheet x r (option_notes lines cells places (options_at rows r)) d) w)
      go (no z) =
          let e = does-note sheet x r notes d h z in
          ap (λ (k : Note). note_row rows G r k (noted_by rows w)) e
          ∙ note-plain rows ok w r l plain bare G (stands_for sheet x r notes d) (λ y. z (ap (λ (k : Note). k.what) e ∙ y)) F
      go (yes z) =
          let e : stands_for sheet x r notes d ≡ selecting r result = selected d z in
          note-alternation rows ok w r l plain bare G (note_numbers d) z result (options-told lines cells places sheet x (options_at rows r) ns) (subst (λ (i : Intent). NotesFit rows (noted r i w)) e F)
          ∙ ap (λ (i : Intent). noted_by rows (noted r i w)) (sym e)
        where
          result : OptionsResult
          result = result_of lines cells places sheet x (first_stop notes) (flatten (map (offers_of sheet x) notes))

          selecting-is : (o : Option ℕ) (os : List Offer) → unless_stops r o os ≡ selecting r (result_of lines cells places sheet x o os)
          selecting-is none os = refl
          selecting-is (some k) os = refl

          selected : (d : Does) → (note_numbers d).what ≡ 9 → stands_for sheet x r notes d ≡ selecting r result
          selected Waits z = let y : ◌≡◌ {A = ℕ} 0 9 = z in absurd (omega arith)
          selected (Stops k) z = let y : ◌≡◌ {A = ℕ} 1 9 = z in absurd (omega arith)
          selected (Assigns a v) z = let y : ◌≡◌ {A = ℕ} 2 9 = z in absurd (omega arith)
          selected Ends z = let y : ◌≡◌ {A = ℕ} 3 9 = z in absurd (omega arith)
          selected (Starts q) z = let y : ◌≡◌ {A = ℕ} 4 9 = z in absurd (omega arith)
          selected (Reads a p) z = let y : ◌≡◌ {A = ℕ} 5 9 = z in absurd (omega arith)
          selected (Writes p m) z = let y : ◌≡◌ {A = ℕ} 6 9 = z in absurd (omega arith)
          selected (InputsFrom e a) z = let y : ◌≡◌ {A = ℕ} 7 9 = z in absurd (omega arith)
          selected (OutputsTo e m) z = let y : ◌≡◌ {A = ℕ} 8 9 = z in absurd (omega arith)
          selected Selects z = alt-selects sheet x r notes ∙ selecting-is (first_stop notes) (flatten (map (offers_of sheet x) notes))

  pub note-row : NotesFit rows (noted r found_intent w)
      → note_row rows (λ b. note_numbers (option_does lines cells places b)) r (note_numbers (does_of lines cells places counts (action_of (process_at (program rows) r)))) (noted_by rows w) ≡ noted_by rows (noted r found_intent w)
  unfolding options_at
  note-row F = let h = row-in-range rows ok lines cells places counts r in found (does_of lines cells places counts (action_of (process_at (program rows) r))) h.0 h.1 F
