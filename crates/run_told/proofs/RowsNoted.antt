-- To note a row at work in a state of an order, from notes of some of its rows, is to note what it would do there: where the arrays hold the state and the readings.
use mathlib.Core.Path.{◌≡◌, refl, sym, ap, subst, ◌∙◌}
use mathlib.Core.Bool.{true}
use mathlib.Core.Option.{Option, none, some, none-ne-some}
use mathlib.Core.List.{List}
use Prim.Native.Nat.{ℕ, ◌<◌}
use lib.IntN.{ℤ}
use Rattle.meaning.specs.Rows.{row_count}
use Rattle.meaning.specs.Tree.{action_of, node}
use Rattle.meaning.specs.State.{State, program, process_at}
use Rattle.meaning.specs.Labels.{Label}
use Rattle.meaning.specs.Readings.{Sheet}
use Rattle.meaning.specs.Intent.{Intent, waits}
use Rattle.meaning.specs.Ready.{is_live, intent_at}
use Rattle.meaning.specs.Buffers.{Buffers}
use Rattle.meaning.specs.Order.{OrderOf}
use Rattle.meaning.specs.Answers.{check}
use Rattle.meaning.proofs.AnswerLaws.{accepted}
use Rattle.agreement.proofs.TableFit.{inside-stands}
use Rattle.machine.specs.RowSteps.{alt_of}
use Rattle.machine.specs.Held.{HoldsState, KeptReadings}
use Rattle.machine.proofs.RowReady.{alt-is}
use Rattle.machine.proofs.RowKinds.{option-kind, no-process}
use Rattle.machine.proofs.LiveRows.{intent-is}
use Rattle.machine.proofs.Declared.{room}
use Rattle.machine.proofs.StateSizes.{lengths}
use Rattle.machine.proofs.Unmoved.{live-row-works}
use Rattle.run_kept.specs.Noting.{noted}
use Rattle.run_values.specs.Cells.{cells_in}
use Rattle.run_intents.specs.Does.{option_does, does_of}
use Rattle.run_intents.specs.Stands.{options_of, option_notes, stands_for}
use Rattle.run_intents.proofs.Standing.{row-stands}
use Rattle.run_intents.proofs.Stores.{store-held}
use Rattle.run_notes.specs.Notes.{note_numbers, note_row}
use Rattle.run_noted.specs.Noted.{noted_by, NotesFit, Under}
use Rattle.run_noted.proofs.RowNoted.{note-row}
use Rattle.run_noted.proofs.NotesFit.{noted-under, notes-fit-under}

module _ (rows : List ℤ) (ok : check rows ≡ none) (sheet : Sheet) (l : List Label) (t : State) (o : OrderOf rows sheet l t) (r : ℕ) (live : is_live (program rows) sheet r t ≡ true) where
  -- a row at work is no option
  pub live-plain : alt_of (program rows) r ≡ none
  live-plain = go (alt_of (program rows) r) refl
    where
      go : (a : Option ℕ) → alt_of (program rows) r ≡ a → a ≡ none
      go none e = refl
      go (some q) e =
          let B = live-row-works rows ok sheet l t o r live in
          absurd (none-ne-some (node B.action r B.listed) (sym (no-process rows r (option-kind rows q r (alt-is (program rows) q r e))) ∙ inside-stands rows ((accepted rows).0 ok) B.action r B.listed B.sub))

  module _ (readings : List ℤ) (given : List ℕ) (lines : ℕ) (kept : KeptReadings rows sheet readings given lines) (b : Buffers) (h : HoldsState rows t b) where
    -- what is found of it stands for what it would do
    pub found-is : intent_at (program rows) sheet t r ≡ stands_for sheet t.store r (option_notes lines (cells_in b.cells b.marks) b.places (options_of (action_of (process_at (program rows) r)))) (does_of lines (cells_in b.cells b.marks) b.places b.counts (action_of (process_at (program rows) r)))
    found-is =
        intent-is rows sheet t r true live
        ∙ row-stands rows sheet t.store readings given lines b.cells b.marks b.places b.counts kept (store-held rows (room rows ok) t (lengths rows ok sheet l t o) b h) r

    pub row-noted : r < row_count rows → (w : ℕ → Intent) → Under w (intent_at (program rows) sheet t) → w r ≡ waits
        → note_row rows (λ a. note_numbers (option_does lines (cells_in b.cells b.marks) b.places a)) r (note_numbers (does_of lines (cells_in b.cells b.marks) b.places b.counts (action_of (process_at (program rows) r)))) (noted_by rows w)
        ≡ noted_by rows (noted r (intent_at (program rows) sheet t r) w)
    row-noted i w u bare =
        note-row rows ok w r i live-plain bare sheet t.store lines (cells_in b.cells b.marks) b.places b.counts
        (subst (λ (k : Intent). NotesFit rows (noted r k w)) found-is (notes-fit-under rows ok sheet l t o (noted r (intent_at (program rows) sheet t r) w) (noted-under (intent_at (program rows) sheet t) w u r)))
        ∙ ap (λ (k : Intent). noted_by rows (noted r k w)) (sym found-is)
