-- One turn of the run, and all that the machine notes: from the notes of a state of the run's order to those of the next.
use mathlib.Core.Path.{◌≡◌, refl, sym, ap, ◌∙◌}
use mathlib.Core.Logic.{◌⊎◌, inl, inr, ⊎_elim}
use mathlib.Core.Bool.{Bool, true, false}
use mathlib.Core.Option.{none}
use mathlib.Core.List.{List, [], ◌∷◌, Memᴰ}
use Prim.Native.Nat.{ℕ, ◌<◌}
use lib.IntN.{ℤ}
use Rattle.meaning.specs.Basics.{if_else}
use Rattle.meaning.specs.Rows.{row_count}
use Rattle.meaning.specs.Tree.{action_of}
use Rattle.meaning.specs.Values.{Message}
use Rattle.meaning.specs.State.{State, program, process_at, Effect}
use Rattle.meaning.specs.Labels.{Label}
use Rattle.meaning.specs.Readings.{Sheet}
use Rattle.meaning.specs.Settle.{start}
use Rattle.meaning.specs.Intent.{Intent, waits}
use Rattle.meaning.specs.Ready.{intent_at, is_live, after}
use Rattle.meaning.specs.Buffers.{Buffers}
use Rattle.meaning.specs.Order.{OrderOf}
use Rattle.meaning.specs.Answers.{check}
use Rattle.meaning.proofs.Decides.{Decides, failing}
use Rattle.agreement.specs.RowsOfSteps.{RowOf}
use Rattle.agreement.proofs.Active.{Active}
use Rattle.machine.specs.Came.{listed_rows}
use Rattle.machine.proofs.CameRows.{WorkListed}
use Rattle.machine.proofs.LiveRows.{intent-is}
use Rattle.run_kept.specs.Mending.{is_row_of}
use Rattle.run_kept.specs.Noting.{off, noted}
use Rattle.run_kept.proofs.Mending.{decides-row}
use Rattle.run_kept.proofs.Noting.{off-or-moved}
use Rattle.run_values.specs.Cells.{cells_in}
use Rattle.run_intents.specs.Does.{option_does, does_of}
use Rattle.run_notes.specs.declared.Notes.{Notes}
use Rattle.run_notes.specs.Notes.{note_numbers, note_row}
use Rattle.run_noted.specs.Noted.{noted_by, Under}
use Rattle.run_turns.specs.Turns.{note_listed}
use Rattle.run_turns.proofs.NotedInTurn.{all_are, step_all, all_shown}

module _ (rows : List ℤ) (cells : List Message) (places counts : List ℕ) (lines : ℕ) where
  -- row r is noted
  abbrev note_one : ℕ → Notes → Notes
  note_one r m = note_row rows (λ b. note_numbers (option_does lines cells places b)) r (note_numbers (does_of lines cells places counts (action_of (process_at (program rows) r)))) m

  listed-each : (v : ℕ → Intent) (l : List ℕ) (m : Notes) → note_listed rows cells places counts lines l m ≡ step_all v (noted_by rows) note_one l m
  listed-each v [] m = refl
  listed-each v (r ∷ l) m = listed-each v l (note_one r m)

-- to note a row at work in t, from notes under those of t, takes its note to that of t
abbrev pub NotesRight : (rows : List ℤ) → Sheet → ℕ → State → Buffers → Type 0
NotesRight rows sheet lines t b = (r : ℕ) → r < row_count rows → is_live (program rows) sheet r t ≡ true → (w : ℕ → Intent) → Under w (intent_at (program rows) sheet t) → w r ≡ waits
    → note_one rows (cells_in b.cells b.marks) b.places b.counts lines r (noted_by rows w) ≡ noted_by rows (noted r (intent_at (program rows) sheet t r) w)

module _ (rows : List ℤ) (ok : check rows ≡ none) (sheet : Sheet) (lines : ℕ) where
  -- from notes that are bare or those of t, where rows that are not listed have theirs, and those that are listed are bare
  all_noted : (Those : ℕ → Type 0) (t : State) (b : Buffers) → NotesRight rows sheet lines t b → (came : List ℕ) → WorkListed rows ok sheet Those t came
      → (w : ℕ → Intent) → Under w (intent_at (program rows) sheet t) → ((r : ℕ) → Memᴰ r (listed_rows came) → w r ≡ waits) → ((r : ℕ) → (Memᴰ r (listed_rows came) → ⊥) → w r ≡ intent_at (program rows) sheet t r)
      → note_listed rows (cells_in b.cells b.marks) b.places b.counts lines (listed_rows came) (noted_by rows w) ≡ noted_by rows (intent_at (program rows) sheet t)
  all_noted Those t b N came W w u bare rest =
      let v = intent_at (program rows) sheet t in
      listed-each rows (cells_in b.cells b.marks) b.places b.counts lines v (listed_rows came) (noted_by rows w)
      ∙ all_shown v (noted_by rows) (note_one rows (cells_in b.cells b.marks) b.places b.counts lines) (listed_rows came) W.once (λ r x m. N r (W.below r m) (W.live r m) x) w u bare
      ∙ ap (noted_by rows) (all_are v (listed_rows came) W.once w rest)

  -- at the start no row is noted, and every row at work is listed
  pub start-noted-all : (b : Buffers) → NotesRight rows sheet lines (start (program rows)) b → (came : List ℕ) → WorkListed rows ok sheet (λ r. Unit {0}) (start (program rows)) came
      → note_listed rows (cells_in b.cells b.marks) b.places b.counts lines (listed_rows came) (noted_by rows (λ r. waits)) ≡ noted_by rows (intent_at (program rows) sheet (start (program rows)))
  start-noted-all b N came W = all_noted (λ r. Unit {0}) (start (program rows)) b N came W (λ r. waits) (λ r. inr refl) (λ r m. refl) (λ r m. sym (W.waiting r tt m))

  module _ (l : List Label) (s : State) (o : OrderOf rows sheet l s) {x : Label} {e : Effect} (A : Active (intent_at (program rows) sheet s) x e) where
    abbrev t : State
    t = after (program rows) sheet x s

    abbrev w : ℕ → Intent
    w = off x (intent_at (program rows) sheet s)

    -- with the step's rows taken off, each note is that of the state after the step, or bare
    under : Under w (intent_at (program rows) sheet t)
    under r = ⊎_elim (λ q. inl q) (λ q. inr q.0) (off-or-moved rows ok sheet l s o A r)

    module _ (came : List ℕ) (W : WorkListed rows ok sheet (λ r. RowOf x r ⊎ (is_live (program rows) sheet r s ≡ false)) t came) where
      -- those that are listed are bare
      bare : (r : ℕ) → Memᴰ r (listed_rows came) → w r ≡ waits
      bare r m = go (is_row_of x r) (decides-row x r) (W.those r m)
        where
          go : (b : Bool) → Decides (RowOf x r) b → RowOf x r ⊎ (is_live (program rows) sheet r s ≡ false) → if_else b waits (intent_at (program rows) sheet s r) ≡ waits
          go true d h = refl
          go false (failing d) (inl h) = absurd (d h)
          go false d (inr h) = intent-is rows sheet s r false h

      -- those that are not are right
      rest : (r : ℕ) → (Memᴰ r (listed_rows came) → ⊥) → w r ≡ intent_at (program rows) sheet t r
      rest r m = ⊎_elim (λ q. q) (λ q. q.0 ∙ sym (W.waiting r (⊎_elim (λ a. inl a) (λ a. inr a.0) q.1) m)) (off-or-moved rows ok sheet l s o A r)

      -- so all rows are noted right once those are
      pub turn-noted-all : (b : Buffers) → NotesRight rows sheet lines t b
          → note_listed rows (cells_in b.cells b.marks) b.places b.counts lines (listed_rows came) (noted_by rows (off x (intent_at (program rows) sheet s))) ≡ noted_by rows (intent_at (program rows) sheet t)
      turn-noted-all b N = all_noted (λ r. RowOf x r ⊎ (is_live (program rows) sheet r s ≡ false)) t b N came W w under bare rest
