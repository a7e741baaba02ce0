-- In a state of an order the bits of its notes show the rows that order a ready step.
use mathlib.Core.Path.{◌≡◌, sym, ap, subst, ◌∙◌, fun_ext}
use mathlib.Core.Bool.{Bool}
use mathlib.Core.Option.{none}
use mathlib.Core.List.{List}
use Prim.Native.Nat.{ℕ}
use lib.IntN.{ℤ}
use Rattle.meaning.specs.Rows.{row_count}
use Rattle.meaning.specs.State.{State, program}
use Rattle.meaning.specs.Labels.{Label}
use Rattle.meaning.specs.Readings.{Sheet}
use Rattle.meaning.specs.Ready.{intent_at}
use Rattle.meaning.specs.Order.{OrderOf}
use Rattle.meaning.specs.Answers.{check}
use Rattle.agreement.proofs.TableFit.{rows-limit}
use Rattle.machine.specs.RowSteps.{alt_of}
use Rattle.machine.proofs.RowTables.{states-length}
use Rattle.run_kept.specs.Kept.{ready_row}
use Rattle.run_kept.specs.Noting.{bit_in}
use Rattle.run_kept.proofs.Noting.{bits-of-notes}
use Rattle.run_ready_bits.specs.Bits.{Shown, bits_of}
use Rattle.run_ready_bits.proofs.Contents.{bits-shown}
use Rattle.run_notes.specs.declared.Notes.{Notes}
use Rattle.run_noted.specs.Noted.{lists_for, noted_by}

module _ (rows : List ℤ) (ok : check rows ≡ none) (sheet : Sheet) (l : List Label) (s : State) (o : OrderOf rows sheet l s) where
  -- the bits of the notes
  bits_are : (m : Notes) → m ≡ noted_by rows (intent_at (program rows) sheet s) → m.bits ≡ bits_of (bit_in (row_count rows) (alt_of (program rows)) (intent_at (program rows) sheet s)) (row_count rows)
  unfolding noted_by lists_for
  bits_are m e = ap (λ (k : Notes). k.bits) e

  ready-same : bit_in (row_count rows) (alt_of (program rows)) (intent_at (program rows) sheet s) ≡ ready_row (program rows) sheet s
  ready-same =
      fun_ext (λ j. ap (λ (n : ℕ). bit_in n (alt_of (program rows)) (intent_at (program rows) sheet s) j) (sym (states-length rows ok sheet l s o)) ∙ sym (bits-of-notes (program rows) sheet s j))

  pub bits-told : (m : Notes) → m ≡ noted_by rows (intent_at (program rows) sheet s) → Shown (ready_row (program rows) sheet s) (row_count rows) m.bits
  bits-told m e =
      subst (λ (ws : List ℕ). Shown (ready_row (program rows) sheet s) (row_count rows) ws)
      (ap (λ (f : ℕ → Bool). bits_of f (row_count rows)) (sym ready-same) ∙ sym (bits_are m e))
      (bits-shown (ready_row (program rows) sheet s) (row_count rows) (rows-limit rows ok))
