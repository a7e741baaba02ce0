-- At the start no row is noted: all lists are of zeros.
use mathlib.Core.Path.{◌≡◌, refl, sym, ap, ap₂, ◌∙◌}
use mathlib.Core.Bool.{false}
use mathlib.Core.Option.{Option, none, some}
use mathlib.Core.List.{List, [], ◌∷◌, ◌++◌}
use Prim.Native.Nat.{ℕ, zero, suc, ◌*◌}
use lib.IntN.{ℤ, pos}
use lib.ListN.{replicate, replicate-append-replicate}
use Rattle.meaning.specs.Rows.{row_count}
use Rattle.meaning.specs.State.{program}
use Rattle.meaning.specs.Intent.{waits}
use Rattle.machine.specs.RowSteps.{is_output_to, alt_of}
use Rattle.run_parents.specs.Marks.{row_note}
use Rattle.run_kept.specs.Kept.{is_input_from, offer_of, offer_ready}
use Rattle.run_kept.specs.Noting.{output_noted, input_noted, note_of, bit_in}
use Rattle.run_kept.proofs.TakenOff.{found_nothing}
use Rattle.run_ready_bits.specs.Bits.{no_rows, bits_of}
use Rattle.run_notes.specs.Notes.{lists_of}
use Rattle.run_noted.specs.Noted.{no_note, listed, act_numbers, lists_for, numbers_of, note_in, noted_by}
use Rattle.run_noted.proofs.Blocks.{Sized, one, two, three}
use Rattle.run_noted.proofs.Contents.{lists-same}

module _ {A : Type 0} where
  all_same : (k : ℕ) → Sized k → (a : A) (n : ℕ) → listed (λ j. replicate k a) n ≡ replicate (k * n) a
  unfolding listed
  all_same k S a zero = ap (λ (m : ℕ). replicate m a) (sym S.none)
  all_same k S a (suc n) = ap (λ (l : List A). l ++ replicate k a) (all_same k S a n) ∙ replicate-append-replicate (k * n) k a ∙ ap (λ (m : ℕ). replicate m a) (sym (S.next n))

no_bits : (n : ℕ) → bits_of (λ j. false) n ≡ no_rows
unfolding bits_of
no_bits zero = refl
no_bits (suc n) = no_bits n

zeros : (n : ℕ) → lists_of (replicate 3072 0) (replicate 1024 (pos 0)) (replicate 512 0) no_rows ≡ lists_for n (λ j. no_note) (λ e. 0) (λ e. 0) (λ j. false)
unfolding lists_for
zeros n =
    ap₂ (λ (a : List ℕ) (s : List ℤ). lists_of a s (replicate 512 0) no_rows) (sym (all_same 3 three 0 1024)) (sym (all_same 1 one (pos 0) 1024))
    ∙ ap₂ (λ (e b : List ℕ). lists_of (listed (λ j. act_numbers no_note) 1024) (listed (λ j. pos 0 ∷ []) 1024) e b) (sym (all_same 2 two 0 256)) (sym (no_bits n))

module _ (rows : List ℤ) where
  abbrev n : ℕ
  n = row_count rows

  no_note_lem : (j : ℕ) → no_note ≡ note_in rows (λ r. waits) j
  unfolding note_in
  no_note_lem j = go (alt_of (program rows) j)
    where
      go : (o : Option ℕ) → no_note ≡ numbers_of rows (λ r. waits) j o
      go none = refl
      go (some r) = refl

  no-receiver : (e : ℕ) → 0 ≡ row_note (input_noted (row_count rows) (alt_of (program rows)) (λ r. waits) e)
  unfolding input_noted
  no-receiver e = ap row_note (sym (found_nothing (λ r. is_input_from e waits) n (λ j l t. t)))

  no-sender : (e : ℕ) → 0 ≡ row_note (output_noted (row_count rows) (alt_of (program rows)) (λ r. waits) e)
  unfolding output_noted
  no-sender e = ap row_note (sym (found_nothing (λ r. is_output_to e waits) n (λ j l t. t)))

  no-bit : (j : ℕ) → false ≡ bit_in (row_count rows) (alt_of (program rows)) (λ r. waits) j
  unfolding bit_in
  no-bit j = go (alt_of (program rows) j)
    where
      go : (o : Option ℕ) → false ≡ offer_ready (output_noted n (alt_of (program rows)) (λ r. waits)) (offer_of j (note_of n (alt_of (program rows)) (λ r. waits) o))
      go none = refl
      go (some r) = refl

  -- the lists at the start
  pub start-noted : lists_of (replicate 3072 0) (replicate 1024 (pos 0)) (replicate 512 0) no_rows ≡ noted_by rows (λ r. waits)
  unfolding noted_by
  start-noted = zeros n ∙ lists-same n no_note_lem no-receiver no-sender (λ j l. no-bit j)
