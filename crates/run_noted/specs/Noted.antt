-- The four lists of the machine as functions of the notes: what each row would do, and so who waits at each element and which rows have a ready step.
use Rattle.std.specs.Prelude.{◌≡◌, ◌≢◌, ◌⊎◌, Bool, List, [], ◌∷◌, ◌++◌, ℕ, zero, suc, ◌-◌, ◌<◌, ◌≤◌, ℤ, pos, T, eqb}
use Rattle.std.proofs.Math.Option.{Option, none, some}
use Rattle.meaning.specs.Basics.{if_else}
use Rattle.meaning.specs.Rows.{row_count}
use Rattle.meaning.specs.Values.{Message}
use Rattle.meaning.specs.State.{program, Write, write_cell, write_place, write_output}
use Rattle.meaning.specs.Buffers.{mark, number_in}
use Rattle.meaning.specs.Intent.{Offer, open_offer, input_offer, OptionsResult, fails, offers, Intent, waits, moves, inputs_from, outputs_to, selects}
use Rattle.meaning.specs.Labels.{Label, own, pass, take_option, take_with_output}
use Rattle.meaning.specs.Tree.{AltOption}
use Rattle.meaning.specs.Ready.{option_row}
use Rattle.machine.specs.RowSteps.{is_output_to, alt_of}
use Rattle.run_parents.specs.Marks.{row_note}
use Rattle.run_kept.specs.Kept.{is_input_from, offer_of}
use Rattle.run_kept.specs.Noting.{output_noted, input_noted, bit_in}
use Rattle.run_ready_bits.specs.Bits.{bits_of}
use Rattle.run_notes.specs.declared.Note.{Note}
use Rattle.run_notes.specs.declared.Notes.{Notes}
use Rattle.run_notes.specs.Notes.{lists_of, note, options_at, leave_row}

-- the note of nothing
abbrev pub no_note : Note
no_note = note 0 0 0 (pos 0)

-- the last of some messages
abbrev pub last_of : List Message → Message
last_of [] = none
last_of (m ∷ []) = m
last_of (m ∷ k ∷ l) = last_of (k ∷ l)

-- a step by itself, by which row x becomes v: it starts a row, ends or stops; it assigns; it reads; it writes
abbrev pub note_of_move : ℕ → ℕ → List Write → Note
note_of_move x v [] = if_else (eqb v 1) (note 4 x 0 (pos 0)) (if_else (eqb v 2) (note 3 0 0 (pos 0)) (note 1 (v - 10) 0 (pos 0)))
note_of_move x v (write_cell a m ∷ []) = note 2 0 a (number_in m)
note_of_move x v (write_cell a m ∷ write_cell b k ∷ ws) = note 3 0 0 (pos 0)
note_of_move x v (write_cell a m ∷ write_place p n ∷ ws) = note 5 p a (pos 0)
note_of_move x v (write_cell a m ∷ write_output p l ∷ ws) = note 3 0 0 (pos 0)
note_of_move x v (write_place p n ∷ ws) = note 3 0 0 (pos 0)
note_of_move x v (write_output p l ∷ ws) = note 6 p (mark (last_of l)) (number_in (last_of l))

-- what a row would do
abbrev pub note_of_intent : Intent → Note
note_of_intent waits = no_note
note_of_intent (moves x v ws) = note_of_move x v ws
note_of_intent (inputs_from e a) = note 7 e a (pos 0)
note_of_intent (outputs_to e m) = note 8 e (mark m) (number_in m)
note_of_intent (selects os) = note 9 0 0 (pos 0)

-- what an option that needs no partner offers: its process starts, after a reading or none
abbrev pub note_of_open : ℕ → List Write → Note
note_of_open q [] = note 4 q 0 (pos 0)
note_of_open q (write_cell a m ∷ []) = note 4 q 0 (pos 0)
note_of_open q (write_cell a m ∷ write_cell b k ∷ ws) = note 4 q 0 (pos 0)
note_of_open q (write_cell a m ∷ write_place p n ∷ ws) = note 5 p a (pos 0)
note_of_open q (write_cell a m ∷ write_output p l ∷ ws) = note 4 q 0 (pos 0)
note_of_open q (write_place p n ∷ ws) = note 4 q 0 (pos 0)
note_of_open q (write_output p l ∷ ws) = note 4 q 0 (pos 0)

-- what an option offers
abbrev pub note_of_offer : Option Offer → Note
note_of_offer none = no_note
note_of_offer (some (open_offer j q ws)) = note_of_open q ws
note_of_offer (some (input_offer j q e a)) = note 7 e a (pos 0)

module _ {A : Type 0} where
  -- what n things list, one after another
  unfoldable pub listed : (ℕ → List A) → ℕ → List A
  listed f zero = []
  listed f (suc n) = listed f n ++ f n

-- the four lists of notes, of receivers and senders at elements, and of bits of n rows
abbrev pub act_numbers : Note → List ℕ
act_numbers k = k.what ∷ k.at ∷ k.third ∷ []

unfoldable pub lists_for : ℕ → (ℕ → Note) → (ℕ → ℕ) → (ℕ → ℕ) → (ℕ → Bool) → Notes
lists_for n f g h b = lists_of (listed (λ j. act_numbers (f j)) 1024) (listed (λ j. (f j).number ∷ []) 1024) (listed (λ e. g e ∷ h e ∷ []) 256) (bits_of b n)

module _ (rows : List ℤ) (w : ℕ → Intent) where
  -- the numbers of row j: of an option, by what its ALT would do
  abbrev pub numbers_of : ℕ → Option ℕ → Note
  numbers_of j none = note_of_intent (w j)
  numbers_of j (some r) = note_of_offer (offer_of j (w r))

  unfoldable pub note_in : ℕ → Note
  note_in j = numbers_of j (alt_of (program rows) j)

  -- who waits at an element
  abbrev pub receiver_in : ℕ → ℕ
  receiver_in e = row_note (input_noted (row_count rows) (alt_of (program rows)) w e)

  abbrev pub sender_in : ℕ → ℕ
  sender_in e = row_note (output_noted (row_count rows) (alt_of (program rows)) w e)

  -- the four lists
  unfoldable pub noted_by : Notes
  noted_by = lists_for (row_count rows) note_in receiver_in sender_in (bit_in (row_count rows) (alt_of (program rows)) w)

-- what an ALT offers is of its options, in order, of each option once
pub data Offered : List AltOption → List Offer → Type 0 where
  offers-none : Offered [] []
  passed : {b : AltOption} {bs : List AltOption} {os : List Offer} → Offered bs os → Offered (b ∷ bs) os
  taken : {b : AltOption} {bs : List AltOption} {o : Offer} {os : List Offer} → option_row o ≡ b.row → Offered bs os → Offered (b ∷ bs) (o ∷ os)

-- notes that the rows of a table can have together: rows past the table and options by themselves do nothing, an ALT offers what its options do, and one row at most waits to input at an element, and one to output
pub record NotesFit (rows : List ℤ) (w : ℕ → Intent) : Type 0 where
  pub outside : (r : ℕ) → row_count rows ≤ r → w r ≡ waits
  pub option-waits : (j r : ℕ) → alt_of (program rows) j ≡ some r → w j ≡ waits
  pub offered : (r : ℕ) (os : List Offer) → w r ≡ selects os → Offered (options_at rows r) os
  pub receives-at : (e r : ℕ) → T (is_input_from e (w r)) → e < 256
  pub sends-to : (e r : ℕ) → T (is_output_to e (w r)) → e < 256
  pub one-receiver : (e a b : ℕ) → T (is_input_from e (w a)) → T (is_input_from e (w b)) → a ≡ b
  pub one-sender : (e a b : ℕ) → T (is_output_to e (w a)) → T (is_output_to e (w b)) → a ≡ b

-- notes of some rows: each note is that of v, or bare
abbrev pub Under : (ℕ → Intent) → (ℕ → Intent) → Type 0
Under w v = (r : ℕ) → (w r ≡ v r) ⊎ (w r ≡ waits)

-- what the options of an ALT would do, told by f, comes to what they result in: the first that lacks a value, or what they offer
pub data Tells (f : AltOption → Note) : List AltOption → OptionsResult → Type 0 where
  tells_none : Tells f [] (offers [])
  lacks-here : {b : AltOption} {bs : List AltOption} {k : ℕ} → f b ≡ note 1 k 0 (pos 0) → Tells f (b ∷ bs) (fails k)
  lacks-later : {b : AltOption} {bs : List AltOption} {k : ℕ} → (f b).what ≢ 1 → Tells f bs (fails k) → Tells f (b ∷ bs) (fails k)
  waits-here : {b : AltOption} {bs : List AltOption} {os : List Offer} → f b ≡ no_note → Tells f bs (offers os) → Tells f (b ∷ bs) (offers os)
  offers-here : {b : AltOption} {bs : List AltOption} {o : Offer} {os : List Offer} → f b ≡ note_of_offer (some o) → option_row o ≡ b.row → Tells f bs (offers os) → Tells f (b ∷ bs) (offers (o ∷ os))

-- the notes of a step's rows are taken off: first of the row whose step it is, then of the sender
abbrev pub step_left : List ℤ → Label → Notes → Notes
step_left rows (own r) m = leave_row rows r m
step_left rows (pass i o) m = leave_row rows o (leave_row rows i m)
step_left rows (take_option r j) m = leave_row rows r m
step_left rows (take_with_output r j o) m = leave_row rows o (leave_row rows r m)
