-- The lists of the notes of a state of an order tell what each row would do, what options offer, and who waits to output.
use mathlib.Core.Path.{◌≡◌, refl, sym, ap, ◌∙◌}
use mathlib.Core.Logic.{◌≢◌}
use mathlib.Core.Option.{none, some}
use mathlib.Core.List.{List, [], ◌∷◌, ◌++◌}
use Prim.Native.Nat.{ℕ, ◌+◌, ◌*◌, ◌<◌}
use native.Mathlib.Omega.{arith}
use lib.IntN.{ℤ, pos}
use lib.ListN.{get_or}
use lib.Dec.{T}
use Rattle.meaning.specs.Rows.{row_count}
use Rattle.meaning.specs.Values.{Message}
use Rattle.meaning.specs.State.{State, program, write_cell, write_place, write_output}
use Rattle.meaning.specs.Labels.{Label}
use Rattle.meaning.specs.Readings.{Sheet}
use Rattle.meaning.specs.Intent.{Offer, open_offer, input_offer, Intent, waits, moves, halts, inputs_from, outputs_to, selects}
use Rattle.meaning.specs.Ready.{intent_at}
use Rattle.meaning.specs.Buffers.{mark, number_in}
use Rattle.meaning.specs.Order.{OrderOf}
use Rattle.meaning.specs.Answers.{check}
use Rattle.agreement.specs.RowsOfSteps.{offer_at}
use Rattle.agreement.proofs.TableFit.{rows-limit}
use Rattle.machine.specs.RowSteps.{is_output_to, alt_of, waiting_at}
use Rattle.machine.proofs.RowTables.{states-length}
use Rattle.run_parents.specs.Marks.{row_note}
use Rattle.run_kept.specs.Kept.{offer_of}
use Rattle.run_kept.specs.Noting.{output_noted}
use Rattle.run_kept.proofs.Waiting.{one-sender, sender-is, waiter-waits}
use Rattle.run_notes.specs.declared.Note.{Note}
use Rattle.run_notes.specs.declared.Notes.{Notes}
use Rattle.run_notes.specs.Notes.{note, options_at}
use Rattle.run_noted.specs.Noted.{note_of_intent, note_of_offer, listed, act_numbers, lists_for, note_in, receiver_in, sender_in, noted_by, NotesFit}
use Rattle.run_noted.proofs.Blocks.{one, two, three, listed_at}
use Rattle.run_noted.proofs.Offers.{rising-member, options-rising, alt-option}
use Rattle.run_noted.proofs.NotedRows.{halts-note}
use Rattle.run_noted.proofs.Encoded.{last-is}
use Rattle.run_noted.proofs.Left.{note-of-row, note-of-option}
use Rattle.run_noted.proofs.NotesFit.{notes-fit, acting-row}
use Rattle.run_changes.specs.Changes.{what_at, act_at}
use Rattle.run_changes.proofs.Told.{Told}

-- numbers of the note of a row, and of an element
module _ (rows : List ℤ) (w : ℕ → Intent) (m : Notes) (is : m ≡ noted_by rows w) where
  module _ (j : ℕ) (l : j < 1024) (k : Note) (e : note_in rows w j ≡ k) where
    act-is : (i : ℕ) → i < 3 → get_or m.acts (3 * j + i) 0 ≡ get_or (act_numbers k) i 0
    unfolding noted_by lists_for
    act-is i h =
        ap (λ (y : Notes). get_or y.acts (3 * j + i) 0) is
        ∙ listed_at 3 three (λ j. act_numbers (note_in rows w j)) (λ j. refl) j i h 1024 0 l
        ∙ ap (λ (n : Note). get_or (act_numbers n) i 0) e

    what-is : what_at m.acts j ≡ k.what
    what-is = let z : 3 * j ≡ 3 * j + 0 = omega arith in ap (λ (p : ℕ). get_or m.acts p 0) z ∙ act-is 0 (omega arith)

    number_is : get_or m.sent j (pos 0) ≡ k.number
    unfolding noted_by lists_for
    number_is =
        let z : j ≡ 1 * j + 0 = omega arith in
        ap (λ (y : Notes). get_or y.sent j (pos 0)) is
        ∙ ap (λ (p : ℕ). get_or (listed (λ j. (note_in rows w j).number ∷ []) 1024) p (pos 0)) z
        ∙ listed_at 1 one (λ j. (note_in rows w j).number ∷ []) (λ j. refl) j 0 (omega arith) 1024 (pos 0) l
        ∙ ap (λ (n : Note). n.number) e

  sender-noted : (e : ℕ) → e < 256 → get_or m.elements (2 * e + 1) 0 ≡ sender_in rows w e
  unfolding noted_by lists_for
  sender-noted e l =
      ap (λ (y : Notes). get_or y.elements (2 * e + 1) 0) is
      ∙ listed_at 2 two (λ e. receiver_in rows w e ∷ sender_in rows w e ∷ []) (λ e. refl) e 1 (omega arith) 256 0 l

module _ (rows : List ℤ) (ok : check rows ≡ none) (sheet : Sheet) (l : List Label) (s : State) (o : OrderOf rows sheet l s) (m : Notes) (is : m ≡ noted_by rows (intent_at (program rows) sheet s)) where
  abbrev W : ℕ → Intent
  W = intent_at (program rows) sheet s

  F : NotesFit rows (intent_at (program rows) sheet s)
  F = notes-fit rows ok sheet l s o

  -- a row that would do something
  module _ (j : ℕ) (i : Intent) (q : intent_at (program rows) sheet s j ≡ i) (n : i ≢ waits) where
    inside : j < 1024
    inside = omega (arith, rows-limit rows ok, (acting-row rows W F j (λ e. n (sym q ∙ e))).0)

    own-note : note_in rows (intent_at (program rows) sheet s) j ≡ note_of_intent i
    own-note = note-of-row rows W j (acting-row rows W F j (λ e. n (sym q ∙ e))).1 ∙ ap note_of_intent q

  -- an option is a row of the table
  module _ (r j : ℕ) (a : alt_of (program rows) j ≡ some r) where
    option_inside : j < 1024
    option_inside = omega (arith, rows-limit rows ok, (rising-member (row_count rows) 0 (options_at rows r) (options-rising rows ok r) j (alt-option rows ok r j a)).1)

    option-note : (os : List Offer) → intent_at (program rows) sheet s r ≡ selects os → (f : Offer) → offer_at j os ≡ some f → note_in rows (intent_at (program rows) sheet s) j ≡ note_of_offer (some f)
    option-note os q f e = note-of-option rows W j r a ∙ ap (λ (i : Intent). note_of_offer (offer_of j i)) q ∙ ap note_of_offer e

  -- number i of a row's note, and the number that it hands over
  own-act : (j : ℕ) (i : Intent) → intent_at (program rows) sheet s j ≡ i → i ≢ waits → (k : Note) → note_of_intent i ≡ k → (what_at m.acts j ≡ k.what) × (act_at m.acts j 1 ≡ k.at) × (act_at m.acts j 2 ≡ k.third) × (get_or m.sent j (pos 0) ≡ k.number)
  own-act j i q n k e =
      let b = inside j i q n in
      let f = own-note j i q n ∙ e in
      (what-is rows W m is j b k f, act-is rows W m is j b k f 1 (omega arith), act-is rows W m is j b k f 2 (omega arith), number_is rows W m is j b k f)

  option-act : (r j : ℕ) → alt_of (program rows) j ≡ some r → (os : List Offer) → intent_at (program rows) sheet s r ≡ selects os → (f : Offer) → offer_at j os ≡ some f
      → (what_at m.acts j ≡ (note_of_offer (some f)).what) × (act_at m.acts j 1 ≡ (note_of_offer (some f)).at) × (act_at m.acts j 2 ≡ (note_of_offer (some f)).third)
  option-act r j a os q f e =
      let b = option_inside r j a in
      let k = note_of_offer (some f) in
      let g = option-note r j a os q f e in
      (what-is rows W m is j b k g, act-is rows W m is j b k g 1 (omega arith), act-is rows W m is j b k g 2 (omega arith))

  -- who waits to output
  sent-told : (e i : ℕ) → waiting_at (program rows) sheet s e ≡ some i → (get_or m.elements (2 * e + 1) 0 ≡ i + 1) × (e < 256)
  unfolding output_noted waiting_at
  sent-told e i h =
      let t : T (is_output_to e (W i)) = waiter-waits rows ok sheet l s o (is_output_to e) (one-sender rows ok sheet l s o e) i (sym (sender-is (program rows) sheet s e) ∙ h) in
      let b = F.sends-to e i t in
      (sender-noted rows W m is e b ∙ ap (λ (n : ℕ). row_note (output_noted n (alt_of (program rows)) W e)) (sym (states-length rows ok sheet l s o)) ∙ ap row_note h, b)

  pub notes-tell : Told (program rows) sheet s m.acts m.sent m.elements
  notes-tell = record {
    stops = λ j n h q. let a = own-act j (halts j n) q (λ u. let y : ◌≡◌ {A = ℕ} 0 1 = cc in omega arith) (note 1 n 0 (pos 0)) (halts-note j n) in (a.0, a.1);
    assigns = λ j a z q. let b = own-act j (moves j 2 (write_cell a (some z) ∷ [])) q (λ u. let y : ◌≡◌ {A = ℕ} 0 1 = cc in omega arith) (note 2 0 a z) refl in (b.0, b.2, b.3);
    ends = λ j q. (own-act j (moves j 2 []) q (λ u. let y : ◌≡◌ {A = ℕ} 0 1 = cc in omega arith) (note 3 0 0 (pos 0)) refl).0;
    starts = λ j p q. let b = own-act j (moves p 1 []) q (λ u. let y : ◌≡◌ {A = ℕ} 0 1 = cc in omega arith) (note 4 p 0 (pos 0)) refl in (b.0, b.1);
    reads = λ j a p n k q. let b = own-act j (moves j 2 (write_cell a k ∷ write_place p n ∷ [])) q (λ u. let y : ◌≡◌ {A = ℕ} 0 1 = cc in omega arith) (note 5 p a (pos 0)) refl in (b.0, b.1, b.2);
    writes = λ j p k n q.
        let b = own-act j (moves j 2 (write_output p (k ++ (n ∷ [])) ∷ [])) q (λ u. let y : ◌≡◌ {A = ℕ} 0 1 = cc in omega arith) (note 6 p (mark n) (number_in n)) (ap (λ (n : Message). note 6 p (mark n) (number_in n)) (last-is k n)) in
        (b.0, b.1, b.2, b.3);
    inputs = λ j e a q. let b = own-act j (inputs_from e a) q (λ u. let y : ◌≡◌ {A = ℕ} 0 1 = cc in omega arith) (note 7 e a (pos 0)) refl in (b.0, b.1, b.2);
    outputs = λ j e n q. let b = own-act j (outputs_to e n) q (λ u. let y : ◌≡◌ {A = ℕ} 0 1 = cc in omega arith) (note 8 e (mark n) (number_in n)) refl in (b.2, b.3);
    opens = λ r j i q os a b e. (option-act r j a os b (open_offer i q []) e).0;
    offers-read = λ r j i q a p n k os b c e. let d = option-act r j b os c (open_offer i q (write_cell a k ∷ write_place p n ∷ [])) e in (d.0, d.1, d.2);
    offers-input = λ r j i q e a os b c f. let d = option-act r j b os c (input_offer i q e a) f in (d.0, d.1, d.2);
    sender = sent-told;
  }
