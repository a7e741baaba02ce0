-- One row is noted: the notes, who waits, and the bits, told by what they were before.
use mathlib.Core.Path.{◌≡◌, refl, sym, ap, ap₂, subst, ◌∙◌}
use mathlib.Core.Logic.{◌≢◌, ◌⊎◌, inl, inr}
use mathlib.Core.Bool.{Bool, true, false, ◌||◌}
use mathlib.Core.Option.{Option, none, some}
use mathlib.Core.List.{List}
use Prim.Native.Nat.{ℕ, ◌+◌, ◌<◌}
use native.Mathlib.Decide.{ℕ_discrete}
use lib.IntN.{ℤ}
use lib.Dec.{eqb}
use Rattle.meaning.specs.Basics.{if_else, among}
use Rattle.meaning.specs.Rows.{row_count}
use Rattle.meaning.specs.State.{program}
use Rattle.meaning.specs.Intent.{Intent, waits}
use Rattle.meaning.specs.Answers.{check}
use Rattle.meaning.proofs.Decides.{Decides, holding, failing, decides_eq}
use Rattle.agreement.specs.RowsOfSteps.{rows_of_options}
use Rattle.machine.specs.RowSteps.{is_output_to, alt_of}
use Rattle.run_parents.specs.Marks.{row_note}
use Rattle.run_kept.specs.Kept.{is_input_from, offer_of, wanted_element, offer_wants, own_ready, offer_ready}
use Rattle.run_kept.specs.Noting.{output_noted, input_noted, note_of, bit_in, noted, outputs_to_element}
use Rattle.run_kept.proofs.Noting.{noted-itself, noted_other, sender-noted, receiver-noted, bit-noted, own-anew, offer-anew}
use Rattle.run_notes.specs.declared.Note.{Note}
use Rattle.run_notes.specs.Notes.{options_at}
use Rattle.run_noted.specs.Noted.{no_note, note_of_intent, note_of_offer, lists_for, numbers_of, note_in, receiver_in, sender_in, noted_by, NotesFit}
use Rattle.run_noted.proofs.Contents.{lists-same}
use Rattle.run_noted.proofs.Offers.{decides-alt}
use Rattle.run_noted.proofs.Left.{note-of-option}
use Rattle.run_noted.proofs.Walks.{or-false}

note-some : (t : Bool) (r : ℕ) (o : Option ℕ) → row_note (if_else t (some r) o) ≡ if_else t (r + 1) (row_note o)
note-some true r o = refl
note-some false r o = refl

module _ (rows : List ℤ) (ok : check rows ≡ none) (w : ℕ → Intent) (r : ℕ) (l : r < row_count rows) (plain : alt_of (program rows) r ≡ none) (bare : w r ≡ waits) (i : Intent) (F : NotesFit rows (noted r i w)) where
  abbrev n : ℕ
  n = row_count rows

  abbrev alt : ℕ → Option ℕ
  alt = alt_of (program rows)

  abbrev S : ℕ → Option ℕ
  S = output_noted (row_count rows) (alt_of (program rows)) w

  -- each note is that of the end, or of nothing
  pub under : (q : ℕ) → (w q ≡ noted r i w q) ⊎ (w q ≡ waits)
  under q = go (ℕ_discrete r q)
    where
      go : Dec (r ≡ q) → (w q ≡ noted r i w q) ⊎ (w q ≡ waits)
      go (yes e) = inr (subst (λ (k : ℕ). w k ≡ waits) e bare)
      go (no e) = inl (sym (noted_other r i w q e))

  pub options-wait : (j p : ℕ) → alt_of (program rows) j ≡ some p → w j ≡ waits
  options-wait j p e = go (under j)
    where
      go : (w j ≡ noted r i w j) ⊎ (w j ≡ waits) → w j ≡ waits
      go (inl z) = z ∙ F.option-waits j p e
      go (inr z) = z

  -- who waits
  receiver-in : (e : ℕ) → input_noted (row_count rows) (alt_of (program rows)) (noted r i w) e ≡ if_else (is_input_from e i) (some r) (input_noted (row_count rows) (alt_of (program rows)) w e)
  receiver-in e =
      subst (λ (k : Intent). input_noted n alt (noted r k w) e ≡ if_else (is_input_from e k) (some r) (input_noted n alt w e)) (noted-itself r i w) (receiver-noted n (noted r i w) w r l bare under alt e (F.one-receiver e))

  sender-in : (e : ℕ) → output_noted (row_count rows) (alt_of (program rows)) (noted r i w) e ≡ if_else (is_output_to e i) (some r) (output_noted (row_count rows) (alt_of (program rows)) w e)
  sender-in e =
      subst (λ (k : Intent). output_noted n alt (noted r k w) e ≡ if_else (is_output_to e k) (some r) (output_noted n alt w e)) (noted-itself r i w) (sender-noted n (noted r i w) w r l bare under alt e (F.one-sender e))

  -- the row and its options had no bit
  pub own-off : bit_in (row_count rows) (alt_of (program rows)) w r ≡ false
  unfolding bit_in
  own-off = ap₂ (λ (k : Intent) (o : Option ℕ). own_ready S k || offer_ready S (offer_of r (note_of n alt w o))) bare plain

  pub option-off : (q : ℕ) → alt_of (program rows) q ≡ some r → bit_in (row_count rows) (alt_of (program rows)) w q ≡ false
  unfolding bit_in
  option-off q e = ap₂ (λ (k j : Intent). own_ready S k || offer_ready S (offer_of q j)) (options-wait q r e) (ap (note_of n alt w) e ∙ bare)

  -- whether a row is woken: the row that is noted outputs where it, or its ALT for it, wants a sender
  abbrev pub woken_by : ℕ → Bool
  woken_by q = outputs_to_element i (wanted_element (w q)) || outputs_to_element i (offer_wants (offer_of q (note_of (row_count rows) (alt_of (program rows)) w (alt_of (program rows) q))))

  abbrev pub bit_anew : ℕ → Bool
  bit_anew q =
      if_else (eqb r q) (own_ready (output_noted (row_count rows) (alt_of (program rows)) w) i)
      (if_else (among q (rows_of_options (options_at rows r))) (offer_ready (output_noted (row_count rows) (alt_of (program rows)) w) (offer_of q i))
      (bit_in (row_count rows) (alt_of (program rows)) w q || woken_by q))

  own-bit : own_ready (output_noted (row_count rows) (alt_of (program rows)) w) i ≡ bit_in (row_count rows) (alt_of (program rows)) (noted r i w) r
  unfolding bit_in
  own-bit =
      or-false (own_ready S i)
      ∙ ap (λ (t : Bool). t || false)
      (sym (subst (λ (k : Intent). own_ready (output_noted n alt (noted r k w)) k ≡ own_ready S k) (noted-itself r i w) (own-anew n alt (noted r i w) w r l bare under F.one-sender)))
      ∙ sym (ap₂ (λ (k : Intent) (o : Option ℕ). own_ready (output_noted n alt (noted r i w)) k || offer_ready (output_noted n alt (noted r i w)) (offer_of r (note_of n alt (noted r i w) o))) (noted-itself r i w) plain)

  option-bit : (q : ℕ) → alt_of (program rows) q ≡ some r → offer_ready (output_noted (row_count rows) (alt_of (program rows)) w) (offer_of q i) ≡ bit_in (row_count rows) (alt_of (program rows)) (noted r i w) q
  unfolding bit_in
  option-bit q e =
      sym (subst (λ (k : Intent). offer_ready (output_noted n alt (noted r k w)) (offer_of q k) ≡ offer_ready S (offer_of q k)) (noted-itself r i w) (offer-anew n alt (noted r i w) w r l bare under F.one-sender q))
      ∙ sym (ap₂ (λ (k j : Intent). own_ready (output_noted n alt (noted r i w)) k || offer_ready (output_noted n alt (noted r i w)) (offer_of q j)) (F.option-waits q r e) (ap (note_of n alt (noted r i w)) e ∙ noted-itself r i w))

  other-bit : (q : ℕ) → r ≢ q → (alt_of (program rows) q ≡ some r → ⊥) → (bit_in (row_count rows) (alt_of (program rows)) w q || woken_by q) ≡ bit_in (row_count rows) (alt_of (program rows)) (noted r i w) q
  other-bit q z y =
      sym (subst
      (λ (k : Intent). bit_in n alt (noted r k w) q ≡ (bit_in n alt w q || (outputs_to_element k (wanted_element (w q)) || outputs_to_element k (offer_wants (offer_of q (note_of n alt w (alt q))))))) (noted-itself r i w)
      (bit-noted n alt (noted r i w) w r l bare under F.one-sender q z y))

  bit-anew : (q : ℕ) → bit_anew q ≡ bit_in (row_count rows) (alt_of (program rows)) (noted r i w) q
  bit-anew q = go (eqb r q) (decides_eq r q) (among q (rows_of_options (options_at rows r))) (decides-alt rows ok r q)
    where
      go : (s : Bool) → Decides (r ≡ q) s → (t : Bool) → Decides (alt q ≡ some r) t
          → if_else s (own_ready S i) (if_else t (offer_ready S (offer_of q i)) (bit_in n alt w q || woken_by q)) ≡ bit_in n alt (noted r i w) q
      go true (holding e) t d = subst (λ (k : ℕ). own_ready S i ≡ bit_in n alt (noted r i w) k) e own-bit
      go false (failing z) true (holding e) = option-bit q e
      go false (failing z) false (failing y) = other-bit q z y

  -- the numbers of a row
  abbrev pub note_anew : ℕ → Note
  note_anew q = if_else (eqb r q) (note_of_intent i) (if_else (among q (rows_of_options (options_at rows r))) (note_of_offer (offer_of q i)) (note_in rows w q))

  note-anew : (q : ℕ) → note_anew q ≡ note_in rows (noted r i w) q
  unfolding note_in
  note-anew q = go (eqb r q) (decides_eq r q) (among q (rows_of_options (options_at rows r))) (decides-alt rows ok r q)
    where
      other : (o : Option ℕ) → r ≢ q → o ≢ some r → numbers_of rows w q o ≡ numbers_of rows (noted r i w) q o
      other none z y = ap note_of_intent (sym (noted_other r i w q z))
      other (some p) z y = ap (λ (k : Intent). note_of_offer (offer_of q k)) (sym (noted_other r i w p (λ h. y (ap some (sym h)))))

      go : (s : Bool) → Decides (r ≡ q) s → (t : Bool) → Decides (alt q ≡ some r) t → if_else s (note_of_intent i) (if_else t (note_of_offer (offer_of q i)) (numbers_of rows w q (alt q))) ≡ numbers_of rows (noted r i w) q (alt q)
      go true (holding e) t d = sym (ap (numbers_of rows (noted r i w) q) (ap alt (sym e) ∙ plain) ∙ ap note_of_intent (subst (λ (k : ℕ). noted r i w k ≡ i) e (noted-itself r i w)))
      go false d true (holding e) = sym (ap (numbers_of rows (noted r i w) q) e ∙ ap (λ (k : Intent). note_of_offer (offer_of q k)) (noted-itself r i w))
      go false (failing z) false (failing y) = other (alt q) z y

  -- options had the note of nothing
  pub option-bare : (q : ℕ) → alt_of (program rows) q ≡ some r → note_in rows w q ≡ no_note
  option-bare q e = note-of-option rows w q r e ∙ ap (λ (k : Intent). note_of_offer (offer_of q k)) bare

  -- so these lists are those of the notes with that row
  pub anew : {f : ℕ → Note} {g h : ℕ → ℕ} {b : ℕ → Bool} → ((q : ℕ) → f q ≡ note_anew q) → ((e : ℕ) → g e ≡ if_else (is_input_from e i) (r + 1) (receiver_in rows w e))
      → ((e : ℕ) → h e ≡ if_else (is_output_to e i) (r + 1) (sender_in rows w e)) → ((q : ℕ) → q < row_count rows → b q ≡ bit_anew q) → lists_for (row_count rows) f g h b ≡ noted_by rows (noted r i w)
  unfolding noted_by
  anew p q s t =
      lists-same n (λ j. p j ∙ note-anew j)
      (λ e. q e ∙ sym (note-some (is_input_from e i) r (input_noted n alt w e)) ∙ ap row_note (sym (receiver-in e)))
      (λ e. s e ∙ sym (note-some (is_output_to e i) r (output_noted n alt w e)) ∙ ap row_note (sym (sender-in e)))
      (λ j m. t j m ∙ bit-anew j)
