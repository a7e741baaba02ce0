-- To take the notes of a row off the lists is to note that it does nothing.
use mathlib.Core.Path.{◌≡◌, refl, sym, ap, ap₂, subst, ◌∙◌}
use mathlib.Core.Logic.{◌≢◌}
use mathlib.Core.Bool.{Bool, true, false, ◌&&◌, ◌||◌}
use mathlib.Core.Option.{Option, none, some, none-ne-some}
use mathlib.Core.List.{List, [], ◌∷◌, Memᴰ}
use Prim.Native.Nat.{ℕ, ◌-◌, ◌<◌, ◌≤◌}
use native.Mathlib.Omega.{arith}
use native.Mathlib.Decide.{ℕ_discrete}
use lib.IntN.{ℤ, pos}
use lib.Dec.{T, eqb}
use Rattle.meaning.specs.Basics.{if_else, any_passes, among, lowest}
use Rattle.meaning.specs.Rows.{row_count}
use Rattle.meaning.specs.Values.{Message}
use Rattle.meaning.specs.State.{program, Write, write_cell, write_place, write_output}
use Rattle.meaning.specs.Intent.{Offer, open_offer, input_offer, Intent, waits, moves, inputs_from, outputs_to, selects}
use Rattle.meaning.specs.Answers.{check}
use Rattle.meaning.proofs.Decides.{Decides, holding, failing, decides_eq}
use Rattle.agreement.specs.RowsOfSteps.{rows_of_options, offer_at}
use Rattle.agreement.proofs.TableFit.{rows-limit}
use Rattle.machine.specs.RowSteps.{is_output_to, alt_of}
use Rattle.run_parents.specs.Marks.{row_note}
use Rattle.run_kept.specs.Kept.{is_input_from, offer_of, offer_wants, own_ready, offer_ready}
use Rattle.run_kept.specs.Noting.{output_noted, input_noted, note_of, bit_in, noted}
use Rattle.run_kept.proofs.Partners.{wants-inputs, option-wants}
use Rattle.run_kept.proofs.TakenOff.{found_nothing, own-told, offer-told}
use Rattle.run_kept.proofs.Noting.{lowest-same, noted-itself, noted_other}
use Rattle.run_notes.specs.declared.Note.{Note}
use Rattle.run_notes.specs.Notes.{note, what_of, options_at, leave_note, leave_row}
use Rattle.run_notes.proofs.Changes.{test-no, offers-left, no-offers, row-left}
use Rattle.run_noted.specs.Noted.{no_note, note_of_move, note_of_open, note_of_intent, note_of_offer, lists_for, numbers_of, note_in, receiver_in, sender_in, noted_by, NotesFit}
use Rattle.run_noted.proofs.Blocks.{same_row, swap-rows}
use Rattle.run_noted.proofs.Contents.{put, lists-same, what-for}
use Rattle.run_noted.proofs.Offers.{options-rising, option-alt, decides-alt, any_same, waits_at, offered-inputs}
use Rattle.run_noted.proofs.Leaving.{left-for, sender-left-for, options-left}

-- ---- numbers of notes

-- a step by itself, or an offer that needs no partner, waits at no element
abbrev pub Apart : Note → Type 0
Apart k = (0 < k.what) × (k.what < 7)

pub move-apart : (x v : ℕ) (ws : List Write) → Apart (note_of_move x v ws)
move-apart x v [] = go (eqb v 1) (eqb v 2)
  where
    go : (s t : Bool) → Apart (if_else s (note 4 x 0 (pos 0)) (if_else t (note 3 0 0 (pos 0)) (note 1 (v - 10) 0 (pos 0))))
    go true t = (omega arith, omega arith)
    go false true = (omega arith, omega arith)
    go false false = (omega arith, omega arith)
move-apart x v (write_cell a m ∷ []) = (omega arith, omega arith)
move-apart x v (write_cell a m ∷ write_cell b k ∷ ws) = (omega arith, omega arith)
move-apart x v (write_cell a m ∷ write_place p n ∷ ws) = (omega arith, omega arith)
move-apart x v (write_cell a m ∷ write_output p l ∷ ws) = (omega arith, omega arith)
move-apart x v (write_place p n ∷ ws) = (omega arith, omega arith)
move-apart x v (write_output p l ∷ ws) = (omega arith, omega arith)

pub open-apart : (q : ℕ) (ws : List Write) → Apart (note_of_open q ws)
open-apart q [] = (omega arith, omega arith)
open-apart q (write_cell a m ∷ []) = (omega arith, omega arith)
open-apart q (write_cell a m ∷ write_cell b k ∷ ws) = (omega arith, omega arith)
open-apart q (write_cell a m ∷ write_place p n ∷ ws) = (omega arith, omega arith)
open-apart q (write_cell a m ∷ write_output p l ∷ ws) = (omega arith, omega arith)
open-apart q (write_place p n ∷ ws) = (omega arith, omega arith)
open-apart q (write_output p l ∷ ws) = (omega arith, omega arith)

-- an option outputs nowhere, and inputs where its ALT does
pub offer-what : (o : Option Offer) → (note_of_offer o).what ≢ 8
offer-what none z = omega arith
offer-what (some (open_offer j q ws)) z = let l = open-apart q ws in omega (arith, l.1)
offer-what (some (input_offer j q e a)) z = omega arith

pub offer-where : (o : Option Offer) → (note_of_offer o).what ≡ 7 → offer_wants o ≡ some (note_of_offer o).at
offer-where none z = let y : ◌≡◌ {A = ℕ} 0 7 = z in absurd (omega arith)
offer-where (some (open_offer j q ws)) z = let l = open-apart q ws in absurd (omega (arith, l.1))
offer-where (some (input_offer j q e a)) z = refl

-- the numbers of a row, by whose option it is
pub note-of-row : (rows : List ℤ) (w : ℕ → Intent) (j : ℕ) → alt_of (program rows) j ≡ none → note_in rows w j ≡ note_of_intent (w j)
unfolding note_in
note-of-row rows w j e = ap (numbers_of rows w j) e

pub note-of-option : (rows : List ℤ) (w : ℕ → Intent) (j r : ℕ) → alt_of (program rows) j ≡ some r → note_in rows w j ≡ note_of_offer (offer_of j (w r))
unfolding note_in
note-of-option rows w j r e = ap (numbers_of rows w j) e

-- ---- one row does nothing from now on

module _ (n : ℕ) (w : ℕ → Intent) (r : ℕ) where
  waiter-left : (q : Intent → Bool) → q waits ≡ false → ((a b : ℕ) → T (q (w a)) → T (q (w b)) → a ≡ b)
      → lowest (λ k. q (noted r waits w k)) n ≡ if_else (q (w r)) none (lowest (λ k. q (w k)) n)
  waiter-left q z one = go (q (w r)) refl
    where
      none_left : T (q (w r)) → (j : ℕ) → Dec (r ≡ j) → T (q (noted r waits w j)) → ⊥
      none_left t j (yes e) h =
          let y : T false = subst (λ (b : Bool). T b) (ap q (subst (λ (k : ℕ). noted r waits w k ≡ waits) e (noted-itself r waits w)) ∙ z) h in absurd y
      none_left t j (no e) h = e (sym (one j r (subst (λ (i : Intent). T (q i)) (noted_other r waits w j e) h) t))

      same : q (w r) ≡ false → (j : ℕ) → Dec (r ≡ j) → q (noted r waits w j) ≡ q (w j)
      same t j (yes e) = subst (λ (k : ℕ). q (noted r waits w k) ≡ q (w k)) e (ap q (noted-itself r waits w) ∙ z ∙ sym t)
      same t j (no e) = ap q (noted_other r waits w j e)

      go : (b : Bool) → q (w r) ≡ b → lowest (λ k. q (noted r waits w k)) n ≡ if_else b none (lowest (λ k. q (w k)) n)
      go true t = found_nothing (λ k. q (noted r waits w k)) n (λ j l h. none_left (subst (λ (b : Bool). T b) (sym t) tt) j (ℕ_discrete r j) h)
      go false t = lowest-same (λ k. q (noted r waits w k)) (λ k. q (w k)) n (λ j. same t j (ℕ_discrete r j))

note-if : (t : Bool) (o : Option ℕ) → row_note (if_else t none o) ≡ if_else t 0 (row_note o)
note-if true o = refl
note-if false o = refl

module _ (rows : List ℤ) (ok : check rows ≡ none) (w : ℕ → Intent) (F : NotesFit rows w) (r : ℕ) (l : r < row_count rows) (plain : alt_of (program rows) r ≡ none)
    (alone : (e q : ℕ) → T (is_output_to e (w r)) → T (is_input_from e (w q)) → ⊥) where
  abbrev n : ℕ
  n = row_count rows

  abbrev alt : ℕ → Option ℕ
  alt = alt_of (program rows)

  abbrev js : List ℕ
  js = rows_of_options (options_at rows r)

  receiver-left : (e : ℕ) → input_noted (row_count rows) (alt_of (program rows)) (noted r waits w) e ≡ if_else (is_input_from e (w r)) none (input_noted (row_count rows) (alt_of (program rows)) w e)
  unfolding input_noted
  receiver-left e = waiter-left n w r (is_input_from e) refl (F.one-receiver e)

  sender-left : (e : ℕ) → output_noted (row_count rows) (alt_of (program rows)) (noted r waits w) e ≡ if_else (is_output_to e (w r)) none (output_noted (row_count rows) (alt_of (program rows)) w e)
  unfolding output_noted
  sender-left e = waiter-left n w r (is_output_to e) refl (F.one-sender e)

  -- who is wanted is still there
  sender-kept : (e q : ℕ) → T (is_input_from e (w q)) → output_noted (row_count rows) (alt_of (program rows)) (noted r waits w) e ≡ output_noted (row_count rows) (alt_of (program rows)) w e
  sender-kept e q t = sender-left e ∙ go (is_output_to e (w r)) refl
    where
      go : (b : Bool) → is_output_to e (w r) ≡ b → if_else b none (output_noted n alt w e) ≡ output_noted n alt w e
      go true h = absurd (alone e q (subst (λ (b : Bool). T b) (sym h) tt) t)
      go false h = refl

  -- a bit: of the row and its options off, of any other as it was
  bit-left : (j : ℕ) → put (λ q. if_else (among q (rows_of_options (options_at rows r))) false (bit_in (row_count rows) (alt_of (program rows)) w q)) r false j ≡ bit_in (row_count rows) (alt_of (program rows)) (noted r waits w) j
  unfolding bit_in
  bit-left j = go (eqb r j) (decides_eq r j) (among j js) (decides-alt rows ok r j)
    where
      S : ℕ → Option ℕ
      S = output_noted n alt (noted r waits w)

      other : (o : Option ℕ) → alt j ≡ o → o ≢ some r → offer_ready (output_noted n alt w) (offer_of j (note_of n alt w o)) ≡ offer_ready S (offer_of j (note_of n alt (noted r waits w) o))
      other none e z = refl
      other (some q) e z =
          let i : noted r waits w q ≡ w q = noted_other r waits w q (λ h. z (ap some (sym h))) in
          sym (ap (λ (i : Intent). offer_ready S (offer_of j i)) i ∙ offer-told S (output_noted n alt w) (offer_of j (w q)) (λ e h. sender-kept e q (option-wants j e (w q) h)))

      go : (s : Bool) → Decides (r ≡ j) s → (t : Bool) → Decides (alt j ≡ some r) t
          → if_else s false (if_else t false (own_ready (output_noted n alt w) (w j) || offer_ready (output_noted n alt w) (offer_of j (note_of n alt w (alt j)))))
          ≡ (own_ready S (noted r waits w j) || offer_ready S (offer_of j (note_of n alt (noted r waits w) (alt j))))
      go true (holding e) t d =
          sym (ap₂ (λ (i : Intent) (o : Option ℕ). own_ready S i || offer_ready S (offer_of j (note_of n alt (noted r waits w) o))) (subst (λ (k : ℕ). noted r waits w k ≡ waits) e (noted-itself r waits w)) (ap alt (sym e) ∙ plain))
      go false (failing z) true (holding e) =
          sym (ap₂ (λ (i k : Intent). own_ready S i || offer_ready S (offer_of j k)) (noted_other r waits w j z ∙ F.option-waits j r e) (ap (note_of n alt (noted r waits w)) e ∙ noted-itself r waits w))
      go false (failing z) false (failing y) =
          ap₂ (λ (a b : Bool). a || b)
          (sym (ap (own_ready S) (noted_other r waits w j z) ∙ own-told S (output_noted n alt w) (w j) (λ e h. sender-kept e j (wants-inputs e (w j) h))))
          (other (alt j) refl y)

  -- the numbers of a row
  note-left : (j : ℕ) → put (λ q. if_else (among q (rows_of_options (options_at rows r))) no_note (note_in rows w q)) r no_note j ≡ note_in rows (noted r waits w) j
  unfolding note_in
  note-left j = go (eqb r j) (decides_eq r j) (among j js) (decides-alt rows ok r j)
    where
      other : (o : Option ℕ) → r ≢ j → o ≢ some r → numbers_of rows w j o ≡ numbers_of rows (noted r waits w) j o
      other none z y = ap note_of_intent (sym (noted_other r waits w j z))
      other (some q) z y = ap (λ (i : Intent). note_of_offer (offer_of j i)) (sym (noted_other r waits w q (λ h. y (ap some (sym h)))))

      go : (s : Bool) → Decides (r ≡ j) s → (t : Bool) → Decides (alt j ≡ some r) t → if_else s no_note (if_else t no_note (note_in rows w j)) ≡ note_in rows (noted r waits w) j
      go true (holding e) t d = sym (ap (numbers_of rows (noted r waits w) j) (ap alt (sym e) ∙ plain) ∙ ap note_of_intent (subst (λ (k : ℕ). noted r waits w k ≡ waits) e (noted-itself r waits w)))
      go false d true (holding e) = sym (ap (numbers_of rows (noted r waits w) j) e ∙ ap (λ (i : Intent). note_of_offer (offer_of j i)) (noted-itself r waits w))
      go false (failing z) false (failing y) = other (alt j) z y

  -- so these lists are those of the notes without that row
  finish : lists_for (row_count rows) (put (λ q. if_else (among q (rows_of_options (options_at rows r))) no_note (note_in rows w q)) r no_note)
      (λ e. if_else (is_input_from e (w r)) 0 (receiver_in rows w e)) (λ e. if_else (is_output_to e (w r)) 0 (sender_in rows w e))
      (put (λ q. if_else (among q (rows_of_options (options_at rows r))) false (bit_in (row_count rows) (alt_of (program rows)) w q)) r false)
      ≡ noted_by rows (noted r waits w)
  unfolding noted_by
  finish =
      lists-same n note-left
      (λ e. sym (note-if (is_input_from e (w r)) (input_noted n alt w e)) ∙ ap row_note (sym (receiver-left e)))
      (λ e. sym (note-if (is_output_to e (w r)) (output_noted n alt w e)) ∙ ap row_note (sym (sender-left e)))
      (λ j o. bit-left j)

  -- ---- by what the row would do

  what-is : (i : Intent) → w r ≡ i → what_of (noted_by rows w) r ≡ (note_of_intent i).what
  unfolding noted_by
  what-is i e =
      what-for n (note_in rows w) (receiver_in rows w) (sender_in rows w) (bit_in n alt w) r (omega (arith, rows-limit rows ok))
      ∙ ap (λ (k : Note). k.what) (note-of-row rows w r plain ∙ ap note_of_intent e)

  -- a row that offers nothing: its options have no note and no bit
  module _ (none-offered : (j : ℕ) → offer_of j (w r) ≡ none) (not-nine : what_of (noted_by rows w) r ≢ 9) where
    option-note : (j : ℕ) → note_in rows w j ≡ if_else (among j (rows_of_options (options_at rows r))) no_note (note_in rows w j)
    option-note j = go (among j js) (decides-alt rows ok r j)
      where
        go : (t : Bool) → Decides (alt j ≡ some r) t → note_in rows w j ≡ if_else t no_note (note_in rows w j)
        go true (holding e) = note-of-option rows w j r e ∙ ap note_of_offer (none-offered j)
        go false d = refl

    option-bit : (j : ℕ) → bit_in (row_count rows) (alt_of (program rows)) w j ≡ if_else (among j (rows_of_options (options_at rows r))) false (bit_in (row_count rows) (alt_of (program rows)) w j)
    unfolding bit_in
    option-bit j = go (among j js) (decides-alt rows ok r j)
      where
        b : Bool
        b = own_ready (output_noted n alt w) (w j) || offer_ready (output_noted n alt w) (offer_of j (note_of n alt w (alt j)))

        go : (t : Bool) → Decides (alt j ≡ some r) t → b ≡ if_else t false b
        go true (holding e) =
            ap₂ (λ (i : Intent) (o : Option Offer). own_ready (output_noted n alt w) i || offer_ready (output_noted n alt w) o) (F.option-waits j r e) (ap (λ (o : Option ℕ). offer_of j (note_of n alt w o)) e ∙ none-offered j)
        go false d = refl

    by_itself : {g h : ℕ → ℕ} → leave_note r (noted_by rows w) ≡ lists_for (row_count rows) (put (note_in rows w) r no_note) g h (put (bit_in (row_count rows) (alt_of (program rows)) w) r false)
        → ((e : ℕ) → g e ≡ if_else (is_input_from e (w r)) 0 (receiver_in rows w e)) → ((e : ℕ) → h e ≡ if_else (is_output_to e (w r)) 0 (sender_in rows w e))
        → leave_row rows r (noted_by rows w) ≡ noted_by rows (noted r waits w)
    by_itself p q s =
        sym (row-left rows r (noted_by rows w) (no-offers rows r (noted_by rows w) not-nine) refl)
        ∙ p
        ∙ lists-same n (λ j. ap (λ (k : Note). if_else (eqb r j) no_note k) (option-note j)) q s (λ j o. ap (λ (b : Bool). if_else (eqb r j) false b) (option-bit j))
        ∙ finish

  -- a row that outputs nowhere, and looks at no options
  plain_row : (i : Intent) → w r ≡ i → ((j : ℕ) → offer_of j i ≡ none) → (note_of_intent i).what ≢ 8 → (note_of_intent i).what ≢ 9 → ((note_of_intent i).what ≡ 7 → (note_of_intent i).at < 256)
      → ((e : ℕ) → waits_at e (note_of_intent i) ≡ is_input_from e i) → ((e : ℕ) → is_output_to e i ≡ false) → leave_row rows r (noted_by rows w) ≡ noted_by rows (noted r waits w)
  unfolding noted_by
  plain_row i e none-offered not_eight not-nine at-seven inputs outputs =
      let k : note_in rows w r ≡ note_of_intent i = note-of-row rows w r plain ∙ ap note_of_intent e in
      by_itself (λ j. ap (offer_of j) e ∙ none-offered j) (λ z. not-nine (sym (what-is i e) ∙ z))
      (left-for n (rows-limit rows ok) (note_in rows w) (receiver_in rows w) (sender_in rows w) (bit_in n alt w) r l (λ z. not_eight (sym (ap (λ (k : Note). k.what) k) ∙ z))
      (λ z. subst (λ (k : Note). k.at < 256) (sym k) (at-seven (sym (ap (λ (k : Note). k.what) k) ∙ z))))
      (λ d. ap (λ (t : Bool). if_else t 0 (receiver_in rows w d)) (ap (waits_at d) k ∙ inputs d ∙ ap (is_input_from d) (sym e)))
      (λ d. ap (λ (t : Bool). if_else t 0 (sender_in rows w d)) (sym (ap (is_output_to d) e ∙ outputs d)))

  -- a row that outputs
  output_row : (d : ℕ) (m : Message) → w r ≡ outputs_to d m → leave_row rows r (noted_by rows w) ≡ noted_by rows (noted r waits w)
  unfolding noted_by
  output_row d m e =
      let k : note_in rows w r ≡ note_of_intent (outputs_to d m) = note-of-row rows w r plain ∙ ap note_of_intent e in
      let small : d < 256 = F.sends-to d r (subst (λ (i : Intent). T (is_output_to d i)) (sym e) (subst (λ (t : Bool). T t) (sym (same_row d)) tt)) in
      by_itself (λ j. ap (offer_of j) e) (λ z. let y : ◌≡◌ {A = ℕ} 8 9 = sym (what-is (outputs_to d m) e) ∙ z in omega arith)
      (sender-left-for n (rows-limit rows ok) (note_in rows w) (receiver_in rows w) (sender_in rows w) (bit_in n alt w) r l (ap (λ (k : Note). k.what) k) (subst (λ (k : Note). k.at < 256) (sym k) small))
      (λ c. ap (λ (i : Intent). if_else (is_input_from c i) 0 (receiver_in rows w c)) (sym e))
      (λ c. ap (λ (k : Note). if_else (eqb k.at c) 0 (sender_in rows w c)) k ∙ ap (λ (t : Bool). if_else t 0 (sender_in rows w c)) (swap-rows d c ∙ ap (is_output_to c) (sym e)))

  -- an ALT that looks at its options
  alt-row : (os : List Offer) → w r ≡ selects os → leave_row rows r (noted_by rows w) ≡ noted_by rows (noted r waits w)
  unfolding noted_by
  alt-row os e =
      sym (row-left rows r (lists_for n f g h b) (offers-left rows r (lists_for n f g h b) (what-is (selects os) e) refl refl) refl)
      ∙ ap (leave_note r) (options-left n few (options_at rows r) 0 (options-rising rows ok r) f g h b fine)
      ∙ left-for n few f₁ g₁ h b₁ r l (λ z. let y : ◌≡◌ {A = ℕ} 9 8 = sym nine ∙ z in omega arith) (λ z. let y : ◌≡◌ {A = ℕ} 9 7 = sym nine ∙ z in absurd (omega arith))
      ∙ lists-same n (λ j. refl) receivers (λ c. ap (λ (i : Intent). if_else (is_output_to c i) 0 (h c)) (sym e)) (λ j o. refl)
      ∙ finish
    where
      few : n ≤ 1024
      few = rows-limit rows ok

      f : ℕ → Note
      f = note_in rows w

      g : ℕ → ℕ
      g = receiver_in rows w

      h : ℕ → ℕ
      h = sender_in rows w

      b : ℕ → Bool
      b = bit_in n alt w

      f₁ : ℕ → Note
      f₁ q = if_else (among q js) no_note (f q)

      g₁ : ℕ → ℕ
      g₁ c = if_else (any_passes (λ j. waits_at c (f j)) js) 0 (g c)

      b₁ : ℕ → Bool
      b₁ q = if_else (among q js) false (b q)

      itself : f₁ r ≡ note_of_intent (selects os)
      itself = go (among r js) (decides-alt rows ok r r)
        where
          go : (t : Bool) → Decides (alt r ≡ some r) t → if_else t no_note (f r) ≡ note_of_intent (selects os)
          go true (holding z) = absurd (none-ne-some r (sym plain ∙ z))
          go false d = note-of-row rows w r plain ∙ ap note_of_intent e

      nine : (f₁ r).what ≡ 9
      nine = ap (λ (k : Note). k.what) itself

      option : (j : ℕ) → Memᴰ j js → f j ≡ note_of_offer (offer_at j os)
      option j m = note-of-option rows w j r (option-alt rows ok r j m) ∙ ap (λ (i : Intent). note_of_offer (offer_of j i)) e

      fine : (j : ℕ) → Memᴰ j js → ((f j).what ≢ 8) × ((f j).what ≡ 7 → (f j).at < 256)
      fine j m =
          let k = option j m in (
            λ z. offer-what (offer_at j os) (sym (ap (λ (k : Note). k.what) k) ∙ z),
            λ z. subst (λ (k : Note). k.at < 256) (sym k)
                (F.receives-at (note_of_offer (offer_at j os)).at r (option-wants j (note_of_offer (offer_at j os)).at (w r) (ap (λ (i : Intent). offer_wants (offer_of j i)) e ∙ offer-where (offer_at j os) (sym (ap (λ (k : Note). k.what) k) ∙ z)))),
          )

      receivers : (c : ℕ) → if_else (waits_at c (f₁ r)) 0 (g₁ c) ≡ if_else (is_input_from c (w r)) 0 (g c)
      receivers c =
          ap (λ (k : Note). if_else (waits_at c k) 0 (g₁ c)) itself
          ∙ ap (λ (t : Bool). if_else t 0 (g c))
          (any_same (λ j. waits_at c (f j)) (λ j. waits_at c (note_of_offer (offer_at j os))) js (λ j m. ap (waits_at c) (option j m))
          ∙ offered-inputs n 0 (options_at rows r) os (F.offered r os e) (options-rising rows ok r) c
          ∙ ap (is_input_from c) (sym e))

  -- to take its notes off is to note that it does nothing
  pub leave-row : leave_row rows r (noted_by rows w) ≡ noted_by rows (noted r waits w)
  leave-row = go (w r) refl
    where
      go : (i : Intent) → w r ≡ i → leave_row rows r (noted_by rows w) ≡ noted_by rows (noted r waits w)
      go waits e = plain_row waits e (λ j. refl) (λ z. omega arith) (λ z. omega arith) (λ z. let y : ◌≡◌ {A = ℕ} 0 7 = z in absurd (omega arith)) (λ d. refl) (λ d. refl)
      go (moves x v ws) e =
          let m = move-apart x v ws in
          plain_row (moves x v ws) e (λ j. refl) (λ z. omega (arith, m.1)) (λ z. omega (arith, m.1)) (λ z. absurd (omega (arith, m.1))) (λ d. ap (λ (t : Bool). t && eqb d (note_of_move x v ws).at) (test-no {x = (note_of_move x v ws).what} {n = 7} (λ z. omega (arith, m.1)))) (λ d. refl)
      go (inputs_from d a) e =
          plain_row (inputs_from d a) e (λ j. refl) (λ z. omega arith) (λ z. omega arith)
          (λ z. F.receives-at d r (subst (λ (i : Intent). T (is_input_from d i)) (sym e) (subst (λ (t : Bool). T t) (sym (same_row d)) tt))) (λ c. refl) (λ c. refl)
      go (outputs_to d m) e = output_row d m e
      go (selects os) e = alt-row os e
