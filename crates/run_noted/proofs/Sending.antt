-- To note an output in the lists wakes who waits for it, and no other row.
use mathlib.Core.Path.{◌≡◌, refl, sym, ap, ap₂, subst, ◌∙◌}
use mathlib.Core.Logic.{◌≢◌}
use mathlib.Core.Bool.{Bool, true, false, ◌&&◌, ◌||◌, false≢true}
use mathlib.Core.Option.{Option, none, some, none-ne-some, some-injective}
use mathlib.Core.List.{List}
use Prim.Native.Nat.{ℕ, ◌+◌, ◌-◌, ◌%◌, ◌<◌, ◌≤◌}
use native.Mathlib.Omega.{arith}
use native.Mathlib.Decide.{ℕ_discrete, dec_lt}
use lib.IntN.{ℤ}
use lib.Dec.{T, eqb, eqb→eq}
use Rattle.meaning.specs.Basics.{if_else, among, lowest, Lowest}
use Rattle.meaning.specs.Rows.{row_count}
use Rattle.meaning.specs.Values.{Message}
use Rattle.meaning.specs.State.{program}
use Rattle.meaning.specs.Intent.{Offer, open_offer, input_offer, Intent, waits, moves, inputs_from, outputs_to, selects}
use Rattle.meaning.specs.Answers.{check}
use Rattle.meaning.proofs.LowestLaws.{lowest-is}
use Rattle.meaning.proofs.Decides.{Decides, holding, failing, decides_eq}
use Rattle.agreement.specs.RowsOfSteps.{rows_of_options}
use Rattle.agreement.proofs.TableFit.{rows-limit}
use Rattle.machine.specs.RowSteps.{is_output_to, alt_of}
use Rattle.run_parents.specs.Marks.{row_note}
use Rattle.run_kept.specs.Kept.{is_input_from, offer_of, wanted_element, offer_wants}
use Rattle.run_kept.specs.Noting.{input_noted, note_of, bit_in, noted, outputs_to_element}
use Rattle.run_kept.proofs.Noting.{noted-itself, noted_other, woken-own, woken-option}
use Rattle.run_notes.specs.declared.Note.{Note}
use Rattle.run_notes.specs.declared.Notes.{Notes}
use Rattle.run_notes.specs.Notes.{what_of, receiver_at, raising, options_at, wake_options, wake, wait_output, note_as}
use Rattle.run_notes.proofs.Changes.{test-yes, test-no}
use Rattle.run_noted.specs.Noted.{no_note, note_of_intent, note_of_offer, lists_for, note_in, receiver_in, sender_in, noted_by, NotesFit}
use Rattle.run_noted.proofs.Blocks.{same_row, swap-rows}
use Rattle.run_noted.proofs.Contents.{put, put-at, put_other, what-for, receiver-for, stored-for, raising-for, sending-for}
use Rattle.run_noted.proofs.Offers.{options-rising, decides-alt, waits_at, open-waits}
use Rattle.run_noted.proofs.Left.{note-of-row, note-of-option}
use Rattle.run_noted.proofs.Walks.{or-false, options-woken}
use Rattle.run_noted.proofs.Anew.{under, options-wait, own-off, option-off, option-bare, woken_by, bit_anew, note_anew, anew}

not-true : (t : Bool) → (t ≡ true → ⊥) → t ≡ false
not-true true z = absurd (z refl)
not-true false z = refl

-- what an option waits for, by its note
offer-meets : (d : ℕ) (m : Message) (o : Option Offer) → waits_at d (note_of_offer o) ≡ outputs_to_element (outputs_to d m) (offer_wants o)
offer-meets d m none = refl
offer-meets d m (some (open_offer j q ws)) = open-waits d q ws
offer-meets d m (some (input_offer j q e a)) = swap-rows d e

module _ (rows : List ℤ) (ok : check rows ≡ none) (w : ℕ → Intent) (r : ℕ) (l : r < row_count rows) (plain : alt_of (program rows) r ≡ none) (bare : w r ≡ waits) (d : ℕ) (m : Message) (F : NotesFit rows (noted r (outputs_to d m) w)) where
  abbrev i : Intent
  i = outputs_to d m

  abbrev n : ℕ
  n = row_count rows

  abbrev alt : ℕ → Option ℕ
  alt = alt_of (program rows)

  abbrev js : List ℕ
  js = rows_of_options (options_at rows r)

  abbrev b : ℕ → Bool
  b = bit_in (row_count rows) (alt_of (program rows)) w

  abbrev woken : ℕ → Bool
  woken = woken_by rows ok w r l plain bare (outputs_to d m) F

  few : row_count rows ≤ 1024
  few = rows-limit rows ok

  small : d < 256
  small = F.sends-to d r (subst (λ (k : Intent). T (is_output_to d k)) (sym (noted-itself r i w)) (subst (λ (t : Bool). T t) (sym (same_row d)) tt))

  -- a row that is woken by itself waits there, and so does the ALT of an option that is woken
  own-waits : (q : ℕ) → q < row_count rows → outputs_to_element (outputs_to d m) (wanted_element (w q)) ≡ true → input_noted (row_count rows) (alt_of (program rows)) w d ≡ some q
  own-waits q o h =
      let (c, t, e) = woken-own n alt (noted r i w) w (under rows ok w r l plain bare i F) F.one-receiver i q o h in
      subst (λ (c : ℕ). input_noted n alt w c ≡ some q) (eqb→eq c d t) e

  alt-waits : (q p : ℕ) → outputs_to_element (outputs_to d m) (offer_wants (offer_of q (w p))) ≡ true → input_noted (row_count rows) (alt_of (program rows)) w d ≡ some p
  alt-waits q p h = go (dec_lt p n)
    where
      idle : row_count rows ≤ p → Dec (r ≡ p) → w p ≡ waits
      idle o (yes e) = subst (λ (k : ℕ). w k ≡ waits) e bare
      idle o (no e) = sym (noted_other r i w p e) ∙ F.outside p o

      go : Dec (p < n) → input_noted n alt w d ≡ some p
      go (yes o) =
          let (c, t, e) = woken-option n alt (noted r i w) w (under rows ok w r l plain bare i F) F.one-receiver i q p o h in
          subst (λ (c : ℕ). input_noted n alt w c ≡ some p) (eqb→eq c d t) e
      go (no o) = absurd (false≢true (sym (ap (λ (k : Intent). outputs_to_element i (offer_wants (offer_of q k))) (idle (omega arith) (ℕ_discrete r p))) ∙ h))

  -- no one else is woken
  not-woken : (q : ℕ) → q < row_count rows → (input_noted (row_count rows) (alt_of (program rows)) w d ≡ some q → outputs_to_element (outputs_to d m) (wanted_element (w q)) ≡ true → ⊥)
      → ((p : ℕ) → alt_of (program rows) q ≡ some p → input_noted (row_count rows) (alt_of (program rows)) w d ≡ some p → outputs_to_element (outputs_to d m) (offer_wants (offer_of q (w p))) ≡ true → ⊥) → woken q ≡ false
  not-woken q o x y = ap₂ (λ (s t : Bool). s || t) (not-true (outputs_to_element i (wanted_element (w q))) (λ h. x (own-waits q o h) h)) (option (alt q) refl)
    where
      option : (c : Option ℕ) → alt q ≡ c → outputs_to_element i (offer_wants (offer_of q (note_of n alt w c))) ≡ false
      option none e = refl
      option (some p) e = not-true (outputs_to_element i (offer_wants (offer_of q (w p)))) (λ h. y p e (alt-waits q p h) h)

  -- ---- the bits

  bits_are : (c : ℕ → Bool) → c r ≡ false → ((q : ℕ) → alt_of (program rows) q ≡ some r → c q ≡ false) → ((q : ℕ) → q < row_count rows → r ≢ q → (alt_of (program rows) q ≡ some r → ⊥) → c q ≡ (b q || woken q))
      → (q : ℕ) → q < row_count rows → c q ≡ bit_anew rows ok w r l plain bare (outputs_to d m) F q
  bits_are c x y z q o = go (eqb r q) (decides_eq r q) (among q js) (decides-alt rows ok r q)
    where
      go : (s : Bool) → Decides (r ≡ q) s → (t : Bool) → Decides (alt q ≡ some r) t → c q ≡ if_else s false (if_else t false (b q || woken q))
      go true (holding e) t h = subst (λ (k : ℕ). c k ≡ false) e x
      go false h true (holding e) = y q e
      go false (failing g) false (failing h) = z q o g h

  -- ---- the lists

  abbrev k : Note
  k = note_of_intent (outputs_to d m)

  abbrev Sent : Notes
  Sent = lists_for (row_count rows) (put (note_in rows w) r (note_of_intent (outputs_to d m))) (receiver_in rows w) (put (sender_in rows w) d (r + 1)) (bit_in (row_count rows) (alt_of (program rows)) w)

  notes-are : (q : ℕ) → put (note_in rows w) r (note_of_intent (outputs_to d m)) q ≡ note_anew rows ok w r l plain bare (outputs_to d m) F q
  notes-are q = ap (λ (x : Note). if_else (eqb r q) k x) (go (among q js) (decides-alt rows ok r q))
    where
      go : (t : Bool) → Decides (alt q ≡ some r) t → note_in rows w q ≡ if_else t no_note (note_in rows w q)
      go true (holding e) = option-bare rows ok w r l plain bare i F q e
      go false h = refl

  finish : {c : ℕ → Bool} → ((q : ℕ) → q < row_count rows → c q ≡ bit_anew rows ok w r l plain bare (outputs_to d m) F q)
      → lists_for (row_count rows) (put (note_in rows w) r (note_of_intent (outputs_to d m))) (receiver_in rows w) (put (sender_in rows w) d (r + 1)) c ≡ noted_by rows (noted r (outputs_to d m) w)
  finish h = anew rows ok w r l plain bare i F notes-are (λ e. refl) (λ e. ap (λ (t : Bool). if_else t (r + 1) (sender_in rows w e)) (swap-rows d e)) h

  -- no one waits there
  no-partner : input_noted (row_count rows) (alt_of (program rows)) w d ≡ none → Sent ≡ noted_by rows (noted r (outputs_to d m) w)
  no-partner e =
      finish (bits_are b (own-off rows ok w r l plain bare i F) (option-off rows ok w r l plain bare i F)
      (λ q o x y. or-false (b q) ∙ ap (λ (t : Bool). b q || t) (sym (not-woken q o (λ h t. none-ne-some q (sym e ∙ h)) (λ p a h t. none-ne-some p (sym e ∙ h))))))

  -- row p does
  module _ (p : ℕ) (e : input_noted (row_count rows) (alt_of (program rows)) w d ≡ some p) (below : p < row_count rows) (inputs : T (is_input_from d (w p))) where
    only : (q : ℕ) → input_noted (row_count rows) (alt_of (program rows)) w d ≡ some q → p ≡ q
    only q h = some-injective p q (sym e ∙ h)

    not_itself : p ≢ r
    not_itself z = subst (λ (k : Intent). T (is_input_from d k)) (ap w z ∙ bare) inputs

    works : (x : Option ℕ) → alt_of (program rows) p ≡ x → x ≡ none
    works none h = refl
    works (some q) h = absurd (subst (λ (k : Intent). T (is_input_from d k)) (options-wait rows ok w r l plain bare i F p q h) inputs)

    plain-too : alt_of (program rows) p ≡ none
    plain-too = works (alt p) refl

    what-there : what_of Sent p ≡ (note_of_intent (w p)).what
    what-there =
        what-for n (put (note_in rows w) r k) (receiver_in rows w) (put (sender_in rows w) d (r + 1)) b p (omega (arith, few))
        ∙ ap (λ (x : Note). x.what) (put_other (note_in rows w) r k p (λ z. not_itself (sym z)) ∙ note-of-row rows w p plain-too)

    -- an input
    input-met : (c a : ℕ) → w p ≡ inputs_from c a → wake rows d p Sent ≡ noted_by rows (noted r (outputs_to d m) w)
    unfolding wake
    input-met c a h =
        ap (λ (t : Bool). if_else t (wake_options d (options_at rows p) Sent) (raising p Sent)) (test-no (λ z. let y : ◌≡◌ {A = ℕ} 7 9 = sym (what-there ∙ ap (λ (x : Intent). (note_of_intent x).what) h) ∙ z in omega arith))
        ∙ raising-for n (put (note_in rows w) r k) (receiver_in rows w) (put (sender_in rows w) d (r + 1)) b p (omega (arith, few)) below few
        ∙ finish (bits_are (put b p true) (put_other b p true r not_itself ∙ own-off rows ok w r l plain bare i F)
        (λ q x. put_other b p true q (λ z. none-ne-some r (sym plain-too ∙ ap alt z ∙ x)) ∙ option-off rows ok w r l plain bare i F q x)
        (λ q o x y. go q o (ℕ_discrete p q)))
      where
        meets : outputs_to_element i (wanted_element (w p)) ≡ true
        meets = ap (λ (x : Intent). outputs_to_element i (wanted_element x)) h ∙ swap-rows c d ∙ at (eqb d c) (subst (λ (x : Intent). T (is_input_from d x)) h inputs)
          where
            at : (t : Bool) → T t → t ≡ true
            at true t = refl
            at false t = absurd t

        all_true : (a s : Bool) → true ≡ (a || (true || s))
        all_true true s = refl
        all_true false s = refl

        go : (q : ℕ) → q < row_count rows → Dec (p ≡ q) → put b p true q ≡ (b q || woken q)
        go q o (yes z) =
            subst (λ (q : ℕ). put b p true q ≡ (b q || woken q)) z
            (put-at b p true ∙ all_true (b p) (outputs_to_element i (offer_wants (offer_of p (note_of n alt w (alt p))))) ∙ ap (λ (t : Bool). b p || (t || outputs_to_element i (offer_wants (offer_of p (note_of n alt w (alt p)))))) (sym meets))
        go q o (no z) =
            put_other b p true q z ∙ or-false (b q)
            ∙ ap (λ (t : Bool). b q || t)
            (sym (not-woken q o (λ x t. z (only q x)) (λ s a x t. false≢true (sym (ap (λ (y : Intent). outputs_to_element i (offer_wants (offer_of q y))) (ap w (sym (only s x)) ∙ h)) ∙ t))))

    -- an ALT
    options-met : (os : List Offer) → w p ≡ selects os → wake rows d p Sent ≡ noted_by rows (noted r (outputs_to d m) w)
    unfolding wake
    options-met os h =
        ap (λ (t : Bool). if_else t (wake_options d (options_at rows p) Sent) (raising p Sent)) (test-yes (what-there ∙ ap (λ (x : Intent). (note_of_intent x).what) h))
        ∙ options-woken n few d (options_at rows p) 0 (options-rising rows ok p) (put (note_in rows w) r k) (receiver_in rows w) (put (sender_in rows w) d (r + 1)) b
        ∙ finish (bits_are after (still r (λ z. none-ne-some p (sym plain ∙ z)) ∙ own-off rows ok w r l plain bare i F)
        (λ q x. still q (λ z. not_itself (some-injective p r (sym z ∙ x))) ∙ option-off rows ok w r l plain bare i F q x) (λ q o x y. go q o x (among q (rows_of_options (options_at rows p))) (decides-alt rows ok p q)))
      where
        after : ℕ → Bool
        after q = b q || (among q (rows_of_options (options_at rows p)) && waits_at d (put (note_in rows w) r k q))

        still : (q : ℕ) → (alt q ≡ some p → ⊥) → after q ≡ b q
        still q z = at (among q (rows_of_options (options_at rows p))) (decides-alt rows ok p q)
          where
            at : (t : Bool) → Decides (alt q ≡ some p) t → (b q || (t && waits_at d (put (note_in rows w) r k q))) ≡ b q
            at true (holding y) = absurd (z y)
            at false y = sym (or-false (b q))

        go : (q : ℕ) → q < row_count rows → r ≢ q → (t : Bool) → Decides (alt q ≡ some p) t → (b q || (t && waits_at d (put (note_in rows w) r k q))) ≡ (b q || woken q)
        go q o x true (holding a) =
            ap (λ (t : Bool). b q || t)
            (ap (waits_at d) (put_other (note_in rows w) r k q x ∙ note-of-option rows w q p a)
            ∙ offer-meets d m (offer_of q (w p))
            ∙ sym (ap₂ (λ (x : Intent) (c : Option ℕ). outputs_to_element i (wanted_element x) || outputs_to_element i (offer_wants (offer_of q (note_of n alt w c)))) (options-wait rows ok w r l plain bare i F q p a) a))
        go q o x false (failing z) =
            ap (λ (t : Bool). b q || t)
            (sym (not-woken q o (λ y t. false≢true (sym (ap (λ (x : Intent). outputs_to_element i (wanted_element x)) (ap w (sym (only q y)) ∙ h)) ∙ t)) (λ s a y t. z (a ∙ ap some (sym (only s y))))))

    met : (x : Intent) → w p ≡ x → wake rows d p Sent ≡ noted_by rows (noted r (outputs_to d m) w)
    met waits h = absurd (subst (λ (x : Intent). T (is_input_from d x)) h inputs)
    met (moves x v ws) h = absurd (subst (λ (x : Intent). T (is_input_from d x)) h inputs)
    met (inputs_from c a) h = input-met c a h
    met (outputs_to c v) h = absurd (subst (λ (x : Intent). T (is_input_from d x)) h inputs)
    met (selects os) h = options-met os h

  receiver-there : (p : ℕ) → input_noted (row_count rows) (alt_of (program rows)) w d ≡ some p → (p < row_count rows) × T (is_input_from d (w p))
  unfolding input_noted
  receiver-there p e = go (lowest (λ q. is_input_from d (w q)) n) (lowest-is (λ q. is_input_from d (w q)) n) e
    where
      go : (o : Option ℕ) → Lowest (λ q. T (is_input_from d (w q))) n o → o ≡ some p → (p < n) × T (is_input_from d (w p))
      go none f z = absurd (none-ne-some p z)
      go (some q) f z = subst (λ (p : ℕ). (p < n) × T (is_input_from d (w p))) (some-injective q p z) (f.0, f.1)

  woken-lists : (o : Option ℕ) → input_noted (row_count rows) (alt_of (program rows)) w d ≡ o → if_else (eqb (row_note o) 0) Sent (wake rows d ((row_note o - 1) % 1024) Sent) ≡ noted_by rows (noted r (outputs_to d m) w)
  woken-lists none e = no-partner e
  woken-lists (some p) e =
      let (x, y) = receiver-there p e in
      let z : (p + 1 - 1) % 1024 ≡ p = omega (arith, few, x) in
      ap (λ (t : Bool). if_else t Sent (wake rows d ((p + 1 - 1) % 1024) Sent)) (test-no {x = p + 1} {n = 0} (λ h. omega arith))
      ∙ ap (λ (q : ℕ). wake rows d q Sent) z
      ∙ met p e x y (w p) refl

  pub output_row : note_as rows r r (note_of_intent (outputs_to d m)) (noted_by rows w) ≡ noted_by rows (noted r (outputs_to d m) w)
  unfolding noted_by note_as wait_output
  output_row =
      ap (wait_output rows r d) (stored-for n (note_in rows w) (receiver_in rows w) (sender_in rows w) b r (omega (arith, few)) k)
      ∙ ap (λ (x : Notes). if_else (eqb (receiver_at x d) 0) x (wake rows d ((receiver_at x d - 1) % 1024) x)) (sending-for n (put (note_in rows w) r k) (receiver_in rows w) (sender_in rows w) b d small (r + 1))
      ∙ ap (λ (c : ℕ). if_else (eqb c 0) Sent (wake rows d ((c - 1) % 1024) Sent)) (receiver-for n (put (note_in rows w) r k) (receiver_in rows w) (put (sender_in rows w) d (r + 1)) b d small)
      ∙ woken-lists (input_noted n alt w d) refl
