-- To note a row in the lists is to note what it would do: a row that waits, steps by itself or inputs; an ALT.
use mathlib.Core.Path.{◌≡◌, refl, sym, ap, ap₂, subst, ◌∙◌}
use mathlib.Core.Bool.{Bool, true, false, ◌&&◌, ◌||◌}
use mathlib.Core.Option.{Option, none, some, none-ne-some}
use mathlib.Core.List.{List, []}
use Prim.Native.Nat.{ℕ, ◌+◌, ◌-◌, ◌<◌}
use native.Mathlib.Omega.{arith}
use lib.IntN.{ℤ, pos}
use lib.Dec.{T, eqb}
use Rattle.meaning.specs.Basics.{if_else, any_passes, among}
use Rattle.meaning.specs.Rows.{row_count}
use Rattle.meaning.specs.Tree.{AltOption}
use Rattle.meaning.specs.State.{Write, program}
use Rattle.meaning.specs.Intent.{Offer, Intent, waits, moves, inputs_from, selects, halts, fails, offers}
use Rattle.meaning.specs.Answers.{check}
use Rattle.meaning.proofs.Decides.{Decides, holding, failing, decides_eq}
use Rattle.agreement.specs.RowsOfSteps.{rows_of_options, offer_at}
use Rattle.agreement.proofs.TableFit.{rows-limit}
use Rattle.machine.specs.RowSteps.{alt_of}
use Rattle.run_kept.specs.Kept.{offers_input, is_input_from, offer_of, wanted_element, offer_wants, own_ready, offer_ready}
use Rattle.run_kept.specs.Noting.{output_noted, note_of, bit_in, noted, outputs_to_element}
use Rattle.run_kept.proofs.Noting.{noted-itself}
use Rattle.run_intents.specs.declared.Does.TheVariants.{Selects}
use Rattle.run_notes.specs.declared.Note.{Note}
use Rattle.run_notes.specs.declared.Notes.{Notes}
use Rattle.run_notes.specs.Notes.{note, note_numbers, stored, raising, options_at, note_as, Noted, note_alt}
use Rattle.run_notes.proofs.Changes.{test-no}
use Rattle.run_noted.specs.Noted.{no_note, note_of_move, note_of_intent, note_of_offer, lists_for, note_in, receiver_in, sender_in, noted_by, NotesFit, Tells}
use Rattle.run_noted.proofs.Blocks.{same_row, swap-rows}
use Rattle.run_noted.proofs.Contents.{put, stored-for, raising-for}
use Rattle.run_noted.proofs.Offers.{options-rising, option-alt, decides-alt, offer-outside}
use Rattle.run_noted.proofs.Left.{move-apart}
use Rattle.run_noted.proofs.Walks.{put-or, none_more, waits-noted, apart-noted, input-noted, bit-met, overlaid, options-lack, options-noted}
use Rattle.run_noted.proofs.Anew.{own-off, option-off, option-bare, woken_by, bit_anew, note_anew, anew}

-- an ALT that stops
pub halts-note : (r k : ℕ) → note_of_intent (halts r k) ≡ note 1 k 0 (pos 0)
halts-note r k =
    let e : 10 + k - 10 ≡ k = omega arith in
    rw (test-no {x = 10 + k} {n = 1} (λ z. omega arith), test-no {x = 10 + k} {n = 2} (λ z. omega arith)) (ap (λ (j : ℕ). note 1 j 0 (pos 0)) e)

module _ (rows : List ℤ) (ok : check rows ≡ none) (w : ℕ → Intent) (r : ℕ) (l : r < row_count rows) (plain : alt_of (program rows) r ≡ none) (bare : w r ≡ waits) where
  abbrev n : ℕ
  n = row_count rows

  abbrev alt : ℕ → Option ℕ
  alt = alt_of (program rows)

  abbrev S : ℕ → Option ℕ
  S = output_noted (row_count rows) (alt_of (program rows)) w

  abbrev js : List ℕ
  js = rows_of_options (options_at rows r)

  abbrev M : Notes
  M = lists_for (row_count rows) (note_in rows w) (receiver_in rows w) (sender_in rows w) (bit_in (row_count rows) (alt_of (program rows)) w)

  -- a row that offers nothing and outputs nowhere
  module _ (i : Intent) (F : NotesFit rows (noted r i w)) (none-offered : (j : ℕ) → offer_of j i ≡ none) (no_output : (o : Option ℕ) → outputs_to_element i o ≡ false) where
    notes-same : (q : ℕ) → put (note_in rows w) r (note_of_intent i) q ≡ note_anew rows ok w r l plain bare i F q
    notes-same q = ap (λ (k : Note). if_else (eqb r q) (note_of_intent i) k) (go (among q js) (decides-alt rows ok r q))
      where
        go : (t : Bool) → Decides (alt q ≡ some r) t → note_in rows w q ≡ if_else t (note_of_offer (offer_of q i)) (note_in rows w q)
        go true (holding e) = option-bare rows ok w r l plain bare i F q e ∙ sym (ap note_of_offer (none-offered q))
        go false d = refl

    bits-same : (q : ℕ) → (bit_in (row_count rows) (alt_of (program rows)) w q || (eqb r q && own_ready (output_noted (row_count rows) (alt_of (program rows)) w) i)) ≡ bit_anew rows ok w r l plain bare i F q
    bits-same q = go (eqb r q) (decides_eq r q) (among q js) (decides-alt rows ok r q)
      where
        quiet : (a : Bool) → (a || false) ≡ (a || woken_by rows ok w r l plain bare i F q)
        quiet a = ap₂ (λ (x y : Bool). a || (x || y)) (sym (no_output (wanted_element (w q)))) (sym (no_output (offer_wants (offer_of q (note_of n alt w (alt q))))))

        go : (s : Bool) → Decides (r ≡ q) s → (t : Bool) → Decides (alt q ≡ some r) t
            → (bit_in n alt w q || (s && own_ready S i)) ≡ if_else s (own_ready S i) (if_else t (offer_ready S (offer_of q i)) (bit_in n alt w q || woken_by rows ok w r l plain bare i F q))
        go true (holding e) t d = ap (λ (b : Bool). b || own_ready S i) (subst (λ (k : ℕ). bit_in n alt w k ≡ false) e (own-off rows ok w r l plain bare i F))
        go false d true (holding e) = ap (λ (b : Bool). b || false) (option-off rows ok w r l plain bare i F q e) ∙ sym (ap (offer_ready S) (none-offered q))
        go false d false z = quiet (bit_in n alt w q)

  pub waits-row : NotesFit rows (noted r waits w) → note_as rows r r (note_of_intent waits) (noted_by rows w) ≡ noted_by rows (noted r waits w)
  unfolding noted_by
  waits-row F =
      waits-noted n (rows-limit rows ok) rows r r l (note_in rows w) (receiver_in rows w) (sender_in rows w) (bit_in n alt w)
      ∙ anew rows ok w r l plain bare waits F (notes-same waits F (λ j. refl) none_out) (λ e. refl) (λ e. refl) (λ q m. none_more (bit_in n alt w q) (eqb r q) ∙ bits-same waits F (λ j. refl) none_out q)
    where
      none_out : (o : Option ℕ) → outputs_to_element waits o ≡ false
      none_out none = refl
      none_out (some e) = refl

  -- one that has a step by itself, however it came to be noted so
  step-lists : (x v : ℕ) (ws : List Write) → NotesFit rows (noted r (moves x v ws) w)
      → lists_for (row_count rows) (put (note_in rows w) r (note_of_intent (moves x v ws))) (receiver_in rows w) (sender_in rows w) (put (bit_in (row_count rows) (alt_of (program rows)) w) r true) ≡ noted_by rows (noted r (moves x v ws) w)
  step-lists x v ws F =
      anew rows ok w r l plain bare (moves x v ws) F (notes-same (moves x v ws) F (λ j. refl) none_out) (λ e. refl) (λ e. refl) (λ q m. put-or (eqb r q) (bit_in n alt w q) ∙ bits-same (moves x v ws) F (λ j. refl) none_out q)
    where
      none_out : (o : Option ℕ) → outputs_to_element (moves x v ws) o ≡ false
      none_out none = refl
      none_out (some e) = refl

  pub step_row : (x v : ℕ) (ws : List Write) → NotesFit rows (noted r (moves x v ws) w) → note_as rows r r (note_of_intent (moves x v ws)) (noted_by rows w) ≡ noted_by rows (noted r (moves x v ws) w)
  unfolding noted_by
  step_row x v ws F =
      apart-noted n (rows-limit rows ok) rows r r l (note_in rows w) (receiver_in rows w) (sender_in rows w) (bit_in n alt w) (note_of_move x v ws) (move-apart x v ws)
      ∙ step-lists x v ws F

  pub input-row : (d a : ℕ) → NotesFit rows (noted r (inputs_from d a) w) → note_as rows r r (note_of_intent (inputs_from d a)) (noted_by rows w) ≡ noted_by rows (noted r (inputs_from d a) w)
  unfolding noted_by
  input-row d a F =
      input-noted n (rows-limit rows ok) rows r r l (note_in rows w) (receiver_in rows w) (sender_in rows w) (bit_in n alt w) d a
      (F.receives-at d r (subst (λ (k : Intent). T (is_input_from d k)) (sym (noted-itself r (inputs_from d a) w)) (subst (λ (t : Bool). T t) (sym (same_row d)) tt)))
      ∙ anew rows ok w r l plain bare (inputs_from d a) F (notes-same (inputs_from d a) F (λ j. refl) none_out) (λ e. ap (λ (t : Bool). if_else t (r + 1) (receiver_in rows w e)) (swap-rows d e)) (λ e. refl)
      (λ q m. bit-met n (rows-limit rows ok) rows r r l (note_in rows w) (receiver_in rows w) (sender_in rows w) (bit_in n alt w) S (λ e. refl) d q ∙ bits-same (inputs_from d a) F (λ j. refl) none_out q)
    where
      none_out : (o : Option ℕ) → outputs_to_element (inputs_from d a) o ≡ false
      none_out none = refl
      none_out (some e) = refl

  -- ---- an ALT

  module _ (G : AltOption → Note) where
    pub stops-row : (k : ℕ) → Tells G (options_at rows r) (fails k) → NotesFit rows (noted r (halts r k) w) → note_alt rows G r (noted_by rows w) ≡ noted_by rows (noted r (halts r k) w)
    unfolding noted_by note_alt
    stops-row k t F =
        ap (λ (z : Noted). if_else (eqb z.note.what 1) (raising r (stored r z.note z.lists)) (stored r z.note z.lists)) (options-lack n (rows-limit rows ok) rows G r (options_at rows r) k t M)
        ∙ ap (λ (k : Note). raising r (stored r k M)) (sym (halts-note r k))
        ∙ ap (raising r) (stored-for n (note_in rows w) (receiver_in rows w) (sender_in rows w) (bit_in n alt w) r (omega (arith, rows-limit rows ok)) (note_of_intent (halts r k)))
        ∙ raising-for n (put (note_in rows w) r (note_of_intent (halts r k))) (receiver_in rows w) (sender_in rows w) (bit_in n alt w) r (omega (arith, rows-limit rows ok)) l (rows-limit rows ok)
        ∙ step-lists r (10 + k) [] F

    pub selects-row : (os : List Offer) → Tells G (options_at rows r) (offers os) → NotesFit rows (noted r (selects os) w) → note_alt rows G r (noted_by rows w) ≡ noted_by rows (noted r (selects os) w)
    unfolding noted_by note_alt
    selects-row os t F =
        ap (λ (z : Noted). if_else (eqb z.note.what 1) (raising r (stored r z.note z.lists)) (stored r z.note z.lists))
        (options-noted n (rows-limit rows ok) rows G r (note_in rows w) (receiver_in rows w) (sender_in rows w) (bit_in n alt w) S (λ e. refl) (options_at rows r) os 0 t (options-rising rows ok r)
        (λ e h. F.receives-at e r (subst (λ (k : Intent). T (is_input_from e k)) (sym (noted-itself r (selects os) w)) h)) (λ j m. option-bare rows ok w r l plain bare (selects os) F j (option-alt rows ok r j m)))
        ∙ stored-for n (λ q. overlaid n (rows-limit rows ok) (offer_at q os) (note_in rows w q)) (λ e. if_else (any_passes (offers_input e) os) (r + 1) (receiver_in rows w e)) (sender_in rows w) (λ q. bit_in n alt w q || offer_ready S (offer_at q os)) r (omega (arith, rows-limit rows ok)) (note_numbers Selects)
        ∙ anew rows ok w r l plain bare (selects os) F notes (λ e. refl) (λ e. refl) (λ q m. bits q)
      where
        outside : (q : ℕ) → (alt q ≡ some r → ⊥) → offer_at q os ≡ none
        outside q z = offer-outside (options_at rows r) os (F.offered r os (noted-itself r (selects os) w)) q (λ m. z (option-alt rows ok r q m))

        laid : (c : Option Offer) → overlaid n (rows-limit rows ok) c no_note ≡ note_of_offer c
        laid none = refl
        laid (some o) = refl

        notes : (q : ℕ) → put (λ q. overlaid n (rows-limit rows ok) (offer_at q os) (note_in rows w q)) r (note_numbers Selects) q ≡ note_anew rows ok w r l plain bare (selects os) F q
        notes q = ap (λ (k : Note). if_else (eqb r q) (note_numbers Selects) k) (go (among q js) (decides-alt rows ok r q))
          where
            go : (t : Bool) → Decides (alt q ≡ some r) t → overlaid n (rows-limit rows ok) (offer_at q os) (note_in rows w q) ≡ if_else t (note_of_offer (offer_at q os)) (note_in rows w q)
            go true (holding e) = ap (overlaid n (rows-limit rows ok) (offer_at q os)) (option-bare rows ok w r l plain bare (selects os) F q e) ∙ laid (offer_at q os)
            go false (failing z) = ap (λ (c : Option Offer). overlaid n (rows-limit rows ok) c (note_in rows w q)) (outside q z)

        none_out : (o : Option ℕ) → outputs_to_element (selects os) o ≡ false
        none_out none = refl
        none_out (some e) = refl

        bits : (q : ℕ) → (bit_in n alt w q || offer_ready S (offer_at q os)) ≡ bit_anew rows ok w r l plain bare (selects os) F q
        bits q = go (eqb r q) (decides_eq r q) (among q js) (decides-alt rows ok r q)
          where
            go : (s : Bool) → Decides (r ≡ q) s → (t : Bool) → Decides (alt q ≡ some r) t
                → (bit_in n alt w q || offer_ready S (offer_at q os)) ≡ if_else s false (if_else t (offer_ready S (offer_at q os)) (bit_in n alt w q || woken_by rows ok w r l plain bare (selects os) F q))
            go true (holding e) t d =
                ap₂ (λ (b : Bool) (c : Option Offer). b || offer_ready S c) (subst (λ (k : ℕ). bit_in n alt w k ≡ false) e (own-off rows ok w r l plain bare (selects os) F))
                (subst (λ (k : ℕ). offer_at k os ≡ none) e (outside r (λ z. none-ne-some r (sym plain ∙ z))))
            go false d true (holding e) = ap (λ (b : Bool). b || offer_ready S (offer_at q os)) (option-off rows ok w r l plain bare (selects os) F q e)
            go false d false (failing z) =
                ap (λ (c : Option Offer). bit_in n alt w q || offer_ready S c) (outside q z)
                ∙ ap₂ (λ (x y : Bool). bit_in n alt w q || (x || y)) (sym (none_out (wanted_element (w q)))) (sym (none_out (offer_wants (offer_of q (note_of n alt w (alt q))))))
