-- The notes of a state of an order are notes that the rows of its table can have together, and so are those of some of its rows.
use mathlib.Core.Path.{◌≡◌, refl, sym, ap, subst, ◌∙◌}
use mathlib.Core.Logic.{◌≢◌, ◌⊎◌, inl, inr}
use mathlib.Core.Bool.{Bool, true, false, ◌||◌}
use mathlib.Core.Option.{Option, none, some}
use mathlib.Core.List.{List, [], ◌∷◌}
use Prim.Native.Nat.{ℕ, ◌<◌}
use native.Mathlib.Omega.{arith}
use native.Mathlib.Decide.{dec_lt}
use lib.IntN.{ℤ}
use lib.Dec.{T, eqb, eqb→eq}
use borrow.Author.Tests.{eqb-true}
use Rattle.meaning.specs.Basics.{if_else, any_passes}
use Rattle.meaning.specs.Rows.{row_count}
use Rattle.meaning.specs.Tree.{AltOption, Process, Content, content_at, or_stop, action_of}
use Rattle.meaning.specs.State.{State, program}
use Rattle.meaning.specs.Labels.{Label}
use Rattle.meaning.specs.Readings.{Sheet}
use Rattle.meaning.specs.Intent.{Offer, open_offer, input_offer, Intent, waits, moves, inputs_from, outputs_to, selects, intent}
use Rattle.meaning.specs.Ready.{intent_at}
use Rattle.meaning.specs.Order.{OrderOf}
use Rattle.meaning.specs.Answers.{check}
use Rattle.agreement.proofs.TableTree.{part-past, process-is}
use Rattle.machine.specs.RowSteps.{is_output_to, alt_of}
use Rattle.machine.proofs.RowReady.{alt-is}
use Rattle.machine.proofs.RowKinds.{option-kind, no-process}
use Rattle.machine.proofs.LiveRows.{intent-waits}
use Rattle.run_kept.specs.Kept.{offers_input, is_input_from}
use Rattle.run_kept.specs.Noting.{noted}
use Rattle.run_kept.proofs.Waiting.{one-receiver, one-sender}
use Rattle.run_notes.specs.Notes.{options_at}
use Rattle.run_noted.specs.Noted.{NotesFit, Under}
use Rattle.run_noted.proofs.IntentsFit.{OffersBelow, Fits, row_fits}

-- a row that is no process would do nothing
no-process-waits : (rows : List ℤ) (sheet : Sheet) (s : State) (j : ℕ) → (content_at rows j).process ≡ none → intent_at (program rows) sheet s j ≡ waits
unfolding intent
no-process-waits rows sheet s j e =
    intent-waits rows sheet s j (ap (λ (q : Process). intent sheet (action_of q) j s.store) (process-is rows j ∙ ap or_stop e))

-- offers of inputs, and what a row waits for, are at elements below 256
offers-below : (e : ℕ) (os : List Offer) → OffersBelow os → T (any_passes (offers_input e) os) → e < 256
unfolding any_passes
offers-below e [] h t = absurd t
offers-below e (open_offer j q ws ∷ os) h t = offers-below e os h.1 t
offers-below e (input_offer j q f a ∷ os) h t = go (eqb e f) (λ k. eqb→eq e f k) (λ k. offers-below e os h.1 k) t
  where
    go : (b : Bool) → (T b → e ≡ f) → (T (any_passes (offers_input e) os) → e < 256) → T (b || any_passes (offers_input e) os) → e < 256
    go true k later t = rw (k tt) h.0
    go false k later t = later t

receives-below : (bs : List AltOption) (e : ℕ) (w : Intent) → Fits bs w → T (is_input_from e w) → e < 256
receives-below bs e waits h t = absurd t
receives-below bs e (moves x v ws) h t = absurd t
receives-below bs e (inputs_from f a) h t = rw (eqb→eq e f t) h
receives-below bs e (outputs_to f m) h t = absurd t
receives-below bs e (selects os) h t = offers-below e os h.1 t

sends-below : (bs : List AltOption) (e : ℕ) (w : Intent) → Fits bs w → T (is_output_to e w) → e < 256
sends-below bs e waits h t = absurd t
sends-below bs e (moves x v ws) h t = absurd t
sends-below bs e (inputs_from f a) h t = absurd t
sends-below bs e (outputs_to f m) h t = rw (eqb→eq e f t) h
sends-below bs e (selects os) h t = absurd t

-- the notes of a state of an order
pub notes-fit : (rows : List ℤ) → check rows ≡ none → (sheet : Sheet) (l : List Label) (s : State) → OrderOf rows sheet l s → NotesFit rows (intent_at (program rows) sheet s)
notes-fit rows ok sheet l s o = record {
  outside = λ r h. no-process-waits rows sheet s r (ap (λ (c : Content). c.process) (part-past rows r h));
  option-waits = λ j r e. no-process-waits rows sheet s j (no-process rows j (option-kind rows r j (alt-is (program rows) r j e)));
  offered = λ r os e. (subst (Fits (options_at rows r)) e (row_fits rows ok sheet s r)).0;
  receives-at = λ e r t. receives-below (options_at rows r) e (intent_at (program rows) sheet s r) (row_fits rows ok sheet s r) t;
  sends-to = λ e r t. sends-below (options_at rows r) e (intent_at (program rows) sheet s r) (row_fits rows ok sheet s r) t;
  one-receiver = λ e a b h g. (one-receiver rows ok sheet l s o e).one a b h g;
  one-sender = λ e a b h g. (one-sender rows ok sheet l s o e).one a b h g;
}

-- a row that would do something is a row of the table, and no option
pub acting-row : (rows : List ℤ) (w : ℕ → Intent) → NotesFit rows w → (r : ℕ) → w r ≢ waits → (r < row_count rows) × (alt_of (program rows) r ≡ none)
acting-row rows w F r n = (inside (dec_lt r (row_count rows)), plain (alt_of (program rows) r) refl)
  where
    inside : Dec (r < row_count rows) → r < row_count rows
    inside (yes h) = h
    inside (no h) = absurd (n (F.outside r (omega arith)))

    plain : (a : Option ℕ) → alt_of (program rows) r ≡ a → a ≡ none
    plain none e = refl
    plain (some q) e = absurd (n (F.option-waits r q e))

-- a row's note is taken off, and a row is noted
pub off-under : (v : ℕ → Intent) (r : ℕ) → Under (noted r waits v) v
off-under v r q = go (eqb r q)
  where
    go : (t : Bool) → (if_else t waits (v q) ≡ v q) ⊎ (if_else t waits (v q) ≡ waits)
    go true = inr refl
    go false = inl refl

pub noted-under : (v w : ℕ → Intent) → Under w v → (r : ℕ) → Under (noted r (v r) w) v
noted-under v w u r q = go (eqb r q) refl
  where
    go : (t : Bool) → eqb r q ≡ t → (if_else t (v r) (w q) ≡ v q) ⊎ (if_else t (v r) (w q) ≡ waits)
    go true e = inl (ap v (eqb-true r q e))
    go false e = u q

-- of notes that fit, some taken off
module _ (rows : List ℤ) (v w : ℕ → Intent) (F : NotesFit rows v) (u : Under w v) where
  bare : (r : ℕ) → v r ≡ waits → w r ≡ waits
  bare r h = go (u r)
    where
      go : (w r ≡ v r) ⊎ (w r ≡ waits) → w r ≡ waits
      go (inl e) = e ∙ h
      go (inr e) = e

  pub kept : (p : Intent → Bool) → (T (p waits) → ⊥) → (r : ℕ) → T (p (w r)) → T (p (v r))
  kept p z r t = go (u r)
    where
      go : (w r ≡ v r) ⊎ (w r ≡ waits) → T (p (v r))
      go (inl e) = subst (λ (i : Intent). T (p i)) e t
      go (inr e) = absurd (z (subst (λ (i : Intent). T (p i)) e t))

  selects-kept : (r : ℕ) (os : List Offer) → w r ≡ selects os → v r ≡ selects os
  selects-kept r os h = go (u r)
    where
      go : (w r ≡ v r) ⊎ (w r ≡ waits) → v r ≡ selects os
      go (inl e) = sym e ∙ h
      go (inr e) = absurd (let z : ◌≡◌ {A = ℕ} 0 1 = cc in omega arith)

  pub fit-under : NotesFit rows w
  fit-under = record {
    outside = λ r h. bare r (F.outside r h);
    option-waits = λ j r e. bare j (F.option-waits j r e);
    offered = λ r os e. F.offered r os (selects-kept r os e);
    receives-at = λ e r t. F.receives-at e r (kept (is_input_from e) (λ z. z) r t);
    sends-to = λ e r t. F.sends-to e r (kept (is_output_to e) (λ z. z) r t);
    one-receiver = λ e a b h g. F.one-receiver e a b (kept (is_input_from e) (λ z. z) a h) (kept (is_input_from e) (λ z. z) b g);
    one-sender = λ e a b h g. F.one-sender e a b (kept (is_output_to e) (λ z. z) a h) (kept (is_output_to e) (λ z. z) b g);
  }

-- and so the notes of some rows of a state of an order
pub notes-fit-under : (rows : List ℤ) → check rows ≡ none → (sheet : Sheet) (l : List Label) (s : State) → OrderOf rows sheet l s → (w : ℕ → Intent) → Under w (intent_at (program rows) sheet s) → NotesFit rows w
notes-fit-under rows ok sheet l s o w u = fit-under rows (intent_at (program rows) sheet s) w (notes-fit rows ok sheet l s o) u
