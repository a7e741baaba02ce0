-- A step changes the notes of its own rows and of rows that come to work, who waits at elements where these wait, and no other row's ready step.
use mathlib.Core.Path.{◌≡◌, refl, sym, ap, ap₂, subst, ◌∙◌}
use mathlib.Core.Logic.{◌⊎◌, inl, inr}
use mathlib.Core.Bool.{Bool, true, false}
use mathlib.Core.Option.{Option, none, some, map}
use mathlib.Core.List.{List, [], ◌∷◌, ◌++◌}
use Prim.Native.Nat.{ℕ}
use native.Mathlib.Decide.{ℕ_discrete}
use lib.IntN.{ℤ}
use lib.Dec.{T}
use Rattle.meaning.specs.Basics.{is_some}
use Rattle.meaning.specs.State.{State, Program, program, Effect}
use Rattle.meaning.specs.Labels.{Label, own, pass, take_option, take_with_output}
use Rattle.meaning.specs.Readings.{Sheet}
use Rattle.meaning.specs.Intent.{Offer, open_offer, input_offer, Intent, waits, moves, inputs_from, outputs_to, selects}
use Rattle.meaning.specs.Ready.{is_live, intent_at, after}
use Rattle.meaning.specs.Order.{OrderOf}
use Rattle.meaning.specs.Answers.{check}
use Rattle.agreement.proofs.Active.{RowOf, of-own, of-input, of_output, of-alt, of-alt-input, of-alt-output, offer_at, Active}
use Rattle.agreement.proofs.Freedom.{NoneOf}
use Rattle.machine.specs.RowSteps.{is_output_to, alt_of, own_step_by, offer_step, option_step_by, first_step, waiting_at, own_step, option_step_of, option_step, step_at}
use Rattle.machine.proofs.LiveRows.{intent-is}
use Rattle.machine.proofs.Unmoved.{order-after, live_same}
use Rattle.run_kept.specs.Kept.{is_input_from, offer_of, wanted_element, offer_wants, note_if, option_note, waiting_input, ready_row, Wants, Moved}
use Rattle.run_kept.proofs.ReadyRows.{ready-told}
use Rattle.run_kept.proofs.Waiting.{Single, waiter, one-receiver, one-sender, waits-live, waiter-is, waiter-waits, no-waiter, sender-is, receiver-is}

-- a row is one of a step's rows, or none of them
none-own : {r j : ℕ} → (r ≡ j → ⊥) → NoneOf (own r) j
none-own e q of-own = e

none_pass : {i o j : ℕ} → (i ≡ j → ⊥) → (o ≡ j → ⊥) → NoneOf (pass i o) j
none_pass e f q of-input = e
none_pass e f q of_output = f

none-take : {r i j : ℕ} → (r ≡ j → ⊥) → NoneOf (take_option r i) j
none-take e q of-alt = e

none_from : {r i o j : ℕ} → (r ≡ j → ⊥) → (o ≡ j → ⊥) → NoneOf (take_with_output r i o) j
none_from e f q of-alt-input = e
none_from e f q of-alt-output = f

pub one-or-none : (x : Label) (j : ℕ) → RowOf x j ⊎ NoneOf x j
one-or-none (own r) j = go (ℕ_discrete r j)
  where
    go : Dec (r ≡ j) → RowOf (own r) j ⊎ NoneOf (own r) j
    go (yes e) = inl (subst (RowOf (own r)) e of-own)
    go (no e) = inr (none-own e)
one-or-none (pass i o) j = go (ℕ_discrete i j) (ℕ_discrete o j)
  where
    go : Dec (i ≡ j) → Dec (o ≡ j) → RowOf (pass i o) j ⊎ NoneOf (pass i o) j
    go (yes e) f = inl (subst (RowOf (pass i o)) e of-input)
    go (no e) (yes f) = inl (subst (RowOf (pass i o)) f of_output)
    go (no e) (no f) = inr (none_pass e f)
one-or-none (take_option r i) j = go (ℕ_discrete r j)
  where
    go : Dec (r ≡ j) → RowOf (take_option r i) j ⊎ NoneOf (take_option r i) j
    go (yes e) = inl (subst (RowOf (take_option r i)) e of-alt)
    go (no e) = inr (none-take e)
one-or-none (take_with_output r i o) j = go (ℕ_discrete r j) (ℕ_discrete o j)
  where
    go : Dec (r ≡ j) → Dec (o ≡ j) → RowOf (take_with_output r i o) j ⊎ NoneOf (take_with_output r i o) j
    go (yes e) f = inl (subst (RowOf (take_with_output r i o)) e of-alt-input)
    go (no e) (yes f) = inl (subst (RowOf (take_with_output r i o)) f of-alt-output)
    go (no e) (no f) = inr (none_from e f)

-- ---- steps of a row, by what it and its ALT would do and who waits where they want a sender

own_same : (a b : ℕ → Option ℕ) (j : ℕ) (w : Intent) → ((e : ℕ) → wanted_element w ≡ some e → a e ≡ b e) → own_step_by a j w ≡ own_step_by b j w
own_same a b j waits h = refl
own_same a b j (moves x v ws) h = refl
own_same a b j (inputs_from e c) h = ap (map (pass j)) (h e refl)
own_same a b j (outputs_to e v) h = refl
own_same a b j (selects os) h = refl

offer-same : (a b : ℕ → Option ℕ) (r j : ℕ) (o : Option Offer) → ((e : ℕ) → offer_wants o ≡ some e → a e ≡ b e) → offer_step a r j o ≡ offer_step b r j o
offer-same a b r j none h = refl
offer-same a b r j (some (open_offer i q ws)) h = refl
offer-same a b r j (some (input_offer i q e c)) h = ap (map (take_with_output r j)) (h e refl)

option-same : (a b : ℕ → Option ℕ) (r j : ℕ) (w : Intent) → ((e : ℕ) → offer_wants (offer_of j w) ≡ some e → a e ≡ b e) → option_step_by a r j w ≡ option_step_by b r j w
option-same a b r j waits h = refl
option-same a b r j (moves x v ws) h = refl
option-same a b r j (inputs_from e c) h = refl
option-same a b r j (outputs_to e v) h = refl
option-same a b r j (selects os) h = offer-same a b r j (offer_at j os) h

module _ (rows : List ℤ) (ok : check rows ≡ none) (sheet : Sheet) (l : List Label) (s : State) (o : OrderOf rows sheet l s)
    {x : Label} {e : Effect} (A : Active (intent_at (program rows) sheet s) x e) where
  abbrev P : Program
  P = program rows

  abbrev t : State
  t = after (program rows) sheet x s

  later : OrderOf rows sheet (l ++ (x ∷ [])) (after (program rows) sheet x s)
  later = order-after rows ok sheet l s o A

  -- ---- notes

  -- a row at work that is none of the step's rows would do the same after it
  pub note-kept : (r : ℕ) → is_live (program rows) sheet r s ≡ true → NoneOf x r → intent_at (program rows) sheet (after (program rows) sheet x s) r ≡ intent_at (program rows) sheet s r
  note-kept r h d = live_same rows ok sheet l s o A r d h

  -- so would each of its options
  pub option-kept : (r j : ℕ) → alt_of (program rows) j ≡ some r → is_live (program rows) sheet r s ≡ true → NoneOf x r
      → option_note (program rows) sheet (after (program rows) sheet x s) j ≡ option_note (program rows) sheet s j
  unfolding option_note
  option-kept r j z h d = rw z (ap (offer_of j) (note-kept r h d))

  -- every row would do the same, or is of the step, or comes to work
  pub same-or-moved : (r : ℕ) → (intent_at (program rows) sheet (after (program rows) sheet x s) r ≡ intent_at (program rows) sheet s r) ⊎ Moved (program rows) sheet s x (after (program rows) sheet x s) r
  same-or-moved r = go (one-or-none x r) (is_live P sheet r s) refl (is_live P sheet r t) refl
    where
      go : RowOf x r ⊎ NoneOf x r → (a : Bool) → is_live P sheet r s ≡ a → (b : Bool) → is_live P sheet r t ≡ b → (intent_at P sheet t r ≡ intent_at P sheet s r) ⊎ Moved P sheet s x t r
      go (inl m) a p b q = inr (inl m)
      go (inr d) true p b q = inl (note-kept r p d)
      go (inr d) false p true q = inr (inr (p, q))
      go (inr d) false p false q = inl (intent-is rows sheet t r false q ∙ sym (intent-is rows sheet s r false p))

  -- a row that is not noted anew would do the same
  pub unmoved-same : (r : ℕ) → ¬ Moved (program rows) sheet s x (after (program rows) sheet x s) r → intent_at (program rows) sheet (after (program rows) sheet x s) r ≡ intent_at (program rows) sheet s r
  unmoved-same r d = go (same-or-moved r)
    where
      go : (intent_at P sheet t r ≡ intent_at P sheet s r) ⊎ Moved P sheet s x t r → intent_at P sheet t r ≡ intent_at P sheet s r
      go (inl q) = q
      go (inr m) = absurd (d m)

  -- and an option of a row that is not offers the same
  pub option-unmoved : (j : ℕ) → ((r : ℕ) → alt_of (program rows) j ≡ some r → ¬ Moved (program rows) sheet s x (after (program rows) sheet x s) r)
      → option_note (program rows) sheet (after (program rows) sheet x s) j ≡ option_note (program rows) sheet s j
  unfolding option_note
  option-unmoved j n = go (alt_of P j) refl
    where
      go : (a : Option ℕ) → alt_of P j ≡ a → offer_of j (note_if P sheet t a) ≡ offer_of j (note_if P sheet s a)
      go none z = refl
      go (some r) z = ap (offer_of j) (unmoved-same r (n r z))

  -- ---- who waits

  module _ (q : Intent → Bool) (U : Single (program rows) sheet s q) (U' : Single (program rows) sheet (after (program rows) sheet x s) q) where
    -- who waits and is none of the step's rows waits on
    stays : (r : ℕ) → waiter (program rows) sheet s q ≡ some r → NoneOf x r → waiter (program rows) sheet (after (program rows) sheet x s) q ≡ some r
    stays r h d =
        let g = waiter-waits rows ok sheet l s o q U r h in
        waiter-is rows ok sheet (l ++ (x ∷ [])) t later q U' r (subst (λ (w : Intent). T (q w)) (sym (note-kept r (waits-live rows ok sheet l s o q U r g) d)) g)

    -- who waits where no one did is noted anew
    appears : (r : ℕ) → waiter (program rows) sheet s q ≡ none → waiter (program rows) sheet (after (program rows) sheet x s) q ≡ some r → Moved (program rows) sheet s x (after (program rows) sheet x s) r
    appears r h g = go (same-or-moved r)
      where
        go : (intent_at P sheet t r ≡ intent_at P sheet s r) ⊎ Moved P sheet s x t r → Moved P sheet s x t r
        go (inr m) = m
        go (inl z) = absurd (no-waiter rows ok sheet l s o q U r h (subst (λ (w : Intent). T (q w)) z (waiter-waits rows ok sheet (l ++ (x ∷ [])) t later q U' r g)))

    -- the same waits, or who waited was of the step, or who waits now is noted anew
    same-waiter : (waiter (program rows) sheet (after (program rows) sheet x s) q ≡ waiter (program rows) sheet s q)
        ⊎ (((r : ℕ) × (waiter (program rows) sheet s q ≡ some r) × RowOf x r)
        ⊎ ((r : ℕ) × (waiter (program rows) sheet s q ≡ none) × (waiter (program rows) sheet (after (program rows) sheet x s) q ≡ some r) × Moved (program rows) sheet s x (after (program rows) sheet x s) r))
    same-waiter = go (waiter P sheet s q) refl (waiter P sheet t q) refl
      where
        which : (r : ℕ) → waiter P sheet s q ≡ some r → RowOf x r ⊎ NoneOf x r
            → (waiter P sheet t q ≡ waiter P sheet s q) ⊎ (((r : ℕ) × (waiter P sheet s q ≡ some r) × RowOf x r) ⊎ ((r : ℕ) × (waiter P sheet s q ≡ none) × (waiter P sheet t q ≡ some r) × Moved P sheet s x t r))
        which r h (inl m) = inr (inl (r, h, m))
        which r h (inr d) = inl (stays r h d ∙ sym h)

        go : (a : Option ℕ) → waiter P sheet s q ≡ a → (b : Option ℕ) → waiter P sheet t q ≡ b
            → (waiter P sheet t q ≡ waiter P sheet s q) ⊎ (((r : ℕ) × (waiter P sheet s q ≡ some r) × RowOf x r) ⊎ ((r : ℕ) × (waiter P sheet s q ≡ none) × (waiter P sheet t q ≡ some r) × Moved P sheet s x t r))
        go (some r) h b g = which r h (one-or-none x r)
        go none h none g = inl (g ∙ sym h)
        go none h (some r) g = inr (inr (r, h, g, appears r h g))

  pub sender-stays : (d r : ℕ) → waiting_at (program rows) sheet s d ≡ some r → NoneOf x r → waiting_at (program rows) sheet (after (program rows) sheet x s) d ≡ some r
  sender-stays d r h n =
      sender-is P sheet t d ∙ stays (is_output_to d) (one-sender rows ok sheet l s o d) (one-sender rows ok sheet (l ++ (x ∷ [])) t later d) r (sym (sender-is P sheet s d) ∙ h) n

  pub receiver-stays : (d r : ℕ) → waiting_input (program rows) sheet s d ≡ some r → NoneOf x r → waiting_input (program rows) sheet (after (program rows) sheet x s) d ≡ some r
  receiver-stays d r h n =
      receiver-is P sheet t d ∙ stays (is_input_from d) (one-receiver rows ok sheet l s o d) (one-receiver rows ok sheet (l ++ (x ∷ [])) t later d) r (sym (receiver-is P sheet s d) ∙ h) n

  -- an element's sender: the same, or it was of the step, or there was none and one that is noted anew waits now
  pub sender-same : (d : ℕ) → (waiting_at (program rows) sheet (after (program rows) sheet x s) d ≡ waiting_at (program rows) sheet s d)
      ⊎ (((r : ℕ) × (waiting_at (program rows) sheet s d ≡ some r) × RowOf x r)
      ⊎ ((r : ℕ) × (waiting_at (program rows) sheet s d ≡ none) × (waiting_at (program rows) sheet (after (program rows) sheet x s) d ≡ some r) × Moved (program rows) sheet s x (after (program rows) sheet x s) r))
  sender-same d = rw (sender-is P sheet t d, sender-is P sheet s d) (same-waiter (is_output_to d) (one-sender rows ok sheet l s o d) (one-sender rows ok sheet (l ++ (x ∷ [])) t later d))

  pub receiver-same : (d : ℕ) → (waiting_input (program rows) sheet (after (program rows) sheet x s) d ≡ waiting_input (program rows) sheet s d)
      ⊎ (((r : ℕ) × (waiting_input (program rows) sheet s d ≡ some r) × RowOf x r)
      ⊎ ((r : ℕ) × (waiting_input (program rows) sheet s d ≡ none) × (waiting_input (program rows) sheet (after (program rows) sheet x s) d ≡ some r) × Moved (program rows) sheet s x (after (program rows) sheet x s) r))
  receiver-same d = rw (receiver-is P sheet t d, receiver-is P sheet s d) (same-waiter (is_input_from d) (one-receiver rows ok sheet l s o d) (one-receiver rows ok sheet (l ++ (x ∷ [])) t later d))

  -- ---- ready steps

  -- the sender where row j wants one: it is none of the step's rows, and none that waits there is noted anew
  abbrev pub PartnerKept : ℕ → Type 0
  PartnerKept d = ((r : ℕ) → waiting_at (program rows) sheet s d ≡ some r → NoneOf x r)
      × ((r : ℕ) → waiting_at (program rows) sheet (after (program rows) sheet x s) d ≡ some r → ¬ Moved (program rows) sheet s x (after (program rows) sheet x s) r)

  partner-same : (d : ℕ) → PartnerKept d → waiting_at (program rows) sheet (after (program rows) sheet x s) d ≡ waiting_at (program rows) sheet s d
  partner-same d (f, g) = go (sender-same d)
    where
      go : (waiting_at P sheet t d ≡ waiting_at P sheet s d)
          ⊎ (((r : ℕ) × (waiting_at P sheet s d ≡ some r) × RowOf x r) ⊎ ((r : ℕ) × (waiting_at P sheet s d ≡ none) × (waiting_at P sheet t d ≡ some r) × Moved P sheet s x t r))
          → waiting_at P sheet t d ≡ waiting_at P sheet s d
      go (inl h) = h
      go (inr (inl (r, h, m))) = absurd (f r h r m refl)
      go (inr (inr (r, h, k, m))) = absurd (g r k m)

  -- a row by itself has the same step
  pub own-step-kept : (j : ℕ) → ¬ Moved (program rows) sheet s x (after (program rows) sheet x s) j → ((d : ℕ) → wanted_element (intent_at (program rows) sheet s j) ≡ some d → PartnerKept d)
      → own_step (program rows) sheet (after (program rows) sheet x s) j ≡ own_step (program rows) sheet s j
  unfolding own_step
  own-step-kept j m f = rw (unmoved-same j m) (own_same (waiting_at P sheet t) (waiting_at P sheet s) j (intent_at P sheet s j) (λ d h. partner-same d (f d h)))

  -- an option of an ALT has the same step
  pub option-step-kept : (j : ℕ) → ((r : ℕ) → alt_of (program rows) j ≡ some r → ¬ Moved (program rows) sheet s x (after (program rows) sheet x s) r)
      → ((d : ℕ) → offer_wants (option_note (program rows) sheet s j) ≡ some d → PartnerKept d)
      → option_step (program rows) sheet (after (program rows) sheet x s) j ≡ option_step (program rows) sheet s j
  unfolding option_step option_note
  option-step-kept j m f = go (alt_of P j) refl
    where
      go : (a : Option ℕ) → alt_of P j ≡ a → option_step_of P sheet t j a ≡ option_step_of P sheet s j a
      go none z = refl
      go (some r) z =
          rw (unmoved-same r (m r z))
          (option-same (waiting_at P sheet t) (waiting_at P sheet s) r j (intent_at P sheet s r)
          (λ d h. partner-same d (f d (ap (λ (a : Option ℕ). offer_wants (offer_of j (note_if P sheet s a))) z ∙ h))))

  -- a row orders the same step, unless it or its ALT is noted anew, or the sender where it wants one is
  pub step_kept : (j : ℕ) → ¬ Moved (program rows) sheet s x (after (program rows) sheet x s) j → ((r : ℕ) → alt_of (program rows) j ≡ some r → ¬ Moved (program rows) sheet s x (after (program rows) sheet x s) r)
      → ((d : ℕ) → Wants (program rows) sheet s j d → PartnerKept d) → step_at (program rows) sheet (after (program rows) sheet x s) j ≡ step_at (program rows) sheet s j
  unfolding step_at
  step_kept j m n f = ap₂ first_step (own-step-kept j m (λ d h. f d (inl h))) (option-step-kept j n (λ d h. f d (inr h)))

  pub ready-kept : (j : ℕ) → ¬ Moved (program rows) sheet s x (after (program rows) sheet x s) j → ((r : ℕ) → alt_of (program rows) j ≡ some r → ¬ Moved (program rows) sheet s x (after (program rows) sheet x s) r)
      → ((d : ℕ) → Wants (program rows) sheet s j d → PartnerKept d) → ready_row (program rows) sheet (after (program rows) sheet x s) j ≡ ready_row (program rows) sheet s j
  ready-kept j m n f = sym (ready-told P sheet t j) ∙ ap (λ (y : Option Label). is_some y) (step_kept j m n f) ∙ ready-told P sheet s j
