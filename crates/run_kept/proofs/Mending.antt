-- The total after a step: what it was, without the bits of the step's rows, with those that rows noted anew raise and those that a sender that came wakes.
use mathlib.Core.Path.{◌≡◌, refl, sym, ap, subst, ◌∙◌}
use mathlib.Core.Logic.{◌≢◌, ◌⊎◌, inl, inr}
use mathlib.Core.Bool.{Bool, true, false, not, ◌&&◌, ◌||◌, true≢false, false≢true}
use mathlib.Core.Option.{Option, none, some, none-ne-some, some-injective}
use mathlib.Core.List.{List, [], ◌∷◌, ◌++◌, Memᴰ}
use Prim.Native.Nat.{ℕ, ◌+◌}
use native.Mathlib.Omega.{arith}
use lib.IntN.{ℤ}
use Rattle.meaning.specs.Basics.{if_else, is_some}
use Rattle.meaning.specs.Rows.{row_count}
use Rattle.meaning.specs.Tree.{action_of, Process, rows_in}
use Rattle.meaning.specs.State.{State, Program, program, whole, Effect}
use Rattle.meaning.specs.Labels.{Label, own, pass, take_option, take_with_output}
use Rattle.meaning.specs.Readings.{Sheet}
use Rattle.meaning.specs.Intent.{Offer, open_offer, input_offer, Intent, waits, moves, inputs_from, outputs_to, selects}
use Rattle.meaning.specs.Ready.{is_live, intent_at, after}
use Rattle.meaning.specs.Order.{OrderOf}
use Rattle.meaning.specs.Answers.{check}
use Rattle.meaning.proofs.Decides.{Decides, holding, failing, decides-iff, decides_and, decides_or, decides_eq}
use Rattle.agreement.proofs.Again.{Out}
use Rattle.agreement.proofs.OptionRows.{option_rows}
use Rattle.agreement.proofs.Active.{RowOf, of-own, of-input, of_output, of-alt, of-alt-input, of-alt-output, Active}
use Rattle.agreement.proofs.Freedom.{NoneOf}
use Rattle.agreement.proofs.TableFit.{fit}
use Rattle.agreement.proofs.TableOptions.{option-rows}
use Rattle.machine.specs.RowSteps.{is_output_to, alt_of, waiting_at}
use Rattle.machine.proofs.RowReady.{alt-is}
use Rattle.machine.proofs.LiveRows.{intent-is}
use Rattle.machine.proofs.RowTables.{states-length}
use Rattle.machine.proofs.Unmoved.{order-after, live-row-works}
use Rattle.run_kept.specs.Kept.{count_below, offer_of, wanted_element, offer_wants, own_ready, offer_ready, note_if, option_note, ready_row, total, Wants, Moved}
use Rattle.run_kept.specs.Mending.{is_row_of, passes_if, is_moved, steps, anew, wakes, taken_off, raised_bits, woken}
use Rattle.run_kept.proofs.Counts.{count-balance}
use Rattle.run_kept.proofs.Waiting.{one-sender, waits-live, waiter-waits, sender-is}
use Rattle.run_kept.proofs.Partners.{offer-known, wants-waits, option-wants-waits, partner-steps, option-idle, outside-idle}
use Rattle.run_kept.proofs.Locality.{one-or-none, unmoved-same, option-unmoved, sender-stays, ready-kept}

-- ---- the tests tell what they say

pub decides-row : (x : Label) (j : ℕ) → Decides (RowOf x j) (is_row_of x j)
decides-row (own r) j = decides-iff (λ e. subst (RowOf (own r)) e of-own) (λ m. back m) (decides_eq r j)
  where
    back : {k : ℕ} → RowOf (own r) k → r ≡ k
    back of-own = refl
decides-row (pass i o) j = decides-iff (λ h. to h) (λ m. back m) (decides_or (decides_eq i j) (decides_eq o j))
  where
    to : (i ≡ j) ⊎ (o ≡ j) → RowOf (pass i o) j
    to (inl e) = subst (RowOf (pass i o)) e of-input
    to (inr e) = subst (RowOf (pass i o)) e of_output

    back : {k : ℕ} → RowOf (pass i o) k → (i ≡ k) ⊎ (o ≡ k)
    back of-input = inl refl
    back of_output = inr refl
decides-row (take_option r i) j = decides-iff (λ e. subst (RowOf (take_option r i)) e of-alt) (λ m. back m) (decides_eq r j)
  where
    back : {k : ℕ} → RowOf (take_option r i) k → r ≡ k
    back of-alt = refl
decides-row (take_with_output r i o) j = decides-iff (λ h. to h) (λ m. back m) (decides_or (decides_eq r j) (decides_eq o j))
  where
    to : (r ≡ j) ⊎ (o ≡ j) → RowOf (take_with_output r i o) j
    to (inl e) = subst (RowOf (take_with_output r i o)) e of-alt-input
    to (inr e) = subst (RowOf (take_with_output r i o)) e of-alt-output

    back : {k : ℕ} → RowOf (take_with_output r i o) k → (r ≡ k) ⊎ (o ≡ k)
    back of-alt-input = inl refl
    back of-alt-output = inr refl

decides-passes : (Q : ℕ → Type 0) (f : ℕ → Bool) → ((r : ℕ) → Decides (Q r) (f r)) → (o : Option ℕ) → Decides ((r : ℕ) × (o ≡ some r) × Q r) (passes_if f o)
decides-passes Q f h none = failing (λ z. none-ne-some z.0 z.1)
decides-passes Q f h (some r) = decides-iff (λ q. (r, refl, q)) (λ z. subst Q (sym (some-injective r z.0 z.1)) z.2) (h r)

decides-true : (t : Bool) → Decides (t ≡ true) t
decides-true true = holding refl
decides-true false = failing (λ e. false≢true e)

decides-false : (t : Bool) → Decides (t ≡ false) (not t)
decides-false true = failing (λ e. true≢false e)
decides-false false = holding refl

-- what passes in a pair of tests
some_of : (a b : Bool) → (a || b) ≡ true → (a ≡ true) ⊎ (b ≡ true)
some_of true b e = inl refl
some_of false b e = inr e

module _ (P : Program) (sheet : Sheet) (s : State) (x : Label) (t : State) where
  decides-moved : (r : ℕ) → Decides (Moved P sheet s x t r) (is_moved P sheet s x t r)
  decides-moved r = decides_or (decides-row x r) (decides_and (decides-false (is_live P sheet r s)) (decides-true (is_live P sheet r t)))

  pub decides-steps : (j : ℕ) → Decides (RowOf x j ⊎ ((r : ℕ) × (alt_of P j ≡ some r) × RowOf x r)) (steps P sheet s x t j)
  unfolding steps
  decides-steps j = decides_or (decides-row x j) (decides-passes (RowOf x) (is_row_of x) (decides-row x) (alt_of P j))

  pub decides-anew : (j : ℕ) → Decides (Moved P sheet s x t j ⊎ ((r : ℕ) × (alt_of P j ≡ some r) × Moved P sheet s x t r)) (anew P sheet s x t j)
  unfolding anew
  decides-anew j = decides_or (decides-moved j) (decides-passes (Moved P sheet s x t) (is_moved P sheet s x t) decides-moved (alt_of P j))

  -- a sender that is noted anew waits at the element
  abbrev pub Woken : Option ℕ → Type 0
  Woken o = (d : ℕ) × (o ≡ some d) × ((p : ℕ) × (waiting_at P sheet t d ≡ some p) × Moved P sheet s x t p)

  pub decides-wakes : (o : Option ℕ) → Decides (Woken o) (wakes P sheet s x t o)
  decides-wakes o =
      decides-passes (λ d. (p : ℕ) × (waiting_at P sheet t d ≡ some p) × Moved P sheet s x t p) (λ d. passes_if (is_moved P sheet s x t) (waiting_at P sheet t d))
      (λ d. decides-passes (Moved P sheet s x t) (is_moved P sheet s x t) decides-moved (waiting_at P sheet t d)) o

-- ---- what a set bit tells

own-bit : (f : ℕ → Option ℕ) (w : Intent) → own_ready f w ≡ true → w ≢ waits
own-bit f w h e = true≢false (sym h ∙ ap (own_ready f) e)

offer-bit : (f : ℕ → Option ℕ) (o : Option Offer) → offer_ready f o ≡ true → (p : Offer) × (o ≡ some p)
offer-bit f none h = absurd (false≢true h)
offer-bit f (some p) h = (p, refl)

-- what wants a sender has its bit by whether there is one
own-wants : (f : ℕ → Option ℕ) (d : ℕ) (w : Intent) → wanted_element w ≡ some d → own_ready f w ≡ is_some (f d)
own-wants f d waits h = absurd (none-ne-some d h)
own-wants f d (moves x v ws) h = absurd (none-ne-some d h)
own-wants f d (inputs_from e a) h = ap (λ (k : ℕ). is_some (f k)) (some-injective e d h)
own-wants f d (outputs_to e v) h = absurd (none-ne-some d h)
own-wants f d (selects os) h = absurd (none-ne-some d h)

wants-acts : (d : ℕ) (w : Intent) → wanted_element w ≡ some d → w ≢ waits
wants-acts d w h e = none-ne-some d (sym (ap wanted_element e) ∙ h)

offer-has : (f : ℕ → Option ℕ) (d : ℕ) (o : Option Offer) → offer_wants o ≡ some d → (offer_ready f o ≡ is_some (f d)) × ((p : Offer) × (o ≡ some p))
offer-has f d none h = absurd (none-ne-some d h)
offer-has f d (some (open_offer i q ws)) h = absurd (none-ne-some d h)
offer-has f d (some (input_offer i q e a)) h = (ap (λ (k : ℕ). is_some (f k)) (some-injective e d h), (input_offer i q e a, refl))

pub not-waits-live : (rows : List ℤ) (sheet : Sheet) (s : State) (r : ℕ) → intent_at (program rows) sheet s r ≢ waits → is_live (program rows) sheet r s ≡ true
not-waits-live rows sheet s r h = go (is_live (program rows) sheet r s) refl
  where
    go : (b : Bool) → is_live (program rows) sheet r s ≡ b → b ≡ true
    go true z = refl
    go false z = absurd (h (intent-is rows sheet s r false z))

idle-bit : (rows : List ℤ) (sheet : Sheet) (s : State) (f : ℕ → Option ℕ) (j : ℕ) → is_live (program rows) sheet j s ≡ false → own_ready f (intent_at (program rows) sheet s j) ≡ false
idle-bit rows sheet s f j h = rw (intent-is rows sheet s j false h)

pub no-option : (P : Program) (sheet : Sheet) (s : State) (j : ℕ) → alt_of P j ≡ none → option_note P sheet s j ≡ none
unfolding option_note
no-option P sheet s j z = rw z

-- an option of an ALT that is at work in some state is no row of the tree
pub alt-out : (rows : List ℤ) (ok : check rows ≡ none) (sheet : Sheet) (l : List Label) (s : State) → OrderOf rows sheet l s → (r j : ℕ) → alt_of (program rows) j ≡ some r → is_live (program rows) sheet r s ≡ true → Out j (rows_in (whole (program rows)))
alt-out rows ok sheet l s o r j z h =
    let B = live-row-works rows ok sheet l s o r h in
    let e = (fit rows ok).placed B.action r B.listed B.sub in
    (option-rows rows ok).no-process B.action r B.listed B.sub j (subst (λ (p : Process). Memᴰ j (option_rows (action_of p))) e (alt-is (program rows) r j z))

module _ (rows : List ℤ) (ok : check rows ≡ none) (sheet : Sheet) (l : List Label) (s : State) (o : OrderOf rows sheet l s)
    {x : Label} {e : Effect} (A : Active (intent_at (program rows) sheet s) x e) where
  abbrev P : Program
  P = program rows

  abbrev t : State
  t = after (program rows) sheet x s

  later : OrderOf rows sheet (l ++ (x ∷ [])) (after (program rows) sheet x s)
  later = order-after rows ok sheet l s o A

  abbrev Step : ℕ → Type 0
  Step j = RowOf x j ⊎ ((r : ℕ) × (alt_of (program rows) j ≡ some r) × RowOf x r)

  abbrev Anew : ℕ → Type 0
  Anew j = Moved (program rows) sheet s x (after (program rows) sheet x s) j ⊎ ((r : ℕ) × (alt_of (program rows) j ≡ some r) × Moved (program rows) sheet s x (after (program rows) sheet x s) r)

  -- ---- a row that is noted anew and had its bit set is of the step

  by-own : (j : ℕ) → is_live (program rows) sheet j s ≡ true → Anew j → Step j
  by-own j h (inl (inl m)) = inl m
  by-own j h (inl (inr c)) = absurd (false≢true (sym c.0 ∙ h))
  by-own j h (inr (r, z, inl m)) = inr (r, z, m)
  by-own j h (inr (r, z, inr c)) = absurd (false≢true (sym (outside-idle rows ok sheet l s o j (alt-out rows ok sheet (l ++ (x ∷ [])) t later r j z c.1)) ∙ h))

  option-live : (r j : ℕ) (p : Offer) → alt_of (program rows) j ≡ some r → option_note (program rows) sheet s j ≡ some p → is_live (program rows) sheet r s ≡ true
  unfolding option_note
  option-live r j p z h =
      let (os, q, g) = offer-known j (intent_at P sheet s r) p (ap (λ (a : Option ℕ). offer_of j (note_if P sheet s a)) (sym z) ∙ h) in
      not-waits-live rows sheet s r (λ w. let y : ◌≡◌ {A = ℕ} 0 1 = cc in omega arith)

  by-option : (j : ℕ) (p : Offer) → option_note (program rows) sheet s j ≡ some p → Anew j → Step j
  by-option j p h (inl (inl m)) = inl m
  by-option j p h (inl (inr c)) = absurd (false≢true (sym (option-idle rows ok sheet l (l ++ (x ∷ [])) s t o later j p h) ∙ c.1))
  by-option j p h (inr (r, z, inl m)) = inr (r, z, m)
  by-option j p h (inr (r, z, inr c)) = absurd (false≢true (sym c.0 ∙ option-live r j p z h))

  ready-steps : (j : ℕ) → ready_row (program rows) sheet s j ≡ true → Anew j → Step j
  unfolding ready_row
  ready-steps j h a = go (some_of (own_ready (waiting_at P sheet s) (intent_at P sheet s j)) (offer_ready (waiting_at P sheet s) (option_note P sheet s j)) h)
    where
      go : (own_ready (waiting_at P sheet s) (intent_at P sheet s j) ≡ true) ⊎ (offer_ready (waiting_at P sheet s) (option_note P sheet s j) ≡ true) → Step j
      go (inl b) = by-own j (not-waits-live rows sheet s j (own-bit (waiting_at P sheet s) (intent_at P sheet s j) b)) a
      go (inr b) = let (p, q) = offer-bit (waiting_at P sheet s) (option_note P sheet s j) b in by-option j p q a

  -- a row of the step is noted anew
  step-anew : (j : ℕ) → Step j → Anew j
  step-anew j (inl m) = inl (inl m)
  step-anew j (inr (r, z, m)) = inr (r, z, inl m)

  -- ---- a row that is not noted anew

  module _ (j : ℕ) (n : ¬ Anew j) where
    -- who waits where it wants a sender is not of the step
    no_step : (d : ℕ) → Wants (program rows) sheet s j d → (r : ℕ) → waiting_at (program rows) sheet s d ≡ some r → RowOf x r → ⊥
    no_step d (inl h) p g m = n (inl (inl (partner-steps rows ok sheet l s o A d p j g m (wants-waits rows ok sheet l s o d j h))))
    no_step d (inr h) p g m = go (alt_of P j) refl
      where
        go : (a : Option ℕ) → alt_of P j ≡ a → ⊥
        go (some r) z = n (inr (r, z, inl (partner-steps rows ok sheet l s o A d p r g m (option-wants-waits rows ok sheet l s o d r j z h))))
        go none z = none-ne-some d (sym (ap offer_wants (no-option P sheet s j z)) ∙ h)

    kept : ((d : ℕ) → Wants (program rows) sheet s j d → (p : ℕ) → waiting_at (program rows) sheet (after (program rows) sheet x s) d ≡ some p → ¬ Moved (program rows) sheet s x (after (program rows) sheet x s) p)
        → ready_row (program rows) sheet (after (program rows) sheet x s) j ≡ ready_row (program rows) sheet s j
    kept f = ready-kept rows ok sheet l s o A j (λ m. n (inl m)) (λ r z m. n (inr (r, z, m))) (λ d h. (λ p g. at d h p g (one-or-none x p), f d h))
      where
        at : (d : ℕ) → Wants P sheet s j d → (p : ℕ) → waiting_at P sheet s d ≡ some p → RowOf x p ⊎ NoneOf x p → NoneOf x p
        at d h p g (inl m) = absurd (no_step d h p g m)
        at d h p g (inr k) = k

    -- where a sender came there was none
    none_before : (d p : ℕ) → Wants (program rows) sheet s j d → waiting_at (program rows) sheet (after (program rows) sheet x s) d ≡ some p → Moved (program rows) sheet s x (after (program rows) sheet x s) p
        → waiting_at (program rows) sheet s d ≡ none
    none_before d p h g m = go (waiting_at P sheet s d) refl
      where
        never : (q : ℕ) → waiting_at P sheet s d ≡ some q → Moved P sheet s x t q → ⊥
        never q k (inl u) = no_step d h q k u
        never q k (inr c) =
            false≢true (sym c.0 ∙ waits-live rows ok sheet l s o (is_output_to d) (one-sender rows ok sheet l s o d) q
            (waiter-waits rows ok sheet l s o (is_output_to d) (one-sender rows ok sheet l s o d) q (sym (sender-is P sheet s d) ∙ k)))

        same : (q : ℕ) → waiting_at P sheet s d ≡ some q → RowOf x q ⊎ NoneOf x q → ⊥
        same q k (inl u) = no_step d h q k u
        same q k (inr u) = never q k (subst (Moved P sheet s x t) (some-injective p q (sym g ∙ sender-stays rows ok sheet l s o A d q k u)) m)

        go : (a : Option ℕ) → waiting_at P sheet s d ≡ a → a ≡ none
        go none k = refl
        go (some q) k = absurd (same q k (one-or-none x q))

    -- then its bit was not set, and is
    wakes-up : (d p : ℕ) → Wants (program rows) sheet s j d → waiting_at (program rows) sheet (after (program rows) sheet x s) d ≡ some p → Moved (program rows) sheet s x (after (program rows) sheet x s) p
        → (ready_row (program rows) sheet s j ≡ false) × (ready_row (program rows) sheet (after (program rows) sheet x s) j ≡ true)
    unfolding ready_row
    wakes-up d p (inl h) g m = (
      rw (own-wants (waiting_at P sheet s) d (intent_at P sheet s j) h, none_before d p (inl h) g m, bare (option_note P sheet s j) refl),
      rw (unmoved-same rows ok sheet l s o A j (λ k. n (inl k)), own-wants (waiting_at P sheet t) d (intent_at P sheet s j) h, g),
    )
      where
        bare : (q : Option Offer) → option_note P sheet s j ≡ q → q ≡ none
        bare none k = refl
        bare (some q) k = absurd (false≢true (sym (option-idle rows ok sheet l l s s o o j q k) ∙ not-waits-live rows sheet s j (wants-acts d (intent_at P sheet s j) h)))
    wakes-up d p (inr h) g m =
        let (u, (q, k)) = offer-has (waiting_at P sheet s) d (option_note P sheet s j) h in
        let y = (offer-has (waiting_at P sheet t) d (option_note P sheet s j) h).0 in (
          rw (idle-bit rows sheet s (waiting_at P sheet s) j (option-idle rows ok sheet l l s s o o j q k), u, none_before d p (inr h) g m),
          rw (idle-bit rows sheet t (waiting_at P sheet t) j (option-idle rows ok sheet l (l ++ (x ∷ [])) s t o later j q k), option-unmoved rows ok sheet l s o A j (λ r z i. n (inr (r, z, i))), y, g),
        )

  -- ---- the balance of a row

  abbrev Wakes : ℕ → Type 0
  Wakes j = Woken (program rows) sheet s x (after (program rows) sheet x s) (wanted_element (intent_at (program rows) sheet s j)) ⊎ Woken (program rows) sheet s x (after (program rows) sheet x s) (offer_wants (option_note (program rows) sheet s j))

  woken-bits : (j : ℕ) → ¬ Anew j → Wakes j → (ready_row (program rows) sheet s j ≡ false) × (ready_row (program rows) sheet (after (program rows) sheet x s) j ≡ true)
  woken-bits j n (inl (d, h, (p, g, m))) = wakes-up j n d p (inl h) g m
  woken-bits j n (inr (d, h, (p, g, m))) = wakes-up j n d p (inr h) g m

  kept-bits : (j : ℕ) → ¬ Anew j → ¬ Wakes j → ready_row (program rows) sheet (after (program rows) sheet x s) j ≡ ready_row (program rows) sheet s j
  kept-bits j n f = kept j n (λ d h p g m. at d h p g m)
    where
      at : (d : ℕ) → Wants P sheet s j d → (p : ℕ) → waiting_at P sheet t d ≡ some p → Moved P sheet s x t p → ⊥
      at d (inl h) p g m = f (inl (d, h, (p, g, m)))
      at d (inr h) p g m = f (inr (d, h, (p, g, m)))

  -- a row's bit is the same, unless it or its ALT is noted anew, or a sender that is noted anew waits where it wants one
  pub bit_kept : (j : ℕ) → ¬ Moved (program rows) sheet s x (after (program rows) sheet x s) j → ((r : ℕ) → alt_of (program rows) j ≡ some r → ¬ Moved (program rows) sheet s x (after (program rows) sheet x s) r)
      → ((d p : ℕ) → Wants (program rows) sheet s j d → waiting_at (program rows) sheet (after (program rows) sheet x s) d ≡ some p → ¬ Moved (program rows) sheet s x (after (program rows) sheet x s) p)
      → ready_row (program rows) sheet (after (program rows) sheet x s) j ≡ ready_row (program rows) sheet s j
  bit_kept j m n f = kept j (λ a. not-anew a) (λ d h p g k. f d p h g k)
    where
      not-anew : Anew j → ⊥
      not-anew (inl k) = m k
      not-anew (inr (r, z, k)) = n r z k

  -- what a row's bit loses and gains
  pub balance : (j : ℕ) → if_else (ready_row (program rows) sheet (after (program rows) sheet x s) j) 1 0 + if_else (taken_off (program rows) sheet s x (after (program rows) sheet x s) j) 1 0
      ≡ if_else (ready_row (program rows) sheet s j) 1 0 + if_else (raised_bits (program rows) sheet s x (after (program rows) sheet x s) j) 1 0 + if_else (woken (program rows) sheet s x (after (program rows) sheet x s) j) 1 0
  unfolding taken_off raised_bits woken
  balance j =
      go (steps P sheet s x t j) (decides-steps P sheet s x t j) (anew P sheet s x t j) (decides-anew P sheet s x t j)
      (wakes P sheet s x t (wanted_element (intent_at P sheet s j)) || wakes P sheet s x t (offer_wants (option_note P sheet s j)))
      (decides_or (decides-wakes P sheet s x t (wanted_element (intent_at P sheet s j))) (decides-wakes P sheet s x t (offer_wants (option_note P sheet s j))))
      (ready_row P sheet s j) (ready_row P sheet t j) refl refl
    where
      go : (u : Bool) → Decides (Step j) u → (a : Bool) → Decides (Anew j) a → (w : Bool) → Decides (Wakes j) w → (b c : Bool) → ready_row P sheet s j ≡ b → ready_row P sheet t j ≡ c
          → if_else c 1 0 + if_else (b && u) 1 0 ≡ if_else b 1 0 + if_else (c && a) 1 0 + if_else (not a && w) 1 0
      go true k true d w v true true h g = refl
      go true k true d w v true false h g = refl
      go false (failing k) true (holding d) w v true c h g = absurd (k (ready-steps j h d))
      go u k true d w v false true h g = refl
      go u k true d w v false false h g = refl
      go true (holding k) false (failing d) w v b c h g = absurd (d (step-anew j k))
      go false k false (failing d) true (holding v) true c h g = absurd (false≢true (sym (woken-bits j d v).0 ∙ h))
      go false k false (failing d) true (holding v) false true h g = refl
      go false k false (failing d) true (holding v) false false h g = absurd (false≢true (sym g ∙ (woken-bits j d v).1))
      go false k false (failing d) false (failing v) true true h g = refl
      go false k false (failing d) false (failing v) true false h g = absurd (false≢true (sym g ∙ kept-bits j d v ∙ h))
      go false k false (failing d) false (failing v) false true h g = absurd (false≢true (sym h ∙ sym (kept-bits j d v) ∙ g))
      go false k false (failing d) false (failing v) false false h g = refl

  -- the total after the step and the bits that it takes off are the total before it, the bits of rows noted anew, and those that are woken
  pub total-mended : total (program rows) sheet (after (program rows) sheet x s) + count_below (taken_off (program rows) sheet s x (after (program rows) sheet x s)) (row_count rows)
      ≡ total (program rows) sheet s + count_below (raised_bits (program rows) sheet s x (after (program rows) sheet x s)) (row_count rows) + count_below (woken (program rows) sheet s x (after (program rows) sheet x s)) (row_count rows)
  unfolding total
  total-mended =
      rw (states-length rows ok sheet (l ++ (x ∷ [])) t later, states-length rows ok sheet l s o)
      (count-balance (ready_row P sheet t) (taken_off P sheet s x t) (ready_row P sheet s) (raised_bits P sheet s x t) (woken P sheet s x t) (row_count rows) (λ j k. balance j))
