-- The notes of a step's rows taken off: its rows wait nowhere, and their bits are off; all else is as it was.
use mathlib.Core.Path.{◌≡◌, refl, sym, ap, ap₂, subst, ◌∙◌}
use mathlib.Core.Logic.{◌≢◌, ◌⊎◌, inl, inr}
use mathlib.Core.Bool.{Bool, true, false, not, ◌&&◌, ◌||◌, false≢true}
use mathlib.Core.Option.{Option, none, some, none-ne-some, some-injective}
use mathlib.Core.List.{List}
use Prim.Native.Nat.{ℕ, ◌<◌}
use native.Mathlib.Omega.{arith}
use lib.IntN.{ℤ}
use lib.ListN.{length}
use lib.Dec.{T}
use Rattle.meaning.specs.Basics.{if_else, is_some, lowest, Lowest}
use Rattle.meaning.specs.State.{State, Program, program, Effect}
use Rattle.meaning.specs.Labels.{Label}
use Rattle.meaning.specs.Readings.{Sheet}
use Rattle.meaning.specs.Intent.{Offer, open_offer, input_offer, Intent, waits, moves, inputs_from, outputs_to, selects}
use Rattle.meaning.specs.Ready.{intent_at, after}
use Rattle.meaning.specs.Order.{OrderOf}
use Rattle.meaning.specs.Answers.{check}
use Rattle.meaning.proofs.LowestLaws.{lowest-is}
use Rattle.meaning.proofs.Decides.{Decides, holding, failing}
use Rattle.agreement.proofs.Active.{RowOf, of-own, of-input, of_output, of-alt, of-alt-input, of-alt-output, Active, acts-alone, passes_on, takes-open, takes-input}
use Rattle.machine.specs.RowSteps.{is_output_to, alt_of, waiting_at}
use Rattle.machine.proofs.LiveRows.{intent-is}
use Rattle.run_kept.specs.Kept.{is_input_from, offer_of, wanted_element, offer_wants, own_ready, offer_ready, note_if, option_note, waiting_input, ready_row}
use Rattle.run_kept.specs.Mending.{is_row_of, steps}
use Rattle.run_kept.specs.Noting.{output_noted, input_noted, note_of, bit_in, off}
use Rattle.run_kept.proofs.Waiting.{Single, waiter, one-receiver, one-sender, waiter-waits, no-waiter, sender-is, receiver-is, found-only}
use Rattle.run_kept.proofs.Partners.{wants-waits, option-wants-waits, partner-steps, option-idle, outside-idle}
use Rattle.run_kept.proofs.Mending.{decides-row, decides-steps, not-waits-live, alt-out}

pub found_nothing : (p : ℕ → Bool) (n : ℕ) → ((j : ℕ) → j < n → T (p j) → ⊥) → lowest p n ≡ none
found_nothing p n h = go (lowest p n) (lowest-is p n)
  where
    go : (o : Option ℕ) → Lowest (λ j. T (p j)) n o → o ≡ none
    go none f = refl
    go (some j) f = absurd (h j f.0 f.1)

-- a row of a step would do something
row-acts : {w : ℕ → Intent} {x : Label} {e : Effect} → Active w x e → (p : ℕ) → RowOf x p → w p ≢ waits
row-acts (acts-alone h) p of-own z = let y : ◌≡◌ {A = ℕ} 0 1 = cc in omega arith
row-acts (passes_on h g) p of-input z = let y : ◌≡◌ {A = ℕ} 0 1 = cc in omega arith
row-acts (passes_on h g) p of_output z = let y : ◌≡◌ {A = ℕ} 0 1 = cc in omega arith
row-acts (takes-open h g) p of-alt z = let y : ◌≡◌ {A = ℕ} 0 1 = cc in omega arith
row-acts (takes-input h g f) p of-alt-input z = let y : ◌≡◌ {A = ℕ} 0 1 = cc in omega arith
row-acts (takes-input h g f) p of-alt-output z = let y : ◌≡◌ {A = ℕ} 0 1 = cc in omega arith

-- a bit by the senders where one is wanted
pub own-told : (f g : ℕ → Option ℕ) (w : Intent) → ((e : ℕ) → wanted_element w ≡ some e → f e ≡ g e) → own_ready f w ≡ own_ready g w
own-told f g waits h = refl
own-told f g (moves x v ws) h = refl
own-told f g (inputs_from e a) h = ap (λ (o : Option ℕ). is_some o) (h e refl)
own-told f g (outputs_to e v) h = refl
own-told f g (selects os) h = refl

pub offer-told : (f g : ℕ → Option ℕ) (o : Option Offer) → ((e : ℕ) → offer_wants o ≡ some e → f e ≡ g e) → offer_ready f o ≡ offer_ready g o
offer-told f g none h = refl
offer-told f g (some (open_offer j q ws)) h = refl
offer-told f g (some (input_offer j q e a)) h = ap (λ (o : Option ℕ). is_some o) (h e refl)

-- who waits, without the step's rows
abbrev pub dropped : Label → Option ℕ → Option ℕ
dropped x none = none
dropped x (some p) = if_else (is_row_of x p) none (some p)

off-row : (x : Label) (w : ℕ → Intent) (r : ℕ) → RowOf x r → off x w r ≡ waits
off-row x w r m = go (is_row_of x r) (decides-row x r)
  where
    go : (b : Bool) → Decides (RowOf x r) b → if_else b waits (w r) ≡ waits
    go true d = refl
    go false (failing h) = absurd (h m)

off-other : (x : Label) (w : ℕ → Intent) (r : ℕ) → ¬ RowOf x r → off x w r ≡ w r
off-other x w r m = go (is_row_of x r) (decides-row x r)
  where
    go : (b : Bool) → Decides (RowOf x r) b → if_else b waits (w r) ≡ w r
    go true (holding h) = absurd (m h)
    go false d = refl

module _ (rows : List ℤ) (ok : check rows ≡ none) (sheet : Sheet) (l : List Label) (s : State) (o : OrderOf rows sheet l s) where
  abbrev P : Program
  P = program rows

  abbrev W : ℕ → Intent
  W = intent_at (program rows) sheet s

  abbrev n : ℕ
  n = length s.states

  -- ---- who waits

  module _ (x : Label) (q : Intent → Bool) (U : Single (program rows) sheet s q) where
    -- a row that waits with the step's rows off waited before, and is none of them
    still : (j : ℕ) → T (q (off x (intent_at (program rows) sheet s) j)) → T (q (intent_at (program rows) sheet s j)) × (¬ RowOf x j)
    still j h = go (is_row_of x j) (decides-row x j) h
      where
        go : (b : Bool) → Decides (RowOf x j) b → T (q (if_else b waits (W j))) → T (q (W j)) × (¬ RowOf x j)
        go true d h = absurd (U.not-idle h)
        go false (failing d) h = (h, d)

    waiter-off : lowest (λ r. q (off x (intent_at (program rows) sheet s) r)) (length s.states) ≡ dropped x (waiter (program rows) sheet s q)
    waiter-off = go (waiter P sheet s q) refl
      where
        which : (p : ℕ) → waiter P sheet s q ≡ some p → (b : Bool) → Decides (RowOf x p) b → lowest (λ r. q (off x W r)) n ≡ if_else b none (some p)
        which p h true (holding m) =
            found_nothing (λ r. q (off x W r)) n (λ j k t. let (a, b) = still j t in b (subst (RowOf x) (U.one p j (waiter-waits rows ok sheet l s o q U p h) a) m))
        which p h false (failing m) =
            let g = waiter-waits rows ok sheet l s o q U p h in
            found-only (λ r. q (off x W r)) n p (lowest-below p h) (subst (λ (i : Intent). T (q i)) (sym (off-other x W p m)) g) (λ j t. U.one j p (still j t).0 g)
          where
            lowest-below : (p : ℕ) → waiter P sheet s q ≡ some p → p < n
            lowest-below p h = at (waiter P sheet s q) (lowest-is (λ r. q (W r)) n) h
              where
                at : (c : Option ℕ) → Lowest (λ r. T (q (W r))) n c → c ≡ some p → p < n
                at none f e = absurd (none-ne-some p e)
                at (some k) f e = subst (λ (i : ℕ). i < n) (some-injective k p e) f.0

        go : (c : Option ℕ) → waiter P sheet s q ≡ c → lowest (λ r. q (off x W r)) n ≡ dropped x c
        go none h = found_nothing (λ r. q (off x W r)) n (λ j k t. no-waiter rows ok sheet l s o q U j h (still j t).0)
        go (some p) h = which p h (is_row_of x p) (decides-row x p)

  -- the step's rows wait nowhere, all others where they did
  pub sender-off : (x : Label) (e : ℕ) → output_noted (length s.states) (alt_of (program rows)) (off x (intent_at (program rows) sheet s)) e ≡ dropped x (waiting_at (program rows) sheet s e)
  unfolding output_noted
  sender-off x e = waiter-off x (is_output_to e) (one-sender rows ok sheet l s o e) ∙ ap (dropped x) (sym (sender-is P sheet s e))

  pub receiver-off : (x : Label) (e : ℕ) → input_noted (length s.states) (alt_of (program rows)) (off x (intent_at (program rows) sheet s)) e ≡ dropped x (waiting_input (program rows) sheet s e)
  unfolding input_noted
  receiver-off x e = waiter-off x (is_input_from e) (one-receiver rows ok sheet l s o e) ∙ ap (dropped x) (sym (receiver-is P sheet s e))

  -- ---- bits

  module _ {x : Label} {e : Effect} (A : Active (intent_at (program rows) sheet s) x e) (j : ℕ) where
    abbrev f : ℕ → Option ℕ
    f = output_noted (length s.states) (alt_of (program rows)) (off x (intent_at (program rows) sheet s))

    abbrev Step : Type 0
    Step = RowOf x j ⊎ ((r : ℕ) × (alt_of (program rows) j ≡ some r) × RowOf x r)

    -- the option's note, with the step's rows off, is none or what it was
    option-off : (r : ℕ) → alt_of (program rows) j ≡ some r → (off x (intent_at (program rows) sheet s) r ≡ waits) ⊎ (off x (intent_at (program rows) sheet s) r ≡ intent_at (program rows) sheet s r)
    option-off r z = go (is_row_of x r)
      where
        go : (b : Bool) → (if_else b waits (W r) ≡ waits) ⊎ (if_else b waits (W r) ≡ W r)
        go true = inl refl
        go false = inr refl

    -- a row of the step is no option that offers something
    no-offer : RowOf x j → (c : Option Offer) → option_note (program rows) sheet s j ≡ c → c ≡ none
    no-offer m none h = refl
    no-offer m (some p) h = absurd (false≢true (sym (option-idle rows ok sheet l l s s o o j p h) ∙ not-waits-live rows sheet s j (row-acts A j m)))

    offer-off : RowOf x j → offer_of j (note_of (length s.states) (alt_of (program rows)) (off x (intent_at (program rows) sheet s)) (alt_of (program rows) j)) ≡ none
    unfolding option_note
    offer-off m = go (alt_of P j) refl
      where
        go : (a : Option ℕ) → alt_of P j ≡ a → offer_of j (note_of n (alt_of P) (off x W) a) ≡ none
        go none z = refl
        go (some r) z = at (option-off r z)
          where
            at : (off x W r ≡ waits) ⊎ (off x W r ≡ W r) → offer_of j (off x W r) ≡ none
            at (inl h) = ap (offer_of j) h
            at (inr h) = ap (offer_of j) h ∙ sym (ap (λ (a : Option ℕ). offer_of j (note_if P sheet s a)) z) ∙ no-offer m (option_note P sheet s j) refl

    -- a row of the step has its bit off
    bit-off : Step → bit_in (length s.states) (alt_of (program rows)) (off x (intent_at (program rows) sheet s)) j ≡ false
    unfolding bit_in
    bit-off (inl m) = ap₂ (λ (a : Intent) (b : Option Offer). own_ready f a || offer_ready f b) (off-row x W j m) (offer-off m)
    bit-off (inr (r, z, m)) = ap₂ (λ (a : Intent) (b : Intent). own_ready f a || offer_ready f (offer_of j b)) quiet (ap (note_of n (alt_of P) (off x W)) z ∙ off-row x W r m)
      where
        quiet : off x W j ≡ waits
        quiet = at (option-off' (is_row_of x j))
          where
            idle : W j ≡ waits
            idle = intent-is rows sheet s j false (outside-idle rows ok sheet l s o j (alt-out rows ok sheet l s o r j z (not-waits-live rows sheet s r (row-acts A r m))))

            option-off' : (b : Bool) → (if_else b waits (W j) ≡ waits) ⊎ (if_else b waits (W j) ≡ W j)
            option-off' true = inl refl
            option-off' false = inr refl

            at : (off x W j ≡ waits) ⊎ (off x W j ≡ W j) → off x W j ≡ waits
            at (inl h) = h
            at (inr h) = h ∙ idle

    -- any other row has it as it was
    sender-kept : ¬ Step → (d : ℕ) → ((p : ℕ) → waiting_at (program rows) sheet s d ≡ some p → RowOf x p → ⊥) → output_noted (length s.states) (alt_of (program rows)) (off x (intent_at (program rows) sheet s)) d ≡ waiting_at (program rows) sheet s d
    sender-kept k d h = sender-off x d ∙ go (waiting_at P sheet s d) refl
      where
        at : (p : ℕ) → (b : Bool) → Decides (RowOf x p) b → waiting_at P sheet s d ≡ some p → if_else b none (some p) ≡ some p
        at p true (holding m) g = absurd (h p g m)
        at p false c g = refl

        go : (c : Option ℕ) → waiting_at P sheet s d ≡ c → dropped x c ≡ c
        go none g = refl
        go (some p) g = at p (is_row_of x p) (decides-row x p) g

    bit-on : ¬ Step → bit_in (length s.states) (alt_of (program rows)) (off x (intent_at (program rows) sheet s)) j ≡ ready_row (program rows) sheet s j
    unfolding bit_in ready_row option_note
    bit-on k =
        ap₂ (λ (a b : Bool). a || b) (ap (own_ready f) (off-other x W j (λ m. k (inl m))) ∙ own-told f (waiting_at P sheet s) (W j) (λ d h. sender-kept k d (λ p g m. k (inl (partner-steps rows ok sheet l s o A d p j g m (wants-waits rows ok sheet l s o d j h))))))
        (go (alt_of P j) refl)
      where
        go : (a : Option ℕ) → alt_of P j ≡ a → offer_ready f (offer_of j (note_of n (alt_of P) (off x W) a)) ≡ offer_ready (waiting_at P sheet s) (offer_of j (note_if P sheet s a))
        go none z = refl
        go (some r) z =
            ap (λ (i : Intent). offer_ready f (offer_of j i)) (off-other x W r (λ m. k (inr (r, z, m))))
            ∙ offer-told f (waiting_at P sheet s) (offer_of j (W r))
            (λ d h. sender-kept k d (λ p g m. k (inr (
              r,
              z,
              partner-steps rows ok sheet l s o A d p r g m
                  (option-wants-waits rows ok sheet l s o d r j z (ap (λ (a : Option ℕ). offer_wants (offer_of j (note_if P sheet s a))) z ∙ h)),
            ))))

    -- so the bits, with the step's rows off, are those of the state that the step does not take off
    pub bits-off : bit_in (length s.states) (alt_of (program rows)) (off x (intent_at (program rows) sheet s)) j ≡ (not (steps (program rows) sheet s x (after (program rows) sheet x s) j) && ready_row (program rows) sheet s j)
    bits-off = go (steps P sheet s x (after P sheet x s) j) (decides-steps P sheet s x (after P sheet x s) j)
      where
        go : (b : Bool) → Decides Step b → bit_in n (alt_of P) (off x W) j ≡ (not b && ready_row P sheet s j)
        go true (holding m) = bit-off m
        go false (failing k) = bit-on k
