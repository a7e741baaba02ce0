-- The receiver that waits where a step's sender waits is of the step too: so no other row loses its partner. A row of an option is never at work by itself.
use mathlib.Core.Path.{◌≡◌, refl, sym, ap, subst, ◌∙◌}
use mathlib.Core.Bool.{Bool, true, false}
use mathlib.Core.Option.{Option, none, some, none-ne-some, some-injective}
use mathlib.Core.List.{List, Memᴰ}
use Prim.Native.Nat.{ℕ}
use lib.IntN.{ℤ}
use lib.Dec.{T, eqb_refl}
use Rattle.meaning.specs.Basics.{any_passes}
use Rattle.meaning.specs.Rows.{row_count}
use Rattle.meaning.specs.Tree.{rows_in}
use Rattle.meaning.specs.Values.{Message}
use Rattle.meaning.specs.State.{State, Program, program, whole, Effect}
use Rattle.meaning.specs.Labels.{Label}
use Rattle.meaning.specs.Readings.{Sheet}
use Rattle.meaning.specs.Intent.{Offer, open_offer, input_offer, Intent, waits, moves, inputs_from, outputs_to, selects}
use Rattle.meaning.specs.Ready.{is_live, intent_at}
use Rattle.meaning.specs.Order.{OrderOf}
use Rattle.meaning.specs.Answers.{check}
use Rattle.meaning.proofs.Decides.{Decides, holding, failing, decides-any}
use Rattle.agreement.proofs.Again.{Out}
use Rattle.agreement.proofs.Active.{RowOf, of-own, of-input, of_output, of-alt, of-alt-input, of-alt-output, offer_at, offer_at-is, Active, acts-alone, passes_on, takes-open, takes-input, not-output, input-output, output-selects, output-same}
use Rattle.agreement.proofs.Separate.{alt-row, table-inv}
use Rattle.agreement.proofs.TableFit.{fit}
use Rattle.agreement.proofs.TableOptions.{option-rows}
use Rattle.machine.specs.RowSteps.{alt_of, waiting_at}
use Rattle.machine.proofs.RowReady.{waiting-outputs}
use Rattle.run_kept.specs.Kept.{offers_input, is_input_from, offer_of, wanted_element, offer_wants, note_if, option_note, waiting_input}
use Rattle.run_kept.proofs.Waiting.{one-receiver, waiter-is, receiver-is}

-- an offer of an input, among offers
offer-among : (e : ℕ) (o : Offer) (os : List Offer) → Memᴰ o os → T (offers_input e o) → T (any_passes (offers_input e) os)
offer-among e o os m h = go (any_passes (offers_input e) os) (decides-any (λ p. T (offers_input e p)) (offers_input e) (λ p. itself (offers_input e p)) os)
  where
    itself : (b : Bool) → Decides (T b) b
    itself true = holding tt
    itself false = failing (λ z. z)

    go : (b : Bool) → Decides ((p : Offer) × Memᴰ p os × T (offers_input e p)) b → T b
    go true d = tt
    go false (failing k) = k (o, m, h)

-- what is known of an ALT of which an option offers something
pub offer-known : (j : ℕ) (w : Intent) (o : Offer) → offer_of j w ≡ some o → (os : List Offer) × (w ≡ selects os) × (offer_at j os ≡ some o)
offer-known j waits o h = absurd (none-ne-some o h)
offer-known j (moves x v ws) o h = absurd (none-ne-some o h)
offer-known j (inputs_from e a) o h = absurd (none-ne-some o h)
offer-known j (outputs_to e v) o h = absurd (none-ne-some o h)
offer-known j (selects os) o h = (os, refl, h)

-- what wants a sender at e
pub wants-inputs : (e : ℕ) (w : Intent) → wanted_element w ≡ some e → T (is_input_from e w)
wants-inputs e waits h = absurd (none-ne-some e h)
wants-inputs e (moves x v ws) h = absurd (none-ne-some e h)
wants-inputs e (inputs_from f a) h = rw (some-injective f e h) (eqb_refl e)
wants-inputs e (outputs_to f v) h = absurd (none-ne-some e h)
wants-inputs e (selects os) h = absurd (none-ne-some e h)

offer-wants : (j e : ℕ) (os : List Offer) (o : Option Offer) → offer_at j os ≡ o → offer_wants o ≡ some e → T (any_passes (offers_input e) os)
offer-wants j e os none g h = absurd (none-ne-some e h)
offer-wants j e os (some (open_offer i q ws)) g h = absurd (none-ne-some e h)
offer-wants j e os (some (input_offer i q f a)) g h =
    offer-among e (input_offer i q f a) os (offer_at-is j (input_offer i q f a) os g).0 (rw (some-injective f e h) (eqb_refl e))

pub option-wants : (j e : ℕ) (w : Intent) → offer_wants (offer_of j w) ≡ some e → T (is_input_from e w)
option-wants j e waits h = absurd (none-ne-some e h)
option-wants j e (moves x v ws) h = absurd (none-ne-some e h)
option-wants j e (inputs_from f a) h = absurd (none-ne-some e h)
option-wants j e (outputs_to f v) h = absurd (none-ne-some e h)
option-wants j e (selects os) h = offer-wants j e os (offer_at j os) refl h

module _ (rows : List ℤ) (ok : check rows ≡ none) (sheet : Sheet) (l : List Label) (s : State) (o : OrderOf rows sheet l s) where
  abbrev P : Program
  P = program rows

  abbrev W : ℕ → Intent
  W = intent_at (program rows) sheet s

  -- a row whose note inputs from an element waits there
  inputs-waits : (d r : ℕ) → T (is_input_from d (intent_at (program rows) sheet s r)) → waiting_input (program rows) sheet s d ≡ some r
  inputs-waits d r h = receiver-is P sheet s d ∙ waiter-is rows ok sheet l s o (is_input_from d) (one-receiver rows ok sheet l s o d) r h

  -- a row that wants a sender waits at that element, and an ALT where an option wants one
  pub wants-waits : (d r : ℕ) → wanted_element (intent_at (program rows) sheet s r) ≡ some d → waiting_input (program rows) sheet s d ≡ some r
  wants-waits d r h = inputs-waits d r (wants-inputs d (W r) h)

  pub option-wants-waits : (d r j : ℕ) → alt_of (program rows) j ≡ some r → offer_wants (option_note (program rows) sheet s j) ≡ some d → waiting_input (program rows) sheet s d ≡ some r
  unfolding option_note
  option-wants-waits d r j z h = inputs-waits d r (option-wants j d (W r) (ap (λ (a : Option ℕ). offer_wants (offer_of j (note_if P sheet s a))) (sym z) ∙ h))

  -- the receiver where a sender of the step waits is of the step
  pub partner-steps : {x : Label} {e : Effect} → Active (intent_at (program rows) sheet s) x e → (d p r : ℕ) → waiting_at (program rows) sheet s d ≡ some p → RowOf x p
      → waiting_input (program rows) sheet s d ≡ some r → RowOf x r
  partner-steps A d p r h m g = let (z, q) = waiting-outputs P sheet s d p h in go A m z q
    where
      it : {y : Label} (i : ℕ) → T (is_input_from d (W i)) → RowOf y i → RowOf y r
      it {y} i k n = subst (RowOf y) (some-injective i r (sym (inputs-waits d i k) ∙ g)) n

      go : {y : Label} {f : Effect} → Active W y f → RowOf y p → (z : Message) → W p ≡ outputs_to d z → RowOf y r
      go (acts-alone q) of-own z k = not-output q k
      go (passes_on q u) of-input z k = input-output q k
      go (passes_on {i} {e = c} q u) of_output z k = it i (rw (q, output-same u k) (eqb_refl d)) of-input
      go (takes-open q u) of-alt z k = output-selects k q
      go (takes-input q u v) of-alt-input z k = output-selects k q
      go (takes-input {r = b} {j} {q = c} {i} {e = f} {a} {os} q u v) of-alt-output z k =
          it b (rw q (offer-among d (input_offer i c f a) os (offer_at-is j (input_offer i c f a) os u).0 (rw (output-same v k) (eqb_refl d)))) of-alt-input

  -- the row of an option that offers something is no row of the tree
  option-out : (j : ℕ) (p : Offer) → option_note (program rows) sheet s j ≡ some p → Out j (rows_in (whole (program rows)))
  unfolding option_note
  option-out j p h = go (alt_of P j) h
    where
      go : (a : Option ℕ) → offer_of j (note_if P sheet s a) ≡ some p → Out j (rows_in (whole P))
      go none h = absurd (none-ne-some p h)
      go (some r) h =
          let (os, q, g) = offer-known j (W r) p h in
          let (B, m) = alt-row P (row_count rows) (fit rows ok) sheet s (table-inv rows sheet (fit rows ok) l s o) r j os p q g in
          (option-rows rows ok).no-process B.action r B.listed B.sub j m

-- such a row is never at work
pub outside-idle : (rows : List ℤ) (ok : check rows ≡ none) (sheet : Sheet) (l : List Label) (s : State) (o : OrderOf rows sheet l s) (j : ℕ) → Out j (rows_in (whole (program rows))) → is_live (program rows) sheet j s ≡ false
unfolding is_live
outside-idle rows ok sheet l s o j h = rw ((table-inv rows sheet (fit rows ok) l s o).outside j h)

-- so the row of an option that offers something in one state is at work in none
pub option-idle : (rows : List ℤ) (ok : check rows ≡ none) (sheet : Sheet) (l m : List Label) (s t : State) → OrderOf rows sheet l s → OrderOf rows sheet m t → (j : ℕ) (p : Offer)
    → option_note (program rows) sheet s j ≡ some p → is_live (program rows) sheet j t ≡ false
option-idle rows ok sheet l m s t o q j p h = outside-idle rows ok sheet m t q j (option-out rows ok sheet l s o j p h)
