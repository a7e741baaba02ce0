-- One row is noted: who waits where, and whose bits change. And the notes of a state after a step are those before it, with the step's rows taken off and the rows that moved noted.
use mathlib.Core.Path.{◌≡◌, refl, sym, ap, ap₂, subst, fun_ext, ◌∙◌}
use mathlib.Core.Logic.{◌≢◌, ◌⊎◌, inl, inr}
use mathlib.Core.Bool.{Bool, true, false, ◌||◌, false≢true}
use mathlib.Core.Option.{Option, none, some}
use mathlib.Core.List.{List}
use Prim.Native.Nat.{ℕ, zero, suc, ◌<◌}
use native.Mathlib.Decide.{ℕ_discrete}
use lib.IntN.{ℤ}
use lib.ListN.{length}
use lib.Dec.{T, eqb}
use Rattle.meaning.specs.Basics.{if_else, is_some, lowest_from, lowest, Lowest}
use Rattle.meaning.specs.State.{State, Program, program, Effect}
use Rattle.meaning.specs.Labels.{Label}
use Rattle.meaning.specs.Readings.{Sheet}
use Rattle.meaning.specs.Intent.{Offer, open_offer, input_offer, Intent, waits, moves, inputs_from, outputs_to, selects}
use Rattle.meaning.specs.Ready.{intent_at, after}
use Rattle.meaning.specs.Order.{OrderOf}
use Rattle.meaning.specs.Answers.{check}
use Rattle.meaning.proofs.LowestLaws.{lowest-is}
use Rattle.meaning.proofs.NoFault.{or_turn}
use Rattle.meaning.proofs.Decides.{Decides, holding, failing, decides_eq}
use Rattle.agreement.proofs.Active.{RowOf, offer_at, Active}
use Rattle.machine.specs.RowSteps.{is_output_to, alt_of, waiting_at}
use Rattle.machine.proofs.LiveRows.{intent-is}
use Rattle.run_kept.specs.Kept.{is_input_from, offer_of, wanted_element, offer_wants, own_ready, offer_ready, note_if, option_note, ready_row, Moved}
use Rattle.run_kept.specs.Mending.{is_row_of}
use Rattle.run_kept.specs.Noting.{output_noted, input_noted, note_of, bit_in, off, noted, outputs_to_element}
use Rattle.run_kept.proofs.Waiting.{found-only}
use Rattle.run_kept.proofs.Partners.{wants-inputs, option-wants}
use Rattle.run_kept.proofs.Locality.{same-or-moved}
use Rattle.run_kept.proofs.Mending.{decides-row}

-- ---- tests that agree

from-same : (p q : ℕ → Bool) → ((j : ℕ) → p j ≡ q j) → (k at : ℕ) → lowest_from p at k ≡ lowest_from q at k
unfolding lowest_from
from-same p q h zero at = refl
from-same p q h (suc k) at = ap₂ (λ (t : Bool) (o : Option ℕ). if_else t (some at) o) (h at) (from-same p q h k (suc at))

pub lowest-same : (p q : ℕ → Bool) (n : ℕ) → ((j : ℕ) → p j ≡ q j) → lowest p n ≡ lowest q n
unfolding lowest
lowest-same p q n h = from-same p q h n 0

-- ---- one row is noted

-- the note of each row
pub noted-itself : (r : ℕ) (i : Intent) (w : ℕ → Intent) → noted r i w r ≡ i
noted-itself r i w = go (eqb r r) (decides_eq r r)
  where
    go : (t : Bool) → Decides (r ≡ r) t → if_else t i (w r) ≡ i
    go true d = refl
    go false (failing h) = absurd (h refl)

pub noted_other : (r : ℕ) (i : Intent) (w : ℕ → Intent) (q : ℕ) → r ≢ q → noted r i w q ≡ w q
noted_other r i w q h = go (eqb r q) (decides_eq r q)
  where
    go : (t : Bool) → Decides (r ≡ q) t → if_else t i (w q) ≡ w q
    go true (holding e) = absurd (h e)
    go false d = refl

module _ (n : ℕ) (v w : ℕ → Intent) (r : ℕ) (below : r < n) (bare : w r ≡ waits) (under : (q : ℕ) → (w q ≡ v q) ⊎ (w q ≡ waits)) where
  -- who passes a test that one row at most passes in the end: the row that is noted, if it does, else who did before
  waiter-noted : (q : Intent → Bool) → q waits ≡ false → ((a b : ℕ) → T (q (v a)) → T (q (v b)) → a ≡ b)
      → lowest (λ k. q (noted r (v r) w k)) n ≡ if_else (q (v r)) (some r) (lowest (λ k. q (w k)) n)
  waiter-noted q z one = go (q (v r)) refl
    where
      here : (j : ℕ) → T (q (w j)) → (w j ≡ v j) ⊎ (w j ≡ waits) → T (q (v j))
      here j h (inl e) = subst (λ (i : Intent). T (q i)) e h
      here j h (inr e) = let y : T false = subst (λ (b : Bool). T b) (ap q e ∙ z) h in absurd y

      only : T (q (v r)) → (j : ℕ) → Dec (r ≡ j) → T (q (noted r (v r) w j)) → j ≡ r
      only t j (yes e) h = sym e
      only t j (no e) h = one j r (here j (subst (λ (i : Intent). T (q i)) (noted_other r (v r) w j e) h) (under j)) t

      same : q (v r) ≡ false → (j : ℕ) → Dec (r ≡ j) → q (noted r (v r) w j) ≡ q (w j)
      same t j (yes e) = subst (λ (k : ℕ). q (noted r (v r) w k) ≡ q (w k)) e (ap q (noted-itself r (v r) w) ∙ t ∙ sym (ap q bare ∙ z))
      same t j (no e) = ap q (noted_other r (v r) w j e)

      go : (b : Bool) → q (v r) ≡ b → lowest (λ k. q (noted r (v r) w k)) n ≡ if_else b (some r) (lowest (λ k. q (w k)) n)
      go true t =
          let y : T (q (v r)) = subst (λ (b : Bool). T b) (sym t) tt in
          found-only (λ k. q (noted r (v r) w k)) n r below (subst (λ (i : Intent). T (q i)) (sym (noted-itself r (v r) w)) y) (λ j h. only y j (ℕ_discrete r j) h)
      go false t = lowest-same (λ k. q (noted r (v r) w k)) (λ k. q (w k)) n (λ j. same t j (ℕ_discrete r j))

  module _ (alt : ℕ → Option ℕ) where
    pub sender-noted : (e : ℕ) → ((a b : ℕ) → T (is_output_to e (v a)) → T (is_output_to e (v b)) → a ≡ b)
        → output_noted n alt (noted r (v r) w) e ≡ if_else (is_output_to e (v r)) (some r) (output_noted n alt w e)
    unfolding output_noted
    sender-noted e one = waiter-noted (is_output_to e) refl one

    pub receiver-noted : (e : ℕ) → ((a b : ℕ) → T (is_input_from e (v a)) → T (is_input_from e (v b)) → a ≡ b)
        → input_noted n alt (noted r (v r) w) e ≡ if_else (is_input_from e (v r)) (some r) (input_noted n alt w e)
    unfolding input_noted
    receiver-noted e one = waiter-noted (is_input_from e) refl one

-- ---- bits

module _ (i : Intent) (r : ℕ) (f g : ℕ → Option ℕ) (h : (e : ℕ) → g e ≡ if_else (is_output_to e i) (some r) (f e)) where
  met : (e : ℕ) → is_some (g e) ≡ (is_some (f e) || is_output_to e i)
  met e = ap (λ (o : Option ℕ). is_some o) (h e) ∙ go (is_output_to e i) (f e)
    where
      go : (t : Bool) (o : Option ℕ) → is_some (if_else t (some r) o) ≡ (is_some o || t)
      go true none = refl
      go true (some a) = refl
      go false none = refl
      go false (some a) = refl

  own-met : (w : Intent) → own_ready g w ≡ (own_ready f w || outputs_to_element i (wanted_element w))
  own-met waits = refl
  own-met (moves x v ws) = refl
  own-met (inputs_from e a) = met e
  own-met (outputs_to e v) = refl
  own-met (selects os) = refl

  offer-met : (o : Option Offer) → offer_ready g o ≡ (offer_ready f o || outputs_to_element i (offer_wants o))
  offer-met none = refl
  offer-met (some (open_offer j q ws)) = refl
  offer-met (some (input_offer j q e a)) = met e

module _ (n : ℕ) (alt : ℕ → Option ℕ) (v w : ℕ → Intent) (r : ℕ) (below : r < n) (bare : w r ≡ waits) (under : (q : ℕ) → (w q ≡ v q) ⊎ (w q ≡ waits))
    (one : (e a b : ℕ) → T (is_output_to e (v a)) → T (is_output_to e (v b)) → a ≡ b) where
  -- a row that is not noted, nor its ALT, has its bit as before, or it is woken: the row that is noted outputs where it wants a sender
  pub bit-noted : (j : ℕ) → r ≢ j → (alt j ≡ some r → ⊥)
      → bit_in n alt (noted r (v r) w) j ≡ (bit_in n alt w j || (outputs_to_element (v r) (wanted_element (w j)) || outputs_to_element (v r) (offer_wants (offer_of j (note_of n alt w (alt j))))))
  unfolding bit_in
  bit-noted j h k =
      ap₂ (λ (a : Intent) (b : Intent). own_ready (output_noted n alt (noted r (v r) w)) a || offer_ready (output_noted n alt (noted r (v r) w)) (offer_of j b)) (noted_other r (v r) w j h) (other (alt j) k)
      ∙ ap₂ (λ (a b : Bool). a || b) (own-met (v r) r (output_noted n alt w) (output_noted n alt (noted r (v r) w)) told (w j))
      (offer-met (v r) r (output_noted n alt w) (output_noted n alt (noted r (v r) w)) told (offer_of j (note_of n alt w (alt j))))
      ∙ or_turn (own_ready (output_noted n alt w) (w j)) (outputs_to_element (v r) (wanted_element (w j))) (offer_ready (output_noted n alt w) (offer_of j (note_of n alt w (alt j)))) (outputs_to_element (v r) (offer_wants (offer_of j (note_of n alt w (alt j)))))
    where
      told : (e : ℕ) → output_noted n alt (noted r (v r) w) e ≡ if_else (is_output_to e (v r)) (some r) (output_noted n alt w e)
      told e = sender-noted n v w r below bare under alt e (one e)

      other : (o : Option ℕ) → (o ≡ some r → ⊥) → note_of n alt (noted r (v r) w) o ≡ note_of n alt w o
      other none k = refl
      other (some q) k = noted_other r (v r) w q (λ e. k (ap some (sym e)))

-- a row outputs nowhere where it, or one of its options, wants a sender
meets-itself : (i : Intent) → outputs_to_element i (wanted_element i) ≡ false
meets-itself waits = refl
meets-itself (moves x v ws) = refl
meets-itself (inputs_from e a) = refl
meets-itself (outputs_to e v) = refl
meets-itself (selects os) = refl

never-meets : (os : List Offer) (o : Option ℕ) → outputs_to_element (selects os) o ≡ false
never-meets os none = refl
never-meets os (some e) = refl

meets-option : (j : ℕ) (i : Intent) → outputs_to_element i (offer_wants (offer_of j i)) ≡ false
meets-option j waits = refl
meets-option j (moves x v ws) = refl
meets-option j (inputs_from e a) = refl
meets-option j (outputs_to e v) = refl
meets-option j (selects os) = never-meets os (offer_wants (offer_at j os))

or-false : (a b : Bool) → b ≡ false → (a || b) ≡ a
or-false true b e = refl
or-false false b e = e

module _ (n : ℕ) (alt : ℕ → Option ℕ) (v w : ℕ → Intent) (r : ℕ) (below : r < n) (bare : w r ≡ waits) (under : (q : ℕ) → (w q ≡ v q) ⊎ (w q ≡ waits))
    (one : (e a b : ℕ) → T (is_output_to e (v a)) → T (is_output_to e (v b)) → a ≡ b) where
  -- the bits of the row that is noted, by itself and for an option, are told by who waited before it was
  pub own-anew : own_ready (output_noted n alt (noted r (v r) w)) (v r) ≡ own_ready (output_noted n alt w) (v r)
  own-anew =
      own-met (v r) r (output_noted n alt w) (output_noted n alt (noted r (v r) w)) (λ e. sender-noted n v w r below bare under alt e (one e)) (v r)
      ∙ or-false (own_ready (output_noted n alt w) (v r)) (outputs_to_element (v r) (wanted_element (v r))) (meets-itself (v r))

  pub offer-anew : (j : ℕ) → offer_ready (output_noted n alt (noted r (v r) w)) (offer_of j (v r)) ≡ offer_ready (output_noted n alt w) (offer_of j (v r))
  offer-anew j =
      offer-met (v r) r (output_noted n alt w) (output_noted n alt (noted r (v r) w)) (λ e. sender-noted n v w r below bare under alt e (one e)) (offer_of j (v r))
      ∙ or-false (offer_ready (output_noted n alt w) (offer_of j (v r))) (outputs_to_element (v r) (offer_wants (offer_of j (v r)))) (meets-option j (v r))

-- where the row that is noted outputs, no one did: so a bit that is woken was off
module _ (n : ℕ) (alt : ℕ → Option ℕ) (v w : ℕ → Intent) (r : ℕ) (bare : w r ≡ waits) (under : (q : ℕ) → (w q ≡ v q) ⊎ (w q ≡ waits))
    (one : (e a b : ℕ) → T (is_output_to e (v a)) → T (is_output_to e (v b)) → a ≡ b) where
  pub none-sent : (d : ℕ) → T (is_output_to d (v r)) → output_noted n alt w d ≡ none
  unfolding output_noted
  none-sent d h = go (lowest (λ k. is_output_to d (w k)) n) (lowest-is (λ k. is_output_to d (w k)) n)
    where
      never : (j : ℕ) → T (is_output_to d (w j)) → (w j ≡ v j) ⊎ (w j ≡ waits) → ⊥
      never j t (inr z) = subst (λ (a : Intent). T (is_output_to d a)) z t
      never j t (inl z) = subst (λ (a : Intent). T (is_output_to d a)) (ap w (one d j r (subst (λ (a : Intent). T (is_output_to d a)) z t) h) ∙ bare) t

      go : (o : Option ℕ) → Lowest (λ k. T (is_output_to d (w k))) n o → o ≡ none
      go none f = refl
      go (some j) f = absurd (never j f.1 (under j))

  own-was-off : (i : Intent) → outputs_to_element (v r) (wanted_element i) ≡ true → own_ready (output_noted n alt w) i ≡ false
  own-was-off waits h = refl
  own-was-off (moves x y ws) h = absurd (false≢true h)
  own-was-off (inputs_from e a) h = ap (λ (o : Option ℕ). is_some o) (none-sent e (subst (λ (b : Bool). T b) (sym h) tt))
  own-was-off (outputs_to e y) h = refl
  own-was-off (selects os) h = refl

  offer-was-off : (o : Option Offer) → outputs_to_element (v r) (offer_wants o) ≡ true → offer_ready (output_noted n alt w) o ≡ false
  offer-was-off none h = refl
  offer-was-off (some (open_offer j q ws)) h = absurd (false≢true h)
  offer-was-off (some (input_offer j q e a)) h = ap (λ (o : Option ℕ). is_some o) (none-sent e (subst (λ (b : Bool). T b) (sym h) tt))

  pub woken-was-off : (j : ℕ) → (outputs_to_element (v r) (wanted_element (w j)) ≡ true → own_ready (output_noted n alt w) (w j) ≡ false)
      × ((q : ℕ) → outputs_to_element (v r) (offer_wants (offer_of j (w q))) ≡ true → offer_ready (output_noted n alt w) (offer_of j (w q)) ≡ false)
  woken-was-off j = (own-was-off (w j), λ q. offer-was-off (offer_of j (w q)))

-- ---- whom to wake

meets_at : (i : Intent) (o : Option ℕ) → outputs_to_element i o ≡ true → (d : ℕ) × (o ≡ some d) × T (is_output_to d i)
meets_at i none h = absurd (false≢true h)
meets_at i (some d) h = (d, refl, subst (λ (b : Bool). T b) (sym h) tt)

module _ (n : ℕ) (alt : ℕ → Option ℕ) (v w : ℕ → Intent) (under : (q : ℕ) → (w q ≡ v q) ⊎ (w q ≡ waits)) (one : (e a b : ℕ) → T (is_input_from e (v a)) → T (is_input_from e (v b)) → a ≡ b) where
  receiver-of : (e j : ℕ) → j < n → T (is_input_from e (w j)) → input_noted n alt w e ≡ some j
  unfolding input_noted
  receiver-of e j k h = found-only (λ r. is_input_from e (w r)) n j k h (λ q t. one e q j (up q t (under q)) (up j h (under j)))
    where
      up : (q : ℕ) → T (is_input_from e (w q)) → (w q ≡ v q) ⊎ (w q ≡ waits) → T (is_input_from e (v q))
      up q t (inl z) = subst (λ (a : Intent). T (is_input_from e a)) z t
      up q t (inr z) = let y : T false = subst (λ (a : Intent). T (is_input_from e a)) z t in absurd y

  -- a row that is woken is the receiver at the element of the row that is noted; of an option its ALT is
  pub woken-own : (i : Intent) (j : ℕ) → j < n → outputs_to_element i (wanted_element (w j)) ≡ true → (d : ℕ) × T (is_output_to d i) × (input_noted n alt w d ≡ some j)
  woken-own i j k h = let (d, z, t) = meets_at i (wanted_element (w j)) h in (d, t, receiver-of d j k (wants-inputs d (w j) z))

  pub woken-option : (i : Intent) (j r : ℕ) → r < n → outputs_to_element i (offer_wants (offer_of j (w r))) ≡ true → (d : ℕ) × T (is_output_to d i) × (input_noted n alt w d ≡ some r)
  woken-option i j r k h = let (d, z, t) = meets_at i (offer_wants (offer_of j (w r))) h in (d, t, receiver-of d r k (option-wants j d (w r) z))

-- once every row is noted, all else is that of the notes
pub all_noted : (n : ℕ) (alt : ℕ → Option ℕ) (v w : ℕ → Intent) → ((r : ℕ) → w r ≡ v r) → (j : ℕ)
    → (bit_in n alt w j ≡ bit_in n alt v j) × (output_noted n alt w j ≡ output_noted n alt v j) × (input_noted n alt w j ≡ input_noted n alt v j)
all_noted n alt v w h j =
    let e : w ≡ v = fun_ext h in
    (ap (λ (u : ℕ → Intent). bit_in n alt u j) e, ap (λ (u : ℕ → Intent). output_noted n alt u j) e, ap (λ (u : ℕ → Intent). input_noted n alt u j) e)

-- ---- states

-- the bits of a state follow from its notes
pub bits-of-notes : (P : Program) (sheet : Sheet) (s : State) (j : ℕ) → ready_row P sheet s j ≡ bit_in (length s.states) (alt_of P) (intent_at P sheet s) j
unfolding ready_row option_note bit_in output_noted waiting_at
bits-of-notes P sheet s j = ap (λ (w : Intent). own_ready (waiting_at P sheet s) (intent_at P sheet s j) || offer_ready (waiting_at P sheet s) (offer_of j w)) (go (alt_of P j))
  where
    go : (o : Option ℕ) → note_if P sheet s o ≡ note_of (length s.states) (alt_of P) (intent_at P sheet s) o
    go none = refl
    go (some r) = refl

-- with the step's rows taken off, each note is that of the state after the step, or there is none yet and the row is one to be noted
pub off-or-moved : (rows : List ℤ) (ok : check rows ≡ none) (sheet : Sheet) (l : List Label) (s : State) (o : OrderOf rows sheet l s) {x : Label} {e : Effect} (A : Active (intent_at (program rows) sheet s) x e) (r : ℕ)
    → (off x (intent_at (program rows) sheet s) r ≡ intent_at (program rows) sheet (after (program rows) sheet x s) r)
    ⊎ ((off x (intent_at (program rows) sheet s) r ≡ waits) × Moved (program rows) sheet s x (after (program rows) sheet x s) r)
off-or-moved rows ok sheet l s o {x} A r = go (is_row_of x r) (decides-row x r) (same-or-moved rows ok sheet l s o A r)
  where
    t : State
    t = after (program rows) sheet x s

    go : (b : Bool) → Decides (RowOf x r) b → (intent_at (program rows) sheet (after (program rows) sheet x s) r ≡ intent_at (program rows) sheet s r) ⊎ Moved (program rows) sheet s x (after (program rows) sheet x s) r
        → (if_else b waits (intent_at (program rows) sheet s r) ≡ intent_at (program rows) sheet (after (program rows) sheet x s) r) ⊎ ((if_else b waits (intent_at (program rows) sheet s r) ≡ waits) × Moved (program rows) sheet s x (after (program rows) sheet x s) r)
    go true (holding m) k = inr (refl, inl m)
    go false d (inl q) = inl (sym q)
    go false (failing d) (inr (inl m)) = absurd (d m)
    go false d (inr (inr c)) = inr (intent-is rows sheet s r false c.0, inr c)
