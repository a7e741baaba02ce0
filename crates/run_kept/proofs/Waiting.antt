-- Who waits at an element: one row at most, and it is the one whose note says so.
use mathlib.Core.Path.{◌≡◌, refl, sym, ap, subst}
use mathlib.Core.Bool.{Bool, true, false}
use mathlib.Core.Option.{Option, none, some, none-ne-some, some-injective}
use mathlib.Core.List.Memᴰ
use mathlib.Core.List.{List, Memᴰ}
use Prim.Native.Nat.{ℕ, ◌<◌}
use lib.IntN.{ℤ}
use lib.ListN.{length}
use lib.Dec.{T, eqb→eq}
use Rattle.meaning.specs.Basics.{any_passes, lowest, Lowest}
use Rattle.meaning.specs.Rows.{row_count}
use Rattle.meaning.specs.Tree.{Action, Processes}
use Rattle.meaning.specs.Usage.{input_elements, output_elements}
use Rattle.meaning.specs.State.{State, Program, program}
use Rattle.meaning.specs.Labels.{Label}
use Rattle.meaning.specs.Readings.{Sheet}
use Rattle.meaning.specs.Intent.{Offer, open_offer, input_offer, Intent, waits, moves, inputs_from, outputs_to, selects}
use Rattle.meaning.specs.Ready.{is_live, intent_at}
use Rattle.meaning.specs.Order.{OrderOf}
use Rattle.meaning.specs.Answers.{check}
use Rattle.meaning.proofs.LowestLaws.{lowest-is}
use Rattle.meaning.proofs.Decides.{Decides, holding, failing, decides-any}
use Rattle.agreement.proofs.Fit.{Fit}
use Rattle.agreement.proofs.Proper.{Proper, ProperOffers, offer-proper}
use Rattle.agreement.proofs.Working.{acts, Inv, works, works-proper}
use Rattle.agreement.proofs.Separate.{one-input-row, one-output-row, table-inv}
use Rattle.agreement.proofs.TableFit.{fit}
use Rattle.machine.specs.RowSteps.{is_output_to, waiting_at}
use Rattle.machine.proofs.RowReady.{in-range}
use Rattle.machine.proofs.LiveRows.{intent-is}
use Rattle.run_kept.specs.Kept.{offers_input, is_input_from, waiting_input}

-- ---- what is found by a test

pub found-only : (p : ℕ → Bool) (n i : ℕ) → i < n → T (p i) → ((j : ℕ) → T (p j) → j ≡ i) → lowest p n ≡ some i
found-only p n i l t u = go (lowest p n) (lowest-is p n)
  where
    go : (o : Option ℕ) → Lowest (λ j. T (p j)) n o → o ≡ some i
    go none f = absurd (f i l t)
    go (some j) f = ap some (u j f.1)

passes-test : (p : ℕ → Bool) (n i : ℕ) → lowest p n ≡ some i → T (p i)
passes-test p n i e = go (lowest p n) (lowest-is p n) e
  where
    go : (o : Option ℕ) → Lowest (λ j. T (p j)) n o → o ≡ some i → T (p i)
    go none f q = absurd (none-ne-some i q)
    go (some j) f q = subst (λ (k : ℕ). T (p k)) (some-injective j i q) f.1

found_none : (p : ℕ → Bool) (n i : ℕ) → lowest p n ≡ none → i < n → T (p i) → ⊥
found_none p n i e l t = go (lowest p n) (lowest-is p n) e
  where
    go : (o : Option ℕ) → Lowest (λ j. T (p j)) n o → o ≡ none → ⊥
    go none f q = f i l t
    go (some j) f q = none-ne-some j (sym q)

-- ---- tests of notes

-- a row whose note passes would do something
pub passing-acts : (q : Intent → Bool) → (T (q waits) → ⊥) → (w : Intent) → T (q w) → acts w ≡ 1
passing-acts q z waits h = absurd (z h)
passing-acts q z (moves x v ws) h = refl
passing-acts q z (inputs_from e a) h = refl
passing-acts q z (outputs_to e v) h = refl
passing-acts q z (selects os) h = refl

-- an ALT that offers an input from e has an offer that does
offers-at : (e : ℕ) (os : List Offer) → T (any_passes (offers_input e) os) → (o : Offer) × Memᴰ o os × T (offers_input e o)
offers-at e os h = go (any_passes (offers_input e) os) (decides-any (λ o. T (offers_input e o)) (offers_input e) (λ o. itself (offers_input e o)) os) h
  where
    itself : (b : Bool) → Decides (T b) b
    itself true = holding tt
    itself false = failing (λ z. z)

    go : (b : Bool) → Decides ((o : Offer) × Memᴰ o os × T (offers_input e o)) b → T b → (o : Offer) × Memᴰ o os × T (offers_input e o)
    go true (holding k) h = k
    go false d h = absurd h

module _ (source sink : ℕ → ℕ) (k : Action) (ms : Processes) (r e : ℕ) where
  offer-inputs : (o : Offer) → T (offers_input e o) → (os : List Offer) → ProperOffers source sink k ms os → Memᴰ o os → Memᴰ e (input_elements k)
  offer-inputs (open_offer j q ws) h os p m = absurd h
  offer-inputs (input_offer j q f a) h os p m = Memᴰ.cast (eqb→eq e f h) (offer-proper source sink k ms (input_offer j q f a) os p m).2

  -- the action of a row that waits to input from e counts e among its inputs, and likewise for outputs
  pub inputs-counted : (w : Intent) → Proper source sink k ms r w → T (is_input_from e w) → Memᴰ e (input_elements k)
  inputs-counted waits p h = absurd h
  inputs-counted (moves x v ws) p h = absurd h
  inputs-counted (inputs_from f a) p h = Memᴰ.cast (eqb→eq e f h) p.0
  inputs-counted (outputs_to f v) p h = absurd h
  inputs-counted (selects os) p h = let (o, m, t) = offers-at e os h in offer-inputs o t os p m

  pub outputs-counted : (w : Intent) → Proper source sink k ms r w → T (is_output_to e w) → Memᴰ e (output_elements k)
  outputs-counted waits p h = absurd h
  outputs-counted (moves x v ws) p h = absurd h
  outputs-counted (inputs_from f a) p h = absurd h
  outputs-counted (outputs_to f v) p h = Memᴰ.cast (eqb→eq e f h) p
  outputs-counted (selects os) p h = absurd h

-- ---- a state of an order

-- a test of what a row waits for that one row at most passes
pub record Single (P : Program) (sheet : Sheet) (s : State) (q : Intent → Bool) : Type 0 where
  pub not-idle : T (q waits) → ⊥
  pub one : (a b : ℕ) → T (q (intent_at P sheet s a)) → T (q (intent_at P sheet s b)) → a ≡ b

-- who waits, by such a test
abbrev pub waiter : Program → Sheet → State → (Intent → Bool) → Option ℕ
waiter P sheet s q = lowest (λ r. q (intent_at P sheet s r)) (length s.states)

module _ (rows : List ℤ) (ok : check rows ≡ none) (sheet : Sheet) (l : List Label) (s : State) (o : OrderOf rows sheet l s) where
  abbrev P : Program
  P = program rows

  abbrev W : ℕ → Intent
  W = intent_at (program rows) sheet s

  abbrev F : Fit (program rows) (row_count rows)
  F = fit rows ok

  inv : Inv (program rows) (row_count rows) (fit rows ok) sheet s
  inv = table-inv rows sheet (fit rows ok) l s o

  pub one-receiver : (e : ℕ) → Single (program rows) sheet s (is_input_from e)
  one-receiver e = record { not-idle = λ z. z; one = λ a b h g. same a b h g }
    where
      same : (a b : ℕ) → T (is_input_from e (W a)) → T (is_input_from e (W b)) → a ≡ b
      same a b h g =
          let A = works P (row_count rows) F sheet s a inv (passing-acts (is_input_from e) (λ z. z) (W a) h) in
          let B = works P (row_count rows) F sheet s b inv (passing-acts (is_input_from e) (λ z. z) (W b) g) in
          one-input-row P (row_count rows) F sheet s inv a b e A B
          (inputs-counted F.source F.sink A.action A.listed a e (W a) (works-proper P (row_count rows) F sheet s a A refl) h)
          (inputs-counted F.source F.sink B.action B.listed b e (W b) (works-proper P (row_count rows) F sheet s b B refl) g)

  pub one-sender : (e : ℕ) → Single (program rows) sheet s (is_output_to e)
  one-sender e = record { not-idle = λ z. z; one = λ a b h g. same a b h g }
    where
      same : (a b : ℕ) → T (is_output_to e (W a)) → T (is_output_to e (W b)) → a ≡ b
      same a b h g =
          let A = works P (row_count rows) F sheet s a inv (passing-acts (is_output_to e) (λ z. z) (W a) h) in
          let B = works P (row_count rows) F sheet s b inv (passing-acts (is_output_to e) (λ z. z) (W b) g) in
          one-output-row P (row_count rows) F sheet s inv a b e A B
          (outputs-counted F.source F.sink A.action A.listed a e (W a) (works-proper P (row_count rows) F sheet s a A refl) h)
          (outputs-counted F.source F.sink B.action B.listed b e (W b) (works-proper P (row_count rows) F sheet s b B refl) g)

  module _ (q : Intent → Bool) (U : Single (program rows) sheet s q) where
    -- a row that waits is at work
    pub waits-live : (r : ℕ) → T (q (intent_at (program rows) sheet s r)) → is_live (program rows) sheet r s ≡ true
    waits-live r h = go (is_live P sheet r s) refl
      where
        go : (b : Bool) → is_live P sheet r s ≡ b → b ≡ true
        go true z = refl
        go false z = absurd (U.not-idle (subst (λ (w : Intent). T (q w)) (intent-is rows sheet s r false z) h))

    waits-below : (r : ℕ) → T (q (intent_at (program rows) sheet s r)) → r < length s.states
    waits-below r h = in-range r s.states (works P (row_count rows) F sheet s r inv (passing-acts q U.not-idle (W r) h)).runs

    -- the row that waits is the one whose note says so
    pub waiter-is : (r : ℕ) → T (q (intent_at (program rows) sheet s r)) → waiter (program rows) sheet s q ≡ some r
    waiter-is r h = found-only (λ j. q (W j)) (length s.states) r (waits-below r h) h (λ j g. U.one j r g h)

    pub waiter-waits : (r : ℕ) → waiter (program rows) sheet s q ≡ some r → T (q (intent_at (program rows) sheet s r))
    waiter-waits r h = passes-test (λ j. q (W j)) (length s.states) r h

    pub no-waiter : (r : ℕ) → waiter (program rows) sheet s q ≡ none → T (q (intent_at (program rows) sheet s r)) → ⊥
    no-waiter r h g = found_none (λ j. q (W j)) (length s.states) r h (waits-below r g) g

-- the two tests tell who waits
pub sender-is : (P : Program) (sheet : Sheet) (s : State) (e : ℕ) → waiting_at P sheet s e ≡ waiter P sheet s (is_output_to e)
unfolding waiting_at
sender-is P sheet s e = refl

pub receiver-is : (P : Program) (sheet : Sheet) (s : State) (e : ℕ) → waiting_input P sheet s e ≡ waiter P sheet s (is_input_from e)
unfolding waiting_input
receiver-is P sheet s e = refl
