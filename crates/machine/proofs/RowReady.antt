-- A row orders the step x exactly if x can be taken and has that row: so the ready steps are the steps of the rows, row by row.
use mathlib.Core.Path.{◌≡◌, refl, sym, ap, subst, ◌∙◌}
use mathlib.Core.Bool.{Bool, true, false}
use mathlib.Core.Option.{Option, none, some, map, none-ne-some, some-injective}
use mathlib.Core.List.Memᴰ
use mathlib.Core.List.{List, [], ◌∷◌, Memᴰ}
use Prim.Native.Nat.{ℕ, zero, suc, ◌<◌}
use native.Mathlib.Omega.{arith}
use native.Mathlib.Decide.{dec_lt}
use lib.ListN.{length, get_or, get_or-eq_default}
use lib.Dec.{T, eqb→eq, eqb_refl}
use Rattle.meaning.specs.Basics.{among, lowest, Lowest}
use Rattle.meaning.specs.Tree.{Process, action_of, or_stop}
use Rattle.meaning.specs.Values.{Message}
use Rattle.meaning.specs.State.{State, Program, process_at, Effect}
use Rattle.meaning.specs.Labels.{Label, own, pass, take_option, take_with_output, order_row}
use Rattle.meaning.specs.Readings.{Sheet}
use Rattle.meaning.specs.Intent.{Offer, open_offer, input_offer, Intent, waits, moves, inputs_from, outputs_to, selects}
use Rattle.meaning.specs.Ready.{steps_all, steps_at, intent_at, running_rows, ready}
use Rattle.meaning.proofs.LowestLaws.{lowest-is}
use Rattle.meaning.proofs.Decides.{Decides, holding, failing}
use Rattle.meaning.proofs.ReferenceCounts.{decides-among}
use Rattle.agreement.proofs.Commute.{Legal, at_in}
use Rattle.agreement.proofs.Options.{RisingO, differ, limited}
use Rattle.agreement.proofs.Fit.{Fit}
use Rattle.agreement.proofs.OptionRows.{option_rows, OptionRows}
use Rattle.agreement.proofs.Readiness.{ready-can, can-ready}
use Rattle.agreement.proofs.Active.{offer_at, Active, acts-alone, passes_on, takes-open, takes-input, active}
use Rattle.agreement.proofs.Working.{acts, Inv, works, works_at}
use Rattle.agreement.proofs.Separate.{one-sender, alt-row}
use Rattle.agreement.proofs.FewReady.{at_most_one, ready-once}
use Rattle.machine.specs.RowSteps.{is_output_to, alt_of, own_step_by, offer_step, option_step_by, first_step, list_of, waiting_at, own_step, option_step_of, option_step, step_at, steps_by_row}
use Rattle.machine.proofs.RowOrder.{at-row, of-its-row, of-all-rows, one-or-none, row-by-row}
use Rattle.machine.proofs.StepEffects.{active-effect}

-- ---- what is found by a test

output-is : (e : ℕ) (w : Intent) → T (is_output_to e w) → (z : Message) × (w ≡ outputs_to e z)
output-is e waits h = absurd h
output-is e (moves x v ws) h = absurd h
output-is e (inputs_from f a) h = absurd h
output-is e (selects os) h = absurd h
output-is e (outputs_to f v) h = (v, ap (λ (k : ℕ). outputs_to k v) (sym (eqb→eq e f h)))

is-output : (e : ℕ) (w : Intent) (z : Message) → w ≡ outputs_to e z → T (is_output_to e w)
is-output e w z h = rw h (eqb_refl e)

-- of a number that a test picks out, and no other, the lowest is it
found-only : (p : ℕ → Bool) (n i : ℕ) → i < n → T (p i) → ((j : ℕ) → T (p j) → j ≡ i) → lowest p n ≡ some i
found-only p n i l t u = go (lowest p n) (lowest-is p n)
  where
    go : (o : Option ℕ) → Lowest (λ j. T (p j)) n o → o ≡ some i
    go none f = absurd (f i l t)
    go (some j) f = ap some (u j f.1)

passes-test : (p : ℕ → Bool) (n i : ℕ) → lowest p n ≡ some i → T (p i)
passes-test p n i e = go (lowest p n) (lowest-is p n) e
  where
    go : (o : Option ℕ) → Lowest (λ j. T (p j)) n o → o ≡ some i → T (p i)
    go none f q = absurd (none-ne-some i q)
    go (some j) f q = subst (λ (k : ℕ). T (p k)) (some-injective j i q) f.1

among-T : (j : ℕ) (l : List ℕ) → Memᴰ j l → T (among j l)
among-T j l m = go (among j l) (decides-among j l)
  where
    go : (t : Bool) → Decides (Memᴰ j l) t → T t
    go true d = tt
    go false (failing h) = absurd (h m)

T-among : (j : ℕ) (l : List ℕ) → T (among j l) → Memᴰ j l
T-among j l h = go (among j l) (decides-among j l) h
  where
    go : (t : Bool) → Decides (Memᴰ j l) t → T t → Memᴰ j l
    go true (holding m) h = m
    go false d h = absurd h

pub in-range : (r : ℕ) (l : List ℕ) → get_or l r 0 ≡ 1 → r < length l
in-range r [] e = absurd (omega arith)
in-range zero (x ∷ l) e = omega arith
in-range (suc r) (x ∷ l) e = let h = in-range r l e in omega arith

-- a row with options is a row of the table
option-in-range : (P : Program) (r j : ℕ) → Memᴰ j (option_rows (action_of (process_at P r))) → r < length P.processes
unfolding process_at
option-in-range P r j m = go (dec_lt r (length P.processes))
  where
    go : Dec (r < length P.processes) → r < length P.processes
    go (yes l) = l
    go (no l) = absurd (Memᴰ.not-nil (subst (λ (p : Process). Memᴰ j (option_rows (action_of p))) (get_or-eq_default P.processes (or_stop none) (omega arith)) m))

-- of all rows of the table, one has an option row among its options
abbrev pub OneAlt : Program → Type 0
OneAlt P = (r q j : ℕ) → Memᴰ j (option_rows (action_of (process_at P r))) → Memᴰ j (option_rows (action_of (process_at P q))) → r ≡ q

-- the ALT of an option row
pub alt-found : (P : Program) → OneAlt P → (r j : ℕ) → Memᴰ j (option_rows (action_of (process_at P r))) → alt_of P j ≡ some r
unfolding alt_of
alt-found P U r j m =
    found-only (λ q. among j (option_rows (action_of (process_at P q)))) (length P.processes) r (option-in-range P r j m) (among-T j (option_rows (action_of (process_at P r))) m)
    (λ q t. U q r j (T-among j (option_rows (action_of (process_at P q))) t) m)

pub alt-is : (P : Program) (r j : ℕ) → alt_of P j ≡ some r → Memᴰ j (option_rows (action_of (process_at P r)))
unfolding alt_of
alt-is P r j e = T-among j (option_rows (action_of (process_at P r))) (passes-test (λ q. among j (option_rows (action_of (process_at P q)))) (length P.processes) r e)

-- ---- a step that a row orders can be taken, and has that row

module _ (P : Program) (sheet : Sheet) (s : State) where
  abbrev W : ℕ → Intent
  W = intent_at P sheet s

  -- a step that can be taken, of a row
  abbrev pub Ordered : ℕ → Label → Type 0
  Ordered j x = (e : Effect) × Active (intent_at P sheet s) x e × (order_row x ≡ j)

  pub waiting-outputs : (e o : ℕ) → waiting_at P sheet s e ≡ some o → (z : Message) × (W o ≡ outputs_to e z)
  unfolding waiting_at
  waiting-outputs e o h = output-is e (W o) (passes-test (λ r. is_output_to e (W r)) (length s.states) o h)

  -- a step that is made of the row that waits at an element
  with-waiting : (f : ℕ → Label) (e j : ℕ) (x : Label) → ((o : ℕ) (z : Message) → W o ≡ outputs_to e z → Ordered j (f o)) → map f (waiting_at P sheet s e) ≡ some x → Ordered j x
  with-waiting f e j x k h = go (waiting_at P sheet s e) refl h
    where
      go : (o : Option ℕ) → waiting_at P sheet s e ≡ o → map f o ≡ some x → Ordered j x
      go none q h = absurd (none-ne-some x h)
      go (some o) q h = let (z, g) = waiting-outputs e o q in subst (Ordered j) (some-injective (f o) x h) (k o z g)

  own-ordered : (j : ℕ) (x : Label) (w : Intent) → W j ≡ w → own_step_by (waiting_at P sheet s) j w ≡ some x → Ordered j x
  own-ordered j x waits q h = absurd (none-ne-some x h)
  own-ordered j x (moves y v ws) q h = subst (Ordered j) (some-injective (own j) x h) (_, acts-alone q, refl)
  own-ordered j x (inputs_from e a) q h = with-waiting (pass j) e j x (λ o z g. (_, passes_on q g, refl)) h
  own-ordered j x (outputs_to e v) q h = absurd (none-ne-some x h)
  own-ordered j x (selects os) q h = absurd (none-ne-some x h)

  offer-ordered : (r j : ℕ) (x : Label) (os : List Offer) → W r ≡ selects os → (o : Option Offer) → offer_at j os ≡ o → offer_step (waiting_at P sheet s) r j o ≡ some x → Ordered j x
  offer-ordered r j x os q none g h = absurd (none-ne-some x h)
  offer-ordered r j x os q (some (open_offer i p ws)) g h = subst (Ordered j) (some-injective (take_option r j) x h) (_, takes-open q g, refl)
  offer-ordered r j x os q (some (input_offer i p e a)) g h = with-waiting (take_with_output r j) e j x (λ o z f. (_, takes-input q g f, refl)) h

  option-ordered : (r j : ℕ) (x : Label) (w : Intent) → W r ≡ w → option_step_by (waiting_at P sheet s) r j w ≡ some x → Ordered j x
  option-ordered r j x waits q h = absurd (none-ne-some x h)
  option-ordered r j x (moves y v ws) q h = absurd (none-ne-some x h)
  option-ordered r j x (inputs_from e a) q h = absurd (none-ne-some x h)
  option-ordered r j x (outputs_to e v) q h = absurd (none-ne-some x h)
  option-ordered r j x (selects os) q h = offer-ordered r j x os q (offer_at j os) refl h

  pub step-ordered : (j : ℕ) (x : Label) → step_at P sheet s j ≡ some x → Ordered j x
  unfolding step_at own_step option_step
  step-ordered j x h = go (own_step P sheet s j) refl h
    where
      as-option : (o : Option ℕ) → option_step_of P sheet s j o ≡ some x → Ordered j x
      as-option none h = absurd (none-ne-some x h)
      as-option (some r) h = option-ordered r j x (W r) refl h

      go : (o : Option Label) → own_step P sheet s j ≡ o → first_step o (option_step P sheet s j) ≡ some x → Ordered j x
      go none q h = as-option (alt_of P j) h
      go (some y) q h = own-ordered j x (W j) refl (q ∙ h)

-- ---- and back

module _ (P : Program) (n : ℕ) (F : Fit P n) (sheet : Sheet) (s : State) (i : Inv P n F sheet s) (O : OptionRows P) (U : OneAlt P) where
  -- the row that would output to an element is the one that waits there
  pub waiting-found : (e o : ℕ) (z : Message) → W P sheet s o ≡ outputs_to e z → waiting_at P sheet s e ≡ some o
  unfolding waiting_at
  waiting-found e o z h =
      found-only (λ r. is_output_to e (W P sheet s r)) (length s.states) o (in-range o s.states (works P n F sheet s o i (ap acts h)).runs) (is-output e (W P sheet s o) z h)
      (λ r t. let (k, g) = output-is e (W P sheet s r) t in one-sender P n F sheet s i r o e e k z g h refl)

  -- an option row would do nothing by itself
  option-waits : (r j : ℕ) (os : List Offer) (o : Offer) → W P sheet s r ≡ selects os → offer_at j os ≡ some o → own_step P sheet s j ≡ none
  unfolding own_step
  option-waits r j os o h g = go (W P sheet s j) refl
    where
      never : {A : Type 0} → acts (W P sheet s j) ≡ 1 → A
      never z =
          let (B, m) = alt-row P n F sheet s i r j os o h g in
          let t = works_at P n F sheet s j j 2 i (works P n F sheet s j i z) (Legal.own 0 refl refl) in
          absurd (O.no-process B.action r B.listed B.sub j m (at_in t))

      go : (w : Intent) → W P sheet s j ≡ w → own_step_by (waiting_at P sheet s) j w ≡ none
      go waits q = refl
      go (moves x v ws) q = never (ap acts q)
      go (inputs_from e a) q = never (ap acts q)
      go (outputs_to e v) q = refl
      go (selects ps) q = refl

  -- its ALT is the row that offers it
  offer-alt : (r j : ℕ) (os : List Offer) (o : Offer) → W P sheet s r ≡ selects os → offer_at j os ≡ some o → alt_of P j ≡ some r
  offer-alt r j os o h g =
      let (A, m) = alt-row P n F sheet s i r j os o h g in
      alt-found P U r j (subst (λ (p : Process). Memᴰ j (option_rows (action_of p))) (sym (F.placed A.action r A.listed A.sub)) m)

  pub active-step : {x : Label} {e : Effect} → Active (W P sheet s) x e → step_at P sheet s (order_row x) ≡ some x
  unfolding step_at own_step option_step
  active-step (acts-alone h) = rw h
  active-step (passes_on {o} {e} {z} h g) = rw (h, waiting-found e o z g)
  active-step (takes-open {r} {j} {q} {i = k} {ws} {os} h g) = rw (option-waits r j os (open_offer k q ws) h g, offer-alt r j os (open_offer k q ws) h g, h, g)
  active-step (takes-input {r} {j} {o} {q} {i = k} {e} {a} {z} {os} h g f) =
      rw (option-waits r j os (input_offer k q e a) h g, offer-alt r j os (input_offer k q e a) h g, h, g, waiting-found e o z f)

  module _ (rise : (r : ℕ) (os : List Offer) → W P sheet s r ≡ selects os → RisingO n 0 os) where
    abbrev steps : List Label
    steps = steps_all (running_rows P sheet s) (running_rows P sheet s)

    ready-step : (x : Label) → Memᴰ x (ready P sheet s) → step_at P sheet s (order_row x) ≡ some x
    ready-step x m = let (e, q) = ready-can P sheet s (λ r l h. differ n 0 l (rise r l h)) x m in active-step (active (W P sheet s) x e q)

    step-ready : (j : ℕ) (x : Label) → step_at P sheet s j ≡ some x → Memᴰ x (ready P sheet s)
    step-ready j x h =
        let (e, A, q) = step-ordered P sheet s j x h in
        can-ready P sheet s (λ r l h. differ n 0 l (rise r l h)) (λ r l h o m. rw i.size (limited n 0 l (rise r l h) o m)) x e (active-effect (W P sheet s) A)

    of_row : (j : ℕ) → j < length s.states → steps_at j steps ≡ list_of (step_at P sheet s j)
    unfolding ready
    of_row j l =
        one-or-none (steps_at j steps) (step_at P sheet s j) (at_most_one j steps (ready-once P n F sheet s i O rise))
        (λ x m. subst (λ (k : ℕ). step_at P sheet s k ≡ some x) (at-row j x steps m) (ready-step x (of-all-rows (length s.states) 0 j x steps (omega arith) (omega arith) m)))
        (λ x h. subst (λ (k : ℕ). Memᴰ x (steps_at k steps)) (step-ordered P sheet s j x h).2 (of-its-row (length s.states) 0 x steps (step-ready j x h)))

    -- the ready steps are the steps of the rows, in row order
    pub ready-by-row : ready P sheet s ≡ steps_by_row P sheet s
    unfolding ready steps_by_row
    ready-by-row = row-by-row (step_at P sheet s) steps (length s.states) 0 (λ j a b. of_row j (omega arith))
