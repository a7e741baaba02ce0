-- Of an accepted table, in a state of an order that the arrays hold, where the notes tell what rows would do: the change of the row that orders a ready step does what the step does.
use mathlib.Core.Path.{◌≡◌, refl, sym, ap, subst, ◌∙◌}
use mathlib.Core.Bool.{Bool, true, false}
use mathlib.Core.Option.{Option, none, some, map, none-ne-some, some-injective}
use mathlib.Core.List.{List, [], ◌∷◌, ◌++◌, Memᴰ}
use Prim.Native.Nat.{ℕ, ◌+◌, ◌%◌, ◌<◌, ◌≤◌}
use native.Mathlib.Omega.{arith}
use lib.IntN.{ℤ}
use lib.ListN.{length, get_or}
use lib.Seq.{get_or-append_seam}
use lib.Dec.{eqb}
use borrow.Author.Tests.{ltb-true, eqb-true, eq-eqb}
use Rattle.meaning.specs.Basics.{if_else, is_some}
use Rattle.meaning.specs.Rows.{row_count}
use Rattle.meaning.specs.Declarations.{Channel}
use Rattle.meaning.specs.Tree.{Expr, AltOption, Action, output, Content, action_of}
use Rattle.meaning.specs.Values.{Message}
use Rattle.meaning.specs.State.{State, program, process_at, Write, write_cell, Effect}
use Rattle.meaning.specs.Labels.{Label, own, pass, take_option, take_with_output}
use Rattle.meaning.specs.Readings.{Sheet}
use Rattle.meaning.specs.Intent.{Offer, open_offer, input_offer, Intent, waits, moves, inputs_from, outputs_to, selects, halts}
use Rattle.meaning.specs.Ready.{option_row, is_live, effect_of, intent_at}
use Rattle.meaning.specs.Step as steps
use Rattle.meaning.specs.Buffers.{Buffers, mark, number_in, capacities}
use Rattle.meaning.specs.Order.{OrderOf}
use Rattle.meaning.specs.Answers.{check}
use Rattle.agreement.specs.RowsOfSteps.{offer_at}
use Rattle.agreement.proofs.Active.{acts-alone, passes_on, takes-open, takes-input, offer_at-is}
use Rattle.machine.specs.RowSteps.{alt_of, own_step_by, offer_step, option_step_by, first_step, waiting_at, own_step, option_step, option_step_of, step_at}
use Rattle.machine.specs.Held.{put_cell, HoldsState, strip_start, put_writes, AllInRange, KeptReadings}
use Rattle.machine.proofs.Declared.{capacities-length, room}
use Rattle.machine.proofs.Strips.{strip-within}
use Rattle.machine.proofs.StateSizes.{lengths}
use Rattle.meaning.proofs.LentLaws.{cell-back}
use Rattle.machine.proofs.HeldLaws.{read-place, read_count}
use Rattle.machine.proofs.StepEffects.{own-effect, pass-effect, take-effect, take_from-effect}
use Rattle.machine.proofs.MachineSteps.{writes-in}
use Rattle.machine.proofs.RowReady.{waiting-outputs, alt-is, in-range}
use Rattle.run_parents.specs.Marks.{row_note}
use Rattle.machine.proofs.RowKinds.{no-own-step}
use Rattle.machine.proofs.RowTables.{states-length}
use Rattle.run_intents.specs.Stands.{options_of}
use Rattle.run_code.specs.Prepared.{row_at, prepared, Prepared, place_at, strip_at}
use Rattle.run_code.proofs.Entries.{what-at, first-at, parent-at}
use Rattle.run_code.proofs.Codes.{option-row}
use Rattle.run_code.proofs.Owners.{option-note}
use Rattle.run_changes.specs.declared.Data.{Data}
use Rattle.run_changes.specs.declared.Data.TheVariants.{Nothing, Cell, Reading, Output}
use Rattle.run_changes.specs.declared.Change.{Change}
use Rattle.run_changes.specs.Changes.{row_noted, row_becomes, what_at, communicated, option_change_by, option_change, own_change_by, own_change, change_in, changes_of, put_data, DataFits}
use Rattle.run_changes.proofs.Forms.{process_of, Left, reading, one_more, Opens, writes_nothing, writes-reading, Formed, OfOption, Offered, Form, is-wait, is_stop, is-assign, is-end, is-start, is_read, is-write, is-input, is-output, is-select, form_of}
use Rattle.run_changes.proofs.OptionProcesses.{as-prepared, option-what}
use Rattle.run_changes.proofs.OutputRows.{strip-is}
use Rattle.run_changes.proofs.Told.{Told}
use Rattle.run_changes.proofs.ChangeRows.{handed, handed-changes}

-- ---- numbers, and changes of row states

-- the row of a note
row-noted : (i : ℕ) → i < 1024 → row_noted (i + 1) ≡ i
row-noted i h = omega arith

small : (n : ℕ) → n ≤ 4 → n % 64 ≡ n
small n h = omega arith

inside : (e : ℕ) → e < 256 → e % 256 ≡ e
inside e h = omega arith

-- a mark is a byte
mark-byte : (m : Message) → mark m % 256 ≡ mark m
mark-byte none = refl
mark-byte (some x) = refl

or-none : (y : Option Label) → first_step y none ≡ y
or-none none = refl
or-none (some x) = refl

module _ (rows : List ℤ) (ok : check rows ≡ none) (sheet : Sheet) (l : List Label) (s : State) (o : OrderOf rows sheet l s) (b : Buffers) (h : HoldsState rows s b)
    (readings : List ℤ) (given : List ℕ) (lines : ℕ) (K : KeptReadings rows sheet readings given lines) (few : lines ≤ 128)
    (acts : List ℕ) (sent : List ℤ) (elements : List ℕ) (T : Told (program rows) sheet s acts sent elements) where
  abbrev W : ℕ → Intent
  W = intent_at (program rows) sheet s

  abbrev waiter : ℕ → Option ℕ
  waiter = waiting_at (program rows) sheet s

  table : Prepared rows (prepared rows)
  table = record { accepted = ok; same = refl }

  -- a change does what a step does
  pub record Does (c : Change) (x : Label) : Type 0 where
    pub effect : Effect
    pub is-effect : effect_of x (intent_at (program rows) sheet s) ≡ some effect
    pub changes-are : effect.changes ≡ changes_of c
    pub data-put : put_writes rows effect.writes b ≡ put_data readings given c.written b
    pub data-fits : DataFits readings given c.written b
    pub owner-below : c.owner < row_count rows
    pub next_small : c.next ≤ 14

  -- a row at work is one of the table
  at-work : (r : ℕ) → (W r ≡ waits → ⊥) → r < row_count rows
  unfolding intent_at is_live
  at-work r n = go (eqb (get_or s.states r 0) 1) refl
    where
      k : Action
      k = action_of (process_at (program rows) r)

      go : (t : Bool) → eqb (get_or s.states r 0) 1 ≡ t → r < row_count rows
      go true q = rw (← states-length rows ok sheet l s o) (in-range r s.states (eqb-true _ 1 q))
      go false q = absurd (n (rw q))

  -- ---- changes of data

  place_same : (p : ℕ) → get_or s.store.places p 0 ≡ get_or b.places p 0
  place_same = read-place rows (room rows ok) s (lengths rows ok sheet l s o) b h

  count_same : (p : ℕ) → length (get_or s.store.outputs p []) ≡ get_or b.counts p 0
  count_same = read_count rows (room rows ok) s (lengths rows ok sheet l s o) b h

  -- a reading
  module _ (a p : ℕ) (m : Message) (left : Left sheet s.store p m) (R : AllInRange rows s.store (reading sheet s.store a p m)) where
    read-put : put_writes rows (reading sheet s.store a p m) b ≡ put_data readings given (Reading a p) b
    read-put =
        let n = get_or b.places p 0 in
        let q : get_or s.store.places p 0 ≡ get_or b.places p 0 = place_same p in
        let t = rw q at left in
        let x = K.number p n R.1.0 m t in
        let y = K.marked p n R.1.0 m t in
        rw (q, x, y, cell-back m)

    read_fits : DataFits readings given (Reading a p) b
    read_fits =
        let q : get_or s.store.places p 0 ≡ get_or b.places p 0 = place_same p in
        let t = rw q at left in
        let i : is_some (some m) ≡ true = refl in
        let k = ltb-true (get_or b.places p 0) lines (sym (K.left p (get_or b.places p 0) R.1.0) ∙ ap (λ (y : Option Message). is_some y) t) in
        (omega (arith, R.0, (room rows ok).cells), omega (arith, R.1.0, (room rows ok).places), omega arith, omega (arith, R.1.0, K.numbers_fit), omega (arith, R.1.0, K.marks-fit))

  -- an output
  module _ (p strip : ℕ) (m : Message) (e : strip ≡ strip_start rows p) (R : AllInRange rows s.store (one_more sheet s.store p m)) where
    write-put : put_writes rows (one_more sheet s.store p m) b ≡ put_data readings given (Output p strip (number_in m) (mark m)) b
    write-put =
        let old = get_or s.store.outputs p [] in
        let g : get_or (old ++ (m ∷ [])) (get_or b.counts p 0) none ≡ m = rw (← count_same p) (get_or-append_seam old m [] none) in
        rw (e, g)

    write-fits : DataFits readings given (Output p strip (number_in m) (mark m)) b
    unfolding strip_start
    write-fits =
        let (n, k, q, c) = R.0 in
        let w = strip-within (capacities rows) p (omega (arith, capacities-length rows)) in
        let y = count_same p in
        (omega (arith, (room rows ok).outputs), omega (arith, (room rows ok).numbers))

  -- ---- a communication

  -- the sender at an element, and what it hands over
  module _ (e i : ℕ) (q : waiter e ≡ some i) where
    sender-form : (m : Message) × (W i ≡ outputs_to e m)
    sender-form = waiting-outputs (program rows) sheet s e i q

    sender-below : i < row_count rows
    sender-below = at-work i (λ f. let (z, g) = sender-form in let y : ◌≡◌ {A = ℕ} 0 1 = cc in absurd (omega arith))

    communicated-is : (owner row state a : ℕ) → communicated acts sent elements owner row state e a ≡ handed owner row state a sender-form.0 i
    unfolding communicated
    communicated-is owner row state a =
        let (z, g) = sender-form in
        let (f, k) = T.sender e i q in
        let (m, n) = T.outputs i e z g in
        let r = row-noted i (omega (arith, sender-below, (room rows ok).states)) in
        rw (inside e k, f, r, m, n, mark-byte z)

  -- ---- the step of a row by itself

  same : (c d : Change) (x y : Label) → d ≡ c → y ≡ x → Does c y → Does d x
  same c d x y e q D = subst (λ (i : Change). Does i x) (sym e) (subst (Does c) q D)

  -- a row that moves
  moved : (j row state : ℕ) (ws : List Write) (d : Data) → W j ≡ moves row state ws → state ≤ 14 → put_writes rows ws b ≡ put_data readings given d b → DataFits readings given d b → Does (row_becomes j row state d) (own j)
  moved j row state ws d q u p f =
      record {
        effect = _;
        is-effect = own-effect W j row state ws q;
        changes-are = refl;
        data-put = p;
        data-fits = f;
        owner-below = at-work j (λ g. let y : ◌≡◌ {A = ℕ} 0 1 = cc in absurd (omega arith));
        next_small = u;
      }

  own-by : (strip j w : ℕ) → what_at acts j ≡ w → own_change acts sent elements strip j ≡ own_change_by acts sent elements strip j w
  unfolding own_change
  own-by strip j w e = ap (own_change_by acts sent elements strip j) e

  module _ (strip j : ℕ) (x : Label) (g : own_step_by waiter j (W j) ≡ some x) where
    step_is : (w : Intent) → W j ≡ w → own_step_by waiter j w ≡ some x
    step_is w f = ap (own_step_by waiter j) (sym f) ∙ g

    alone : (row state : ℕ) (ws : List Write) → W j ≡ moves row state ws → own j ≡ x
    alone row state ws f = some-injective (own j) x (step_is (moves row state ws) f)

    input-done : (e a : ℕ) → W j ≡ inputs_from e a → own_change acts sent elements strip j ≡ communicated acts sent elements j j 2 e a → Does (own_change acts sent elements strip j) x
    input-done e a f c = go (waiter e) refl (step_is (inputs_from e a) f)
      where
        go : (i : Option ℕ) → waiter e ≡ i → map (pass j) i ≡ some x → Does (own_change acts sent elements strip j) x
        go none q t = absurd (none-ne-some x t)
        go (some i) q t =
            let (z, u) = sender-form e i q in
            same (handed j j 2 a z i) _ x (pass j i) (c ∙ communicated-is e i q j j 2 a) (some-injective (pass j i) x t) (record {
              effect = _;
              is-effect = pass-effect W j i e a z f u;
              changes-are = handed-changes j j 2 a z i;
              data-put = ap (λ (w : Message). put_cell a w b) (sym (cell-back z));
              data-fits = omega (arith, (writes-in rows sheet s (passes_on f u)).0, (room rows ok).cells);
              owner-below = at-work j (λ v. let y : ◌≡◌ {A = ℕ} 0 1 = cc in absurd (omega arith));
              next_small = omega arith;
            })

    own-done : ((c : Channel) (e f : Expr) → action_of (process_at (program rows) j) ≡ output c e f → c.host ≡ true → strip ≡ strip_start rows c.number)
        → Form sheet s.store j (action_of (process_at (program rows) j)) (W j) → Does (own_change acts sent elements strip j) x
    own-done S (is-wait f) = absurd (none-ne-some x (step_is waits f))
    own-done S (is_stop n u f) =
        let (v, t) = T.stops j n u f in
        same (row_becomes j j (10 + n) Nothing) _ x (own j) (own-by strip j 1 v ∙ rw (t, small n u)) (alone j (10 + n) [] f) (moved j j (10 + n) [] Nothing f (omega arith) refl tt)
    own-done S (is-assign a z f) =
        let (v, t, u) = T.assigns j a z f in
        let ws = write_cell a (some z) ∷ [] in
        same (row_becomes j j 2 (Cell a z 1)) _ x (own j) (own-by strip j 2 v ∙ rw (t, u)) (alone j 2 ws f) (moved j j 2 ws (Cell a z 1) f (omega arith) refl (omega (arith, (writes-in rows sheet s (acts-alone f)).0, (room rows ok).cells)))
    own-done S (is-end f) = same (row_becomes j j 2 Nothing) _ x (own j) (own-by strip j 3 (T.ends j f)) (alone j 2 [] f) (moved j j 2 [] Nothing f (omega arith) refl tt)
    own-done S (is-start q f) =
        let (v, t) = T.starts j q f in
        same (row_becomes j q 1 Nothing) _ x (own j) (own-by strip j 4 v ∙ rw t) (alone q 1 [] f) (moved j q 1 [] Nothing f (omega arith) refl tt)
    own-done S (is_read a p m left f) =
        let (v, t, u) = T.reads j a p _ m f in
        let ws = reading sheet s.store a p m in
        let R = writes-in rows sheet s (acts-alone f) in
        same (row_becomes j j 2 (Reading a p)) _ x (own j) (own-by strip j 5 v ∙ rw (t, u)) (alone j 2 ws f) (moved j j 2 ws (Reading a p) f (omega arith) (read-put a p m left R) (read_fits a p m left R))
    own-done S (is-write c e d m g t f) =
        let (v, u, k, y) = T.writes j c.number (get_or s.store.outputs c.number []) m f in
        let ws = one_more sheet s.store c.number m in
        let R = writes-in rows sheet s (acts-alone f) in
        let q = S c e d g t in
        let d = Output c.number strip (number_in m) (mark m) in
        same (row_becomes j j 2 d) _ x (own j) (own-by strip j 6 v ∙ rw (u, k, y, mark-byte m)) (alone j 2 ws f)
        (moved j j 2 ws d f (omega arith) (write-put c.number strip m q R) (write-fits c.number strip m q R))
    own-done S (is-input e a f) = let (v, t, u) = T.inputs j e a f in input-done e a f (own-by strip j 7 v ∙ rw (t, u))
    own-done S (is-output e z f) = absurd (none-ne-some x (step_is (outputs_to e z) f))
    own-done S (is-select os u f) = absurd (none-ne-some x (step_is (selects os) f))

  -- ---- the step of an ALT with its option

  option-by : (owner q j w : ℕ) → what_at acts j ≡ w → option_change acts sent elements owner q j ≡ option_change_by acts sent elements owner q j w
  unfolding option_change
  option-by owner q j w e = ap (option_change_by acts sent elements owner q j) e

  -- what is known of an offer
  one-offer : (bs : List AltOption) (f : Offer) (os : List Offer) → Offered sheet s.store bs os → Memᴰ f os → Formed sheet s.store f × OfOption sheet s.store bs f
  one-offer bs f [] k x'' = elim x'' [ ]
  one-offer bs f (g ∷ os) k (Memᴰ.head e) = rw e k.0
  one-offer bs f (g ∷ os) k (Memᴰ.tail m) = one-offer bs f os k.1 m

  -- its process is the one that the prepared row names
  offer-process : (r j : ℕ) (f : Offer) → option_row f ≡ j → OfOption sheet s.store (options_of (action_of (process_at (program rows) r))) f → process_of f ≡ place_at (prepared rows) j 1
  offer-process r j (open_offer i q ws) e k = k.process-is ∙ (as-prepared table r k.option k.among).process ∙ ap (λ (n : ℕ). place_at (prepared rows) n 1) (sym k.row_is ∙ e)
  offer-process r j (input_offer i q d a) e k = k.process-is ∙ (as-prepared table r k.option k.among).process ∙ ap (λ (n : ℕ). place_at (prepared rows) n 1) (sym k.row_is ∙ e)

  module _ (r j q : ℕ) (x : Label) (os : List Offer) (alt : alt_of (program rows) j ≡ some r) (sel : W r ≡ selects os) where
    opened : (i p : ℕ) (ws : List Write) (d : Data) → offer_at j os ≡ some (open_offer i p ws) → p ≡ q → put_writes rows ws b ≡ put_data readings given d b → DataFits readings given d b → Does (row_becomes r q 1 d) (take_option r j)
    opened i p ws d e g u f =
        record {
          effect = _;
          is-effect = take-effect W r j i p ws os sel e;
          changes-are = ap (λ (n : ℕ). changes_of (row_becomes r n 1 d)) g;
          data-put = u;
          data-fits = f;
          owner-below = at-work r (λ v. let y : ◌≡◌ {A = ℕ} 0 1 = cc in absurd (omega arith));
          next_small = omega arith;
        }

    open_done : (i p : ℕ) (ws : List Write) → offer_at j os ≡ some (open_offer i p ws) → p ≡ q → take_option r j ≡ x → Opens sheet s.store ws → Does (option_change acts sent elements r q j) x
    open_done i p ws e g u (writes_nothing f) =
        let w : offer_at j os ≡ some (open_offer i p []) = e ∙ ap (λ (l : List Write). some (open_offer i p l)) f in
        same (row_becomes r q 1 Nothing) _ x (take_option r j) (option-by r q j 4 (T.opens r j i p os alt sel w)) u (opened i p [] Nothing w g refl tt)
    open_done i p ws e g u (writes-reading a n m left f) =
        let w : offer_at j os ≡ some (open_offer i p (reading sheet s.store a n m)) = e ∙ ap (λ (l : List Write). some (open_offer i p l)) f in
        let R = writes-in rows sheet s (takes-open sel w) in
        let (v, t, y) = T.offers-read r j i p a n _ m os alt sel w in
        same (row_becomes r q 1 (Reading a n)) _ x (take_option r j) (option-by r q j 5 v ∙ rw (t, y)) u (opened i p (reading sheet s.store a n m) (Reading a n) w g (read-put a n m left R) (read_fits a n m left R))

    from-done : (i p e a : ℕ) → offer_at j os ≡ some (input_offer i p e a) → p ≡ q → (n : Option ℕ) → waiter e ≡ n → map (take_with_output r j) n ≡ some x → Does (option_change acts sent elements r q j) x
    from-done i p e a f g none v t = absurd (none-ne-some x t)
    from-done i p e a f g (some n) v t =
        let (z, u) = sender-form e n v in
        let (w, d, y) = T.offers-input r j i p e a os alt sel f in
        same (handed r q 1 a z n) _ x (take_with_output r j n) (option-by r q j 7 w ∙ rw (d, y) (communicated-is e n v r q 1 a)) (some-injective (take_with_output r j n) x t) (record {
          effect = _;
          is-effect = take_from-effect W r j n i p e a z os sel f u;
          changes-are = ap (λ (m : ℕ). steps.becomes r m 1 ∷ steps.becomes n n 2 ∷ []) g ∙ handed-changes r q 1 a z n;
          data-put = ap (λ (w : Message). put_cell a w b) (sym (cell-back z));
          data-fits = omega (arith, (writes-in rows sheet s (takes-input sel f u)).0, (room rows ok).cells);
          owner-below = at-work r (λ k. let y : ◌≡◌ {A = ℕ} 0 1 = cc in absurd (omega arith));
          next_small = omega arith;
        })

    offer-done : (f : Option Offer) → offer_at j os ≡ f → ((g : Offer) → f ≡ some g → Formed sheet s.store g × (process_of g ≡ q)) → offer_step waiter r j f ≡ some x → Does (option_change acts sent elements r q j) x
    offer-done none e k t = absurd (none-ne-some x t)
    offer-done (some (open_offer i p ws)) e k t = let (f, g) = k (open_offer i p ws) refl in open_done i p ws e g (some-injective (take_option r j) x t) f
    offer-done (some (input_offer i p d a)) e k t = let (f, g) = k (input_offer i p d a) refl in from-done i p d a e g (waiter d) refl t

    select-done : q ≡ place_at (prepared rows) j 1 → Offered sheet s.store (options_of (action_of (process_at (program rows) r))) os → offer_step waiter r j (offer_at j os) ≡ some x → Does (option_change acts sent elements r q j) x
    select-done e k t =
        offer-done (offer_at j os) refl
        (λ f g. let (m, i) = offer_at-is j f os g in let (u, v) = one-offer (options_of (action_of (process_at (program rows) r))) f os k m in (u, offer-process r j f i v ∙ sym e)) t

  module _ (r j : ℕ) (x : Label) (alt : alt_of (program rows) j ≡ some r) (g : option_step_by waiter r j (W r) ≡ some x) where
    taken : (w : Intent) → W r ≡ w → option_step_by waiter r j w ≡ some x
    taken w f = ap (option_step_by waiter r j) (sym f) ∙ g

    option-done : (q : ℕ) → q ≡ place_at (prepared rows) j 1 → Form sheet s.store r (action_of (process_at (program rows) r)) (W r) → Does (option_change acts sent elements r q j) x × (r < row_count rows)
    option-done q e (is-wait f) = absurd (none-ne-some x (taken waits f))
    option-done q e (is_stop n u f) = absurd (none-ne-some x (taken (halts r n) f))
    option-done q e (is-assign a z f) = absurd (none-ne-some x (taken (moves r 2 (write_cell a (some z) ∷ [])) f))
    option-done q e (is-end f) = absurd (none-ne-some x (taken (moves r 2 []) f))
    option-done q e (is-start p f) = absurd (none-ne-some x (taken (moves p 1 []) f))
    option-done q e (is_read a p m u f) = absurd (none-ne-some x (taken (moves r 2 (reading sheet s.store a p m)) f))
    option-done q e (is-write c d i z k t f) = absurd (none-ne-some x (taken (moves r 2 (one_more sheet s.store c.number z)) f))
    option-done q e (is-input d a f) = absurd (none-ne-some x (taken (inputs_from d a) f))
    option-done q e (is-output d z f) = absurd (none-ne-some x (taken (outputs_to d z) f))
    option-done q e (is-select os u f) =
        (select-done r j q x os alt f e u (taken (selects os) f), at-work r (λ v. let y : ◌≡◌ {A = ℕ} 0 1 = cc in absurd (omega arith)))

  -- ---- the step that a row orders

  module _ (j : ℕ) (below : j < row_count rows) (x : Label) (g : step_at (program rows) sheet s j ≡ some x) where
    inside-table : j ≤ 1024
    inside-table = omega (arith, (room rows ok).states)

    what-same : place_at (prepared rows) j 0 ≡ (row_at rows j).what
    what-same = what-at table j inside-table

    -- an option has no step of its own
    no_own : (row_at rows j).what ≡ 42 → own_step (program rows) sheet s j ≡ none
    no_own e = no-own-step rows sheet s j (ap (λ (d : Content). d.process) (option-row table j inside-table (what-same ∙ e)))

    -- the change does what the step does
    pub step-done : Does (change_in rows acts sent elements j) x
    unfolding step_at own_step option_step change_in
    step-done = go (alt_of (program rows) j) refl
      where
        itself : alt_of (program rows) j ≡ none → (t : Bool) → eqb (row_at rows j).what 42 ≡ t → Does (if_else t (option_change acts sent elements (row_noted (row_at rows j).parent) (row_at rows j).first j) (own_change acts sent elements (strip_at (prepared rows) j) j)) x
        itself q true e =
            let u : first_step (own_step_by waiter j (W j)) none ≡ some x = subst (λ (a : Option ℕ). first_step (own_step_by waiter j (W j)) (option_step_of (program rows) sheet s j a) ≡ some x) q g in
            absurd (none-ne-some x (sym (no_own (eqb-true _ 42 e)) ∙ sym (or-none (own_step_by waiter j (W j))) ∙ u))
        itself q false e =
            let u : first_step (own_step_by waiter j (W j)) none ≡ some x = subst (λ (a : Option ℕ). first_step (own_step_by waiter j (W j)) (option_step_of (program rows) sheet s j a) ≡ some x) q g in
            own-done (strip_at (prepared rows) j) j x (sym (or-none (own_step_by waiter j (W j))) ∙ u) (strip-is rows j table below) (form_of (program rows) sheet s j)

        go : (a : Option ℕ) → alt_of (program rows) j ≡ a → Does (change_in rows acts sent elements j) x
        go none q = itself q (eqb (row_at rows j).what 42) refl
        go (some r) q =
            let w : place_at (prepared rows) j 0 ≡ 42 = (option-what table r j (alt-is (program rows) r j q)).0 in
            let e : (row_at rows j).what ≡ 42 = sym what-same ∙ w in
            let u : option_step_by waiter r j (W r) ≡ some x =
            subst (λ (a : Option ℕ). option_step_of (program rows) sheet s j a ≡ some x) q (subst (λ (y : Option Label). first_step y (option_step_of (program rows) sheet s j (alt_of (program rows) j)) ≡ some x) (no_own e) g) in
            let n : (row_at rows j).parent ≡ r + 1 = sym (parent-at table j inside-table) ∙ option-note table j inside-table w ∙ ap row_note q in
            let m : (row_at rows j).first ≡ place_at (prepared rows) j 1 = sym (first-at table j inside-table) in
            let (D, k) = option-done r j x q u (row_at rows j).first m (form_of (program rows) sheet s r) in
            rw (eq-eqb _ 42 e, n, row-noted r (omega (arith, (room rows ok).states))) D
