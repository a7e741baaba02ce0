-- What an action would do is its own to do: it writes cells that it changes and the places and lists of its own host channels, and starts its own members.
use mathlib.Core.Path.{◌≡◌, refl}
use mathlib.Core.Bool.{Bool, true, false}
use mathlib.Core.Option.{Option, none, some}
use mathlib.Core.List.Memᴰ
use mathlib.Core.List.{List, [], ◌∷◌, ◌++◌, Memᴰ}
use Prim.Native.Nat.{ℕ, ◌+◌}
use native.Mathlib.Omega.{arith}
use lib.ListN.{length, get_or, get_elem?}
use lib.Dec.{ltb}
use Rattle.meaning.specs.declared.Value.{Value}
use Rattle.meaning.specs.declared.Value.TheVariants.{Number, Missing}
use Rattle.meaning.specs.declared.Index.{Index}
use Rattle.meaning.specs.declared.Index.TheVariants.{At, Fails}
use Rattle.meaning.specs.Basics.{if_else}
use Rattle.meaning.specs.Declarations.{Channel}
use Rattle.meaning.specs.Tree.{ChannelInput, IfChoice, AltOption, Action, stop, skip, sequence, parallel, assign, input, output, conditional, loop, alternation, block, Processes}
use Rattle.meaning.specs.Values.{Message, is_true, value, index, Sent, gives, lacking, passed}
use Rattle.meaning.specs.State.{Store, Write, write_cell, write_place, write_output}
use Rattle.meaning.specs.Intent.{Offer, open_offer, input_offer, Intent, waits, moves, inputs_from, outputs_to, selects, assigning, testing, choosing, host_write, outputting, InputResult, lacks, not_yet, reads, from_element, host_read, input_result_of, inputting, OptionsResult, fails, offers, adding, opening, guarding, selecting, input_result, input_result_if, tests, options_result, intent}
use Rattle.meaning.specs.Usage.{changes_by, inputs_by, of_guard, of_guards, changes, input_elements, output_elements}
use Rattle.meaning.specs.Readings.{Sheet}
use Rattle.agreement.proofs.Commute.{Child, Legal, own, child}
use Rattle.agreement.proofs.Fit.{ChoicesIn, OptionsIn, Starts, HostAt, GuardAt, GuardsAt, HostsAt}
use Rattle.agreement.proofs.OptionRows.{rows_of_options, option_rows}
use Rattle.agreement.proofs.Footprint.{index-counts}
use Rattle.agreement.proofs.Near.{host-counts}

module _ (source sink : ℕ → ℕ) where
  -- a write of what an action changes, inputs from or outputs to
  abbrev pub Owned : Action → Write → Type 0
  Owned k (write_cell a v) = Memᴰ a (changes k)
  Owned k (write_place p v) = Memᴰ (source p) (input_elements k)
  Owned k (write_output p v) = Memᴰ (sink p) (output_elements k)

  abbrev pub AllOwned : Action → List Write → Type 0
  AllOwned k [] = Unit {0}
  AllOwned k (w ∷ ws) = Owned k w × AllOwned k ws

  module _ (k : Action) (ms : Processes) where
    -- an offer of one of the action's options
    abbrev pub ProperOffer : Offer → Type 0
    ProperOffer (open_offer j q ws) = Memᴰ j (option_rows k) × Child q ms × AllOwned k ws
    ProperOffer (input_offer j q e a) = Memᴰ j (option_rows k) × Child q ms × Memᴰ e (input_elements k) × Memᴰ a (changes k)

    abbrev pub ProperOffers : List Offer → Type 0
    ProperOffers [] = Unit {0}
    ProperOffers (o ∷ os) = ProperOffer o × ProperOffers os

    pub offer-proper : (o : Offer) (os : List Offer) → ProperOffers os → Memᴰ o os → ProperOffer o
    offer-proper o os h (Memᴰ.head e) = rw e h.0
    offer-proper o os h (Memᴰ.tail {xs} m) = offer-proper o xs h.1 m

    -- what the action, at row r with members ms, may do
    abbrev pub Proper : ℕ → Intent → Type 0
    Proper r waits = Unit {0}
    Proper r (moves x v ws) = Legal x v r ms × AllOwned k ws
    Proper r (inputs_from e a) = Memᴰ e (input_elements k) × Memᴰ a (changes k)
    Proper r (outputs_to e v) = Memᴰ e (output_elements k)
    Proper r (selects os) = ProperOffers os

    stops : (r j : ℕ) → Proper r (moves r (10 + j) [])
    stops r j = (own (8 + j) refl (omega arith), tt)

    ends : (r : ℕ) → Legal r 2 r ms
    ends r = own 0 refl refl

    assign-proper : (r : ℕ) (I : Index) (W : Value) → ((a : ℕ) → I ≡ At a → Memᴰ a (changes k)) → Proper r (assigning r I W)
    assign-proper r (Fails j) W h = stops r j
    assign-proper r (At a) (Missing j) h = stops r j
    assign-proper r (At a) (Number z) h = (ends r, (h a refl, tt))

    while-proper : (r b : ℕ) (W : Value) → Child b ms → Proper r (testing r b W)
    while-proper r b (Missing j) h = stops r j
    while-proper r b (Number z) h = go (is_true z)
      where
        go : (t : Bool) → Proper r (if_else t (moves b 1 []) (moves r 2 []))
        go true = (child h refl, tt)
        go false = (ends r, tt)

    test-proper : (r q : ℕ) (W : Value) (u : Intent) → Child q ms → Proper r u → Proper r (choosing r q W u)
    test-proper r q (Missing j) u h g = stops r j
    test-proper r q (Number z) u h g = go (is_true z)
      where
        go : (t : Bool) → Proper r (if_else t (moves q 1 []) u)
        go true = (child h refl, tt)
        go false = g

    send-proper : (r : ℕ) (c : Channel) (l : List (List Message)) (I : Index) (W : Sent) → ((e : ℕ) → I ≡ At e → Memᴰ e (output_elements k))
        → (c.host ≡ true → (e : ℕ) → I ≡ At e → Memᴰ (sink c.number) (output_elements k)) → Proper r (outputting r c l I W)
    send-proper r c l (Fails j) W h g = stops r j
    send-proper r c l (At e) (lacking j) h g = stops r j
    send-proper r c l (At e) (gives z) h g = go c.host refl
      where
        room : (t : Bool) → c.host ≡ true → Proper r (if_else t (moves r 2 (write_output c.number (get_or l c.number [] ++ (z ∷ [])) ∷ [])) waits)
        room true q = (ends r, (g q e refl, tt))
        room false q = tt

        go : (t : Bool) → c.host ≡ t → Proper r (if_else t (host_write r c (get_or l c.number []) z) (outputs_to e z))
        go true q = room (ltb (length (get_or l c.number [])) c.capacity) q
        go false q = h e refl

    -- what an input of the action may come to
    abbrev Receives : InputResult → Type 0
    Receives (lacks j) = Unit {0}
    Receives not_yet = Unit {0}
    Receives (reads ws) = AllOwned k ws
    Receives (from_element e a) = Memᴰ e (input_elements k) × Memᴰ a (changes k)

    receiving-proper : (sheet : Sheet) (l : List ℕ) (c : Channel) (I J : Index) → ((e : ℕ) → I ≡ At e → Memᴰ e (input_elements k)) → (c.host ≡ true → (e : ℕ) → I ≡ At e → Memᴰ (source c.number) (input_elements k))
        → ((a : ℕ) → J ≡ At a → Memᴰ a (changes k)) → Receives (input_result_of sheet l c I J)
    receiving-proper sheet l c (Fails j) J he hs ha = tt
    receiving-proper sheet l c (At e) (Fails j) he hs ha = tt
    receiving-proper sheet l c (At e) (At a) he hs ha = go c.host refl
      where
        read : (o : Option Message) → c.host ≡ true → Receives (host_read c.number (get_or l c.number 0) a o)
        read none q = tt
        read (some v) q = (ha a refl, (hs q e refl, tt))

        go : (t : Bool) → c.host ≡ t → Receives (if_else t (host_read c.number (get_or l c.number 0) a (get_elem? (get_or sheet c.number []) (get_or l c.number 0))) (from_element e a))
        go true q = read (get_elem? (get_or sheet c.number []) (get_or l c.number 0)) q
        go false q = (he e refl, ha a refl)

    input-proper : (r : ℕ) (R : InputResult) → Receives R → Proper r (inputting r R)
    input-proper r (lacks j) h = stops r j
    input-proper r not_yet h = tt
    input-proper r (reads ws) h = (ends r, h)
    input-proper r (from_element e a) h = h

    abbrev ReceivesIf : Option InputResult → Type 0
    ReceivesIf none = Unit {0}
    ReceivesIf (some R) = Receives R

    abbrev Looks : OptionsResult → Type 0
    Looks (fails j) = Unit {0}
    Looks (offers os) = ProperOffers os

    add-proper : (o : Offer) (L : OptionsResult) → ProperOffer o → Looks L → Looks (adding o L)
    add-proper o (fails j) h g = tt
    add-proper o (offers os) h g = (h, g)

    open-proper : (j q : ℕ) (o : Option InputResult) (L : OptionsResult) → Memᴰ j (option_rows k) → Child q ms → ReceivesIf o → Looks L → Looks (opening j q o L)
    open-proper j q none L m c h g = add-proper (open_offer j q []) L (m, c, tt) g
    open-proper j q (some (lacks i)) L m c h g = tt
    open-proper j q (some not_yet) L m c h g = g
    open-proper j q (some (reads ws)) L m c h g = add-proper (open_offer j q ws) L (m, c, h) g
    open-proper j q (some (from_element e a)) L m c h g = add-proper (input_offer j q e a) L (m, c, h.0, h.1) g

    guard-proper : (j q : ℕ) (W : Value) (o : Option InputResult) (L : OptionsResult) → Memᴰ j (option_rows k) → Child q ms → ReceivesIf o → Looks L → Looks (guarding j q W o L)
    guard-proper j q (Missing i) o L m c h g = tt
    guard-proper j q (Number z) o L m c h g = go (is_true z)
      where
        go : (t : Bool) → Looks (if_else t (opening j q o L) L)
        go true = open-proper j q o L m c h g
        go false = g

    select-proper : (r : ℕ) (L : OptionsResult) → Looks L → Proper r (selecting r L)
    select-proper r (fails j) h = stops r j
    select-proper r (offers os) h = h

    module _ (sheet : Sheet) (x : Store) where
      -- an input whose elements and cells are among the action's
      reception-proper : (i : ChannelInput) → HostAt source i.channel → ((e : ℕ) → Memᴰ e (inputs_by i) → Memᴰ e (input_elements k)) → ((a : ℕ) → Memᴰ a (changes_by i) → Memᴰ a (changes k))
          → Receives (input_result sheet i x)
      unfolding input_result
      reception-proper i H he ha =
          let c = i.channel in
          let t = i.target in
          receiving-proper sheet x.places c (index x.cells c.first c.size i.subscript) (index x.cells t.name.first t.name.size t.subscript)
          (λ e q. he e (index-counts x.cells c.first c.size i.subscript e q))
          (λ h e q. he (source c.number) (host-counts source c H h x.cells i.subscript e q))
          (λ a q. ha a (index-counts x.cells t.name.first t.name.size t.subscript a q))

      guarded-proper : (o : Option ChannelInput) → GuardAt source o → ((e : ℕ) → Memᴰ e (of_guard inputs_by o) → Memᴰ e (input_elements k)) → ((a : ℕ) → Memᴰ a (of_guard changes_by o) → Memᴰ a (changes k))
          → ReceivesIf (input_result_if sheet o x)
      guarded-proper none H he ha = tt
      guarded-proper (some i) H he ha = reception-proper i H he ha

      looks-proper : (bs : List AltOption) → GuardsAt source bs → OptionsIn bs ms → ((j : ℕ) → Memᴰ j (rows_of_options bs) → Memᴰ j (option_rows k))
          → ((e : ℕ) → Memᴰ e (of_guards inputs_by bs) → Memᴰ e (input_elements k)) → ((a : ℕ) → Memᴰ a (of_guards changes_by bs) → Memᴰ a (changes k)) → Looks (options_result sheet bs x)
      looks-proper [] H S hj he ha = tt
      looks-proper (b ∷ l) H S hj he ha =
          let o = b.guard.input in
          guard-proper b.row b.process (value x.cells b.guard.boolean) (input_result_if sheet o x) (options_result sheet l x) (hj b.row (Memᴰ.head refl)) S.0
          (guarded-proper o H.0 (λ e m. he e (Memᴰ.append_left (of_guards inputs_by l) m)) (λ a m. ha a (Memᴰ.append_left (of_guards changes_by l) m)))
          (looks-proper l H.1 S.1 (λ j m. hj j (Memᴰ.tail m)) (λ e m. he e (Memᴰ.append_right (of_guard inputs_by o) m)) (λ a m. ha a (Memᴰ.append_right (of_guard changes_by o) m)))

      tests-proper : (r : ℕ) (ts : List IfChoice) → ChoicesIn ts ms → Proper r (tests sheet r ts x)
      tests-proper r [] S = tt
      tests-proper r (t ∷ l) S = test-proper r t.process (value x.cells t.boolean) (tests sheet r l x) S.0 (tests-proper r l S.1)

  -- what an action would do is its own to do
  pub proper : (sheet : Sheet) (x : Store) (r : ℕ) (ms : Processes) (k : Action) → HostsAt source sink k → Starts k ms → Proper k ms r (intent sheet k r x)
  unfolding intent
  proper sheet x r ms stop H S = tt
  proper sheet x r ms skip H S = tt
  proper sheet x r ms sequence H S = tt
  proper sheet x r ms parallel H S = tt
  proper sheet x r ms (assign v e f) H S = assign-proper (assign v e f) ms r (index x.cells v.first v.size e) (value x.cells f) (index-counts x.cells v.first v.size e)
  proper sheet x r ms (input i) H S = input-proper (input i) ms r (input_result sheet i x) (reception-proper (input i) ms sheet x i H (λ e m. m) (λ a m. m))
  proper sheet x r ms (output c e f) H S =
      send-proper (output c e f) ms r c x.outputs (index x.cells c.first c.size e) (passed x.cells f) (index-counts x.cells c.first c.size e)
      (λ h d q. host-counts sink c H h x.cells e d q)
  proper sheet x r ms (conditional ts) H S = tests-proper (conditional ts) ms sheet x r ts S
  proper sheet x r ms (loop e b) H S = while-proper (loop e b) ms r b (value x.cells e) S
  proper sheet x r ms (alternation bs) H S =
      select-proper (alternation bs) ms r (options_result sheet bs x) (looks-proper (alternation bs) ms sheet x bs H S (λ j m. m) (λ e m. m) (λ a m. m))
  proper sheet x r ms (block v) H S = tt
