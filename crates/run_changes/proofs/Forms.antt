-- The forms of what a row would do: nothing; a stop for a reason that is at most 4; an assignment, an end, a start, a read of the host, a write to it; an input, an output, options. An offer is of an option of its row, and reads from the host or writes nothing.
use mathlib.Core.Path.{◌≡◌, refl}
use mathlib.Core.Bool.{Bool, true, false}
use mathlib.Core.Option.{Option, none, some}
use mathlib.Core.List.{List, [], ◌∷◌, ◌++◌, Memᴰ}
use Prim.Native.Nat.{ℕ, suc, ◌≤◌}
use lib.IntN.{ℤ}
use lib.ListN.{length, get_or, get_elem?}
use lib.Dec.{ltb}
use Rattle.meaning.specs.declared.Value.{Value}
use Rattle.meaning.specs.declared.Value.TheVariants.{Number, Missing}
use Rattle.meaning.specs.declared.Index.{Index}
use Rattle.meaning.specs.declared.Index.TheVariants.{At, Fails}
use Rattle.meaning.specs.Basics.{if_else}
use Rattle.meaning.specs.Declarations.{Channel}
use Rattle.meaning.specs.Tree.{Expr, ChannelInput, IfChoice, AltOption, Action, stop, skip, sequence, parallel, assign, input, output, conditional, loop, alternation, block, action_of}
use Rattle.meaning.specs.Values.{Message, is_true, value, index, Sent, gives, lacking, passed}
use Rattle.meaning.specs.State.{Store, State, Program, process_at, Write, write_cell, write_place, write_output}
use Rattle.meaning.specs.Readings.{Sheet}
use Rattle.meaning.specs.Intent.{Offer, open_offer, input_offer, Intent, waits, moves, inputs_from, outputs_to, selects, halts, assigning, testing, choosing, host_write, outputting, InputResult, lacks, not_yet, reads, from_element, host_read, input_result_of, inputting, OptionsResult, fails, offers, adding, opening, guarding, selecting, input_result, input_result_if, tests, options_result, intent}
use Rattle.meaning.specs.Ready.{is_live, intent_at}
use Rattle.run_intents.specs.Stands.{options_of}
use Rattle.run_changes.proofs.Reasons.{Known, Found, value-known, index-known, KnownSent, passed-known}

-- the row of an offer's process
abbrev pub process_of : Offer → ℕ
process_of (open_offer j q ws) = q
process_of (input_offer j q e a) = q

module _ (sheet : Sheet) (x : Store) where
  -- a reading of channel p is left, and is m
  abbrev pub Left : ℕ → Message → Type 0
  Left p m = get_elem? (get_or sheet p []) (get_or x.places p 0) ≡ some m

  -- what a read of the host writes
  abbrev pub reading : ℕ → ℕ → Message → List Write
  reading a p m = write_cell a m ∷ write_place p (suc (get_or x.places p 0)) ∷ []

  -- what one more message of a channel to the host writes
  abbrev pub one_more : ℕ → Message → List Write
  one_more p m = write_output p (get_or x.outputs p [] ++ (m ∷ [])) ∷ []

  pub data Opens (ws : List Write) : Type 0 where
    writes_nothing : ws ≡ [] → Opens ws
    writes-reading : (a p : ℕ) (m : Message) → Left p m → ws ≡ reading a p m → Opens ws

  abbrev pub Formed : Offer → Type 0
  Formed (open_offer j q ws) = Opens ws
  Formed (input_offer j q e a) = Unit {0}

  -- an offer of one of these options
  pub record OfferOf (bs : List AltOption) (j q : ℕ) : Type 0 where
    pub option : AltOption
    pub among : Memᴰ option bs
    pub row_is : j ≡ option.row
    pub process-is : q ≡ option.process

  abbrev pub OfOption : List AltOption → Offer → Type 0
  OfOption bs (open_offer j q ws) = OfferOf bs j q
  OfOption bs (input_offer j q e a) = OfferOf bs j q

  abbrev pub Offered : List AltOption → List Offer → Type 0
  Offered bs [] = Unit {0}
  Offered bs (o ∷ os) = (Formed o × OfOption bs o) × Offered bs os

  pub data Form (r : ℕ) (k : Action) (w : Intent) : Type 0 where
    is-wait : w ≡ waits → Form r k w
    is_stop : (n : ℕ) → n ≤ 4 → w ≡ halts r n → Form r k w
    is-assign : (a : ℕ) (z : ℤ) → w ≡ moves r 2 (write_cell a (some z) ∷ []) → Form r k w
    is-end : w ≡ moves r 2 [] → Form r k w
    is-start : (q : ℕ) → w ≡ moves q 1 [] → Form r k w
    is_read : (a p : ℕ) (m : Message) → Left p m → w ≡ moves r 2 (reading a p m) → Form r k w
    is-write : (c : Channel) (e f : Expr) (m : Message) → k ≡ output c e f → c.host ≡ true → w ≡ moves r 2 (one_more c.number m) → Form r k w
    is-input : (e a : ℕ) → w ≡ inputs_from e a → Form r k w
    is-output : (e : ℕ) (m : Message) → w ≡ outputs_to e m → Form r k w
    is-select : (os : List Offer) → Offered (options_of k) os → w ≡ selects os → Form r k w

  module _ (r : ℕ) (k : Action) where
    either : (t : Bool) (w u : Intent) → Form r k w → Form r k u → Form r k (if_else t w u)
    either true w u h g = h
    either false w u h g = g

    assign-form : (i : Index) (v : Value) → Found i → Known v → Form r k (assigning r i v)
    assign-form (Fails n) v h g = is_stop n h refl
    assign-form (At a) (Missing n) h g = is_stop n g refl
    assign-form (At a) (Number z) h g = is-assign a z refl

    while-form : (b : ℕ) (v : Value) → Known v → Form r k (testing r b v)
    while-form b (Missing n) h = is_stop n h refl
    while-form b (Number z) h = either (is_true z) (moves b 1 []) (moves r 2 []) (is-start b refl) (is-end refl)

    test-form : (q : ℕ) (v : Value) (u : Intent) → Known v → Form r k u → Form r k (choosing r q v u)
    test-form q (Missing n) u h g = is_stop n h refl
    test-form q (Number z) u h g = either (is_true z) (moves q 1 []) u (is-start q refl) g

    tests-form : (ts : List IfChoice) → Form r k (tests sheet r ts x)
    tests-form [] = is-wait refl
    tests-form (t ∷ l) = test-form t.process (value x.cells t.boolean) (tests sheet r l x) (value-known x.cells t.boolean) (tests-form l)

    send-form : (c : Channel) (e f : Expr) (i : Index) (v : Sent) → k ≡ output c e f → Found i → KnownSent v → Form r k (outputting r c x.outputs i v)
    send-form c e f (Fails n) v q h g = is_stop n h refl
    send-form c e f (At d) (lacking n) q h g = is_stop n g refl
    send-form c e f (At d) (gives m) q h g = go c.host refl
      where
        go : (t : Bool) → c.host ≡ t → Form r k (if_else t (host_write r c (get_or x.outputs c.number []) m) (outputs_to d m))
        go true i = either (ltb (length (get_or x.outputs c.number [])) c.capacity) (moves r 2 (one_more c.number m)) waits (is-write c e f m q i refl) (is-wait refl)
        go false i = is-output d m refl

  -- what an input comes to
  pub data Come (c : InputResult) : Type 0 where
    come-lacks : (n : ℕ) → n ≤ 4 → c ≡ lacks n → Come c
    come-not : c ≡ not_yet → Come c
    come-reads : (a p : ℕ) (m : Message) → Left p m → c ≡ reads (reading a p m) → Come c
    come-from : (e a : ℕ) → c ≡ from_element e a → Come c

  come : (c : Channel) (i t : Index) → Found i → Found t → Come (input_result_of sheet x.places c i t)
  come c (Fails n) t h g = come-lacks n h refl
  come c (At e) (Fails n) h g = come-lacks n g refl
  come c (At e) (At a) h g = go c.host
    where
      n : ℕ
      n = get_or x.places c.number 0

      read : (o : Option Message) → get_elem? (get_or sheet c.number []) n ≡ o → Come (host_read c.number n a o)
      read none q = come-not refl
      read (some m) q = come-reads a c.number m q refl

      go : (t : Bool) → Come (if_else t (host_read c.number n a (get_elem? (get_or sheet c.number []) n)) (from_element e a))
      go true = read (get_elem? (get_or sheet c.number []) n) refl
      go false = come-from e a refl

  input-come : (i : ChannelInput) → Come (input_result sheet i x)
  unfolding input_result
  input-come i =
      let c = i.channel in
      let t = i.target in
      come c (index x.cells c.first c.size i.subscript) (index x.cells t.name.first t.name.size t.subscript)
      (index-known x.cells c.first c.size i.subscript) (index-known x.cells t.name.first t.name.size t.subscript)

  input-form : (r : ℕ) (k : Action) (c : InputResult) → Come c → Form r k (inputting r c)
  input-form r k c (come-lacks n h e) = rw e (is_stop n h refl)
  input-form r k c (come-not e) = rw e (is-wait refl)
  input-form r k c (come-reads a p m h e) = rw e (is_read a p m h refl)
  input-form r k c (come-from d a e) = rw e (is-input d a refl)

  -- the options of an ALT
  abbrev Looked : List AltOption → OptionsResult → Type 0
  Looked bs (fails n) = n ≤ 4
  Looked bs (offers os) = Offered bs os

  further : (b : AltOption) (bs : List AltOption) (j q : ℕ) → OfferOf bs j q → OfferOf (b ∷ bs) j q
  further b bs j q h = record { option = h.option; among = Memᴰ.tail h.among; row_is = h.row_is; process-is = h.process-is }

  further-one : (b : AltOption) (bs : List AltOption) (o : Offer) → OfOption bs o → OfOption (b ∷ bs) o
  further-one b bs (open_offer j q ws) h = further b bs j q h
  further-one b bs (input_offer j q e a) h = further b bs j q h

  further-all : (b : AltOption) (bs : List AltOption) (os : List Offer) → Offered bs os → Offered (b ∷ bs) os
  further-all b bs [] h = tt
  further-all b bs (o ∷ os) h = ((h.0.0, further-one b bs o h.0.1), further-all b bs os h.1)

  further-looked : (b : AltOption) (bs : List AltOption) (l : OptionsResult) → Looked bs l → Looked (b ∷ bs) l
  further-looked b bs (fails n) h = h
  further-looked b bs (offers os) h = further-all b bs os h

  module _ (b : AltOption) (bs : List AltOption) where
    this : OfferOf (b ∷ bs) b.row b.process
    this = record { option = b; among = Memᴰ.head refl; row_is = refl; process-is = refl }

    add : (o : Offer) (l : OptionsResult) → Formed o → OfOption (b ∷ bs) o → Looked bs l → Looked (b ∷ bs) (adding o l)
    add o (fails n) h g k = k
    add o (offers os) h g k = ((h, g), further-all b bs os k)

    admit : (c : InputResult) (l : OptionsResult) → Come c → Looked bs l → Looked (b ∷ bs) (opening b.row b.process (some c) l)
    admit c l (come-lacks n h e) k = rw e h
    admit c l (come-not e) k = rw e (further-looked b bs l k)
    admit c l (come-reads a p m h e) k = rw e (add (open_offer b.row b.process (reading a p m)) l (writes-reading a p m h refl) this k)
    admit c l (come-from d a e) k = rw e (add (input_offer b.row b.process d a) l tt this k)

    opened : (i : Option ChannelInput) (l : OptionsResult) → Looked bs l → Looked (b ∷ bs) (opening b.row b.process (input_result_if sheet i x) l)
    opened none l k = add (open_offer b.row b.process []) l (writes_nothing refl) this k
    opened (some i) l k = admit (input_result sheet i x) l (input-come i) k

    guard : (v : Value) (i : Option ChannelInput) (l : OptionsResult) → Known v → Looked bs l → Looked (b ∷ bs) (guarding b.row b.process v (input_result_if sheet i x) l)
    guard (Missing n) i l h k = h
    guard (Number z) i l h k = go (is_true z)
      where
        go : (t : Bool) → Looked (b ∷ bs) (if_else t (opening b.row b.process (input_result_if sheet i x) l) l)
        go true = opened i l k
        go false = further-looked b bs l k

  looked : (bs : List AltOption) → Looked bs (options_result sheet bs x)
  looked [] = tt
  looked (b ∷ bs) = guard b bs (value x.cells b.guard.boolean) b.guard.input (options_result sheet bs x) (value-known x.cells b.guard.boolean) (looked bs)

  select-form : (r : ℕ) (k : Action) (l : OptionsResult) → Looked (options_of k) l → Form r k (selecting r l)
  select-form r k (fails n) h = is_stop n h refl
  select-form r k (offers os) h = is-select os h refl

  intent-form : (r : ℕ) (k : Action) → Form r k (intent sheet k r x)
  unfolding intent
  intent-form r stop = is-wait refl
  intent-form r skip = is-wait refl
  intent-form r sequence = is-wait refl
  intent-form r parallel = is-wait refl
  intent-form r (assign v e f) = assign-form r (assign v e f) (index x.cells v.first v.size e) (value x.cells f) (index-known x.cells v.first v.size e) (value-known x.cells f)
  intent-form r (input i) = input-form r (input i) (input_result sheet i x) (input-come i)
  intent-form r (output c e f) = send-form r (output c e f) c e f (index x.cells c.first c.size e) (passed x.cells f) refl (index-known x.cells c.first c.size e) (passed-known x.cells f)
  intent-form r (conditional ts) = tests-form r (conditional ts) ts
  intent-form r (loop e b) = while-form r (loop e b) b (value x.cells e) (value-known x.cells e)
  intent-form r (alternation bs) = select-form r (alternation bs) (options_result sheet bs x) (looked bs)
  intent-form r (block v) = is-wait refl

-- what a row would do
pub form_of : (P : Program) (sheet : Sheet) (s : State) (r : ℕ) → Form sheet s.store r (action_of (process_at P r)) (intent_at P sheet s r)
unfolding intent_at
form_of P sheet s r =
    let k = action_of (process_at P r) in
    either sheet s.store r k (is_live P sheet r s) (intent sheet k r s.store) waits (intent-form sheet s.store r k) (is-wait refl)
