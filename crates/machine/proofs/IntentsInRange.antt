-- What a row would do is within what its table declares: cells, host channels, and one more message where a channel has room. It holds of every table and state.
use mathlib.Core.Path.{◌≡◌, refl}
use mathlib.Core.Bool.{Bool, true, false}
use mathlib.Core.Option.{Option, none, some}
use mathlib.Core.List.{List, [], ◌∷◌, ◌++◌, Memᴰ}
use Prim.Native.Nat.{ℕ, ◌<◌}
use lib.IntN.{ℤ}
use lib.ListN.{length, get_or, get_elem?}
use lib.Dec.{ltb}
use borrow.Author.Tests.{ltb-true}
use Rattle.meaning.specs.declared.Value.{Value}
use Rattle.meaning.specs.declared.Value.TheVariants.{Number, Missing}
use Rattle.meaning.specs.declared.Index.{Index}
use Rattle.meaning.specs.declared.Index.TheVariants.{At, Fails}
use Rattle.meaning.specs.Basics.{if_else}
use Rattle.meaning.specs.Declarations.{Channel, total_cells}
use Rattle.meaning.specs.Tree.{ChannelInput, IfChoice, AltOption, Action, stop, skip, sequence, parallel, assign, input, output, conditional, loop, alternation, block, action_of}
use Rattle.meaning.specs.Values.{Message, is_true, value, index, Sent, gives, lacking, passed}
use Rattle.meaning.specs.State.{Store, State, program, process_at, write_output}
use Rattle.meaning.specs.Readings.{Sheet}
use Rattle.meaning.specs.Intent.{Offer, open_offer, input_offer, Intent, waits, moves, inputs_from, outputs_to, selects, assigning, testing, choosing, host_write, outputting, InputResult, lacks, not_yet, reads, from_element, host_read, input_result_of, inputting, OptionsResult, fails, offers, adding, opening, guarding, selecting, input_result, input_result_if, tests, options_result, intent}
use Rattle.meaning.specs.Ready.{is_live, intent_at}
use Rattle.machine.specs.Held.{AllInRange}
use Rattle.machine.proofs.Declared.{cell_below}
use Rattle.machine.proofs.NamesInRange.{SinkIn, SourceIn, ReceiveIn, GuardIn, OptionsIn, ActionIn, names_in}

module _ (rows : List ℤ) (x : Store) where
  -- an offer, and what a row would do, within what the table declares
  abbrev pub OfferIn : Offer → Type 0
  OfferIn (open_offer j q ws) = AllInRange rows x ws
  OfferIn (input_offer j q e a) = a < total_cells rows

  abbrev pub OffersIn : List Offer → Type 0
  OffersIn [] = Unit {0}
  OffersIn (o ∷ os) = OfferIn o × OffersIn os

  pub offer-in : (o : Offer) (os : List Offer) → OffersIn os → Memᴰ o os → OfferIn o
  offer-in o os h (Memᴰ.head e) = rw e h.0
  offer-in o os h (Memᴰ.tail {xs} m) = offer-in o xs h.1 m

  abbrev pub IntentIn : Intent → Type 0
  IntentIn waits = Unit {0}
  IntentIn (moves y v ws) = AllInRange rows x ws
  IntentIn (inputs_from e a) = a < total_cells rows
  IntentIn (outputs_to e m) = Unit {0}
  IntentIn (selects os) = OffersIn os

  either-in : (t : Bool) (w u : Intent) → IntentIn w → IntentIn u → IntentIn (if_else t w u)
  either-in true w u h k = h
  either-in false w u h k = k

  assign-in : (r : ℕ) (I : Index) (W : Value) → ((a : ℕ) → I ≡ At a → a < total_cells rows) → IntentIn (assigning r I W)
  assign-in r (Fails k) W h = tt
  assign-in r (At a) (Missing k) h = tt
  assign-in r (At a) (Number z) h = (h a refl, tt)

  while-in : (r b : ℕ) (W : Value) → IntentIn (testing r b W)
  while-in r b (Missing k) = tt
  while-in r b (Number z) = either-in (is_true z) (moves b 1 []) (moves r 2 []) tt tt

  test_in : (r q : ℕ) (W : Value) (u : Intent) → IntentIn u → IntentIn (choosing r q W u)
  test_in r q (Missing k) u h = tt
  test_in r q (Number z) u h = either-in (is_true z) (moves q 1 []) u tt h

  host-in : (r : ℕ) (c : Channel) (m : Message) → SinkIn rows c → c.host ≡ true → IntentIn (host_write r c (get_or x.outputs c.number []) m)
  host-in r c m S h = go (ltb (length (get_or x.outputs c.number [])) c.capacity) refl
    where
      l : List Message
      l = get_or x.outputs c.number []

      go : (t : Bool) → ltb (length l) c.capacity ≡ t → IntentIn (if_else t (moves r 2 (write_output c.number (l ++ (m ∷ [])) ∷ [])) waits)
      go true e = let (p, k) = S h in ((m, p, refl, rw k (ltb-true (length l) c.capacity e)), tt)
      go false e = tt

  send-in : (r : ℕ) (c : Channel) (I : Index) (W : Sent) → SinkIn rows c → IntentIn (outputting r c x.outputs I W)
  send-in r c (Fails k) W S = tt
  send-in r c (At e) (lacking k) S = tt
  send-in r c (At e) (gives m) S = go c.host refl
    where
      go : (t : Bool) → c.host ≡ t → IntentIn (if_else t (host_write r c (get_or x.outputs c.number []) m) (outputs_to e m))
      go true q = host-in r c m S q
      go false q = tt

  -- what an input comes to
  abbrev ReceptionIn : InputResult → Type 0
  ReceptionIn (lacks k) = Unit {0}
  ReceptionIn not_yet = Unit {0}
  ReceptionIn (reads ws) = AllInRange rows x ws
  ReceptionIn (from_element e a) = a < total_cells rows

  receiving-in : (sheet : Sheet) (c : Channel) (I J : Index) → SourceIn rows c → ((a : ℕ) → J ≡ At a → a < total_cells rows) → ReceptionIn (input_result_of sheet x.places c I J)
  receiving-in sheet c (Fails k) J S h = tt
  receiving-in sheet c (At e) (Fails k) S h = tt
  receiving-in sheet c (At e) (At a) S h = go c.host refl
    where
      n : ℕ
      n = get_or x.places c.number 0

      read : (o : Option Message) → c.host ≡ true → ReceptionIn (host_read c.number n a o)
      read none q = tt
      read (some v) q = (h a refl, (S q, tt))

      go : (t : Bool) → c.host ≡ t → ReceptionIn (if_else t (host_read c.number n a (get_elem? (get_or sheet c.number []) n)) (from_element e a))
      go true q = read (get_elem? (get_or sheet c.number []) n) q
      go false q = h a refl

  reception-in : (sheet : Sheet) (i : ChannelInput) → ReceiveIn rows i → ReceptionIn (input_result sheet i x)
  unfolding input_result
  reception-in sheet i (S, T) =
      let c = i.channel in
      let t = i.target in
      receiving-in sheet c (index x.cells c.first c.size i.subscript) (index x.cells t.name.first t.name.size t.subscript) S (λ a q. cell_below rows x.cells t.name a t.subscript T q)

  input-in : (r : ℕ) (R : InputResult) → ReceptionIn R → IntentIn (inputting r R)
  input-in r (lacks k) h = tt
  input-in r not_yet h = tt
  input-in r (reads ws) h = h
  input-in r (from_element e a) h = h

  -- the options of an ALT
  abbrev LookedIn : OptionsResult → Type 0
  LookedIn (fails k) = Unit {0}
  LookedIn (offers os) = OffersIn os

  add-in : (o : Offer) (L : OptionsResult) → OfferIn o → LookedIn L → LookedIn (adding o L)
  add-in o (fails k) h g = tt
  add-in o (offers os) h g = (h, g)

  abbrev MaybeIn : Option InputResult → Type 0
  MaybeIn none = Unit {0}
  MaybeIn (some R) = ReceptionIn R

  open_in : (j q : ℕ) (o : Option InputResult) (L : OptionsResult) → MaybeIn o → LookedIn L → LookedIn (opening j q o L)
  open_in j q none L h g = add-in (open_offer j q []) L tt g
  open_in j q (some (lacks k)) L h g = tt
  open_in j q (some not_yet) L h g = g
  open_in j q (some (reads ws)) L h g = add-in (open_offer j q ws) L h g
  open_in j q (some (from_element e a)) L h g = add-in (input_offer j q e a) L h g

  guard-in : (j q : ℕ) (W : Value) (o : Option InputResult) (L : OptionsResult) → MaybeIn o → LookedIn L → LookedIn (guarding j q W o L)
  guard-in j q (Missing k) o L h g = tt
  guard-in j q (Number z) o L h g = go (is_true z)
    where
      go : (t : Bool) → LookedIn (if_else t (opening j q o L) L)
      go true = open_in j q o L h g
      go false = g

  maybe-in : (sheet : Sheet) (o : Option ChannelInput) → GuardIn rows o → MaybeIn (input_result_if sheet o x)
  maybe-in sheet none h = tt
  maybe-in sheet (some i) h = reception-in sheet i h

  looks-in : (sheet : Sheet) (bs : List AltOption) → OptionsIn rows bs → LookedIn (options_result sheet bs x)
  looks-in sheet [] h = tt
  looks-in sheet (b ∷ l) h =
      guard-in b.row b.process (value x.cells b.guard.boolean) (input_result_if sheet b.guard.input x) (options_result sheet l x) (maybe-in sheet b.guard.input h.0) (looks-in sheet l h.1)

  select_in : (r : ℕ) (L : OptionsResult) → LookedIn L → IntentIn (selecting r L)
  select_in r (fails k) h = tt
  select_in r (offers os) h = h

  tests-in : (sheet : Sheet) (r : ℕ) (ts : List IfChoice) → IntentIn (tests sheet r ts x)
  tests-in sheet r [] = tt
  tests-in sheet r (t ∷ l) = test_in r t.process (value x.cells t.boolean) (tests sheet r l x) (tests-in sheet r l)

  -- what an action would do
  pub intent-in : (sheet : Sheet) (r : ℕ) (k : Action) → ActionIn rows k → IntentIn (intent sheet k r x)
  unfolding intent
  intent-in sheet r stop h = tt
  intent-in sheet r skip h = tt
  intent-in sheet r sequence h = tt
  intent-in sheet r parallel h = tt
  intent-in sheet r (assign v e f) h = assign-in r (index x.cells v.first v.size e) (value x.cells f) (λ a q. cell_below rows x.cells v a e h q)
  intent-in sheet r (input i) h = input-in r (input_result sheet i x) (reception-in sheet i h)
  intent-in sheet r (output c e f) h = send-in r c (index x.cells c.first c.size e) (passed x.cells f) h
  intent-in sheet r (conditional ts) h = tests-in sheet r ts
  intent-in sheet r (loop e b) h = while-in r b (value x.cells e)
  intent-in sheet r (alternation bs) h = select_in r (options_result sheet bs x) (looks-in sheet bs h)
  intent-in sheet r (block v) h = tt

-- what the row at work would do
pub intents-in : (rows : List ℤ) (sheet : Sheet) (s : State) (r : ℕ) → IntentIn rows s.store (intent_at (program rows) sheet s r)
unfolding intent_at
intents-in rows sheet s r =
    either-in rows s.store (is_live (program rows) sheet r s) (intent sheet (action_of (process_at (program rows) r)) r s.store) waits
    (intent-in rows s.store sheet r (action_of (process_at (program rows) r)) (names_in rows r)) tt
