-- In an accepted table a row inputs from, outputs to and offers inputs from elements below 256, and what an ALT offers is of its options, in order, of each option once.
use mathlib.Core.Path.{◌≡◌, refl}
use mathlib.Core.Bool.{Bool, true, false}
use mathlib.Core.Option.{Option, none, some}
use mathlib.Core.List.{List, [], ◌∷◌, ◌++◌}
use Prim.Native.Nat.{ℕ, suc, ◌<◌}
use lib.IntN.{ℤ}
use lib.ListN.{length, get_or, get_elem?}
use lib.Dec.{ltb}
use Rattle.meaning.specs.declared.Value.{Value}
use Rattle.meaning.specs.declared.Value.TheVariants.{Number, Missing}
use Rattle.meaning.specs.declared.Index.{Index}
use Rattle.meaning.specs.declared.Index.TheVariants.{At, Fails}
use Rattle.meaning.specs.Basics.{if_else}
use Rattle.meaning.specs.Declarations.{Channel}
use Rattle.meaning.specs.Tree.{ChannelInput, IfChoice, AltOption, Action, stop, skip, sequence, parallel, assign, input, output, conditional, loop, alternation, block, action_of}
use Rattle.meaning.specs.Values.{Message, is_true, value, index, Sent, gives, lacking}
use Rattle.meaning.specs.Values as values
use Rattle.meaning.specs.State.{Store, State, program, process_at, write_output}
use Rattle.meaning.specs.Readings.{Sheet}
use Rattle.meaning.specs.Intent.{Offer, open_offer, input_offer, Intent, waits, moves, inputs_from, outputs_to, selects, assigning, testing, choosing, host_write, outputting, InputResult, lacks, not_yet, reads, from_element, host_read, input_result_of, inputting, OptionsResult, fails, offers, adding, opening, guarding, selecting, input_result, input_result_if, tests, options_result, intent}
use Rattle.meaning.specs.Ready.{option_row, is_live, intent_at}
use Rattle.meaning.specs.Answers.{check}
use Rattle.run_code.specs.Prepared.{host_note}
use Rattle.run_values.specs.Sending.{coded}
use Rattle.run_intents.specs.declared.Does.TheVariants.{Waits, InputsFrom, OutputsTo}
use Rattle.run_intents.specs.Does as does
use Rattle.run_intents.specs.Does.{on_host, received, sent, input_does, output_does, when_true, guard_does, guarded_does, does_of}
use Rattle.run_intents.specs.Stands.{options_of, option_notes}
use Rattle.run_intents.proofs.Ranges.{InRange, NotesInRange, row-in-range}
use Rattle.run_notes.specs.Notes.{options_at}
use Rattle.run_noted.specs.Noted.{Offered, offers-none, passed, taken}

-- an offer of an input is from an element below 256
abbrev OfferBelow : Offer → Type 0
OfferBelow (open_offer j q ws) = Unit {0}
OfferBelow (input_offer j q e a) = e < 256

abbrev pub OffersBelow : List Offer → Type 0
OffersBelow [] = Unit {0}
OffersBelow (o ∷ os) = OfferBelow o × OffersBelow os

-- what a row with these options would do
abbrev pub Fits : List AltOption → Intent → Type 0
Fits bs waits = Unit {0}
Fits bs (moves x v ws) = Unit {0}
Fits bs (inputs_from e a) = e < 256
Fits bs (outputs_to e m) = e < 256
Fits bs (selects os) = Offered bs os × OffersBelow os

either : (bs : List AltOption) (t : Bool) (w u : Intent) → Fits bs w → Fits bs u → Fits bs (if_else t w u)
either bs true w u h g = h
either bs false w u h g = g

assign-fits : (r : ℕ) (i : Index) (v : Value) → Fits [] (assigning r i v)
assign-fits r (Fails k) v = tt
assign-fits r (At a) (Missing k) = tt
assign-fits r (At a) (Number z) = tt

while-fits : (r b : ℕ) (v : Value) → Fits [] (testing r b v)
while-fits r b (Missing k) = tt
while-fits r b (Number z) = either [] (is_true z) (moves b 1 []) (moves r 2 []) tt tt

test_fits : (r q : ℕ) (v : Value) (u : Intent) → Fits [] u → Fits [] (choosing r q v u)
test_fits r q (Missing k) u h = tt
test_fits r q (Number z) u h = either [] (is_true z) (moves q 1 []) u tt h

send-fits : (r : ℕ) (c : Channel) (outputs : List (List Message)) (i : Index) (v : Sent) → InRange (sent [] (host_note c) c.capacity i v) → Fits [] (outputting r c outputs i v)
send-fits r c outputs (Fails k) v h = tt
send-fits r c outputs (At e) (lacking k) h = tt
send-fits r c outputs (At e) (gives m) h = go c.host h
  where
    go : (t : Bool) → InRange (on_host (if_else t (suc c.number) 0) (does.host_write [] c.capacity (coded m)) (OutputsTo e (coded m))) → Fits [] (if_else t (host_write r c (get_or outputs c.number []) m) (outputs_to e m))
    go true h = either [] (ltb (length (get_or outputs c.number [])) c.capacity) (moves r 2 (write_output c.number (get_or outputs c.number [] ++ (m ∷ [])) ∷ [])) waits tt tt
    go false h = h

-- what an input comes to
abbrev ResultBelow : InputResult → Type 0
ResultBelow (lacks k) = Unit {0}
ResultBelow not_yet = Unit {0}
ResultBelow (reads ws) = Unit {0}
ResultBelow (from_element e a) = e < 256

received-below : (sheet : Sheet) (places : List ℕ) (c : Channel) (i t : Index) → InRange (received [] 0 (host_note c) i t) → ResultBelow (input_result_of sheet places c i t)
received-below sheet places c (Fails k) t h = tt
received-below sheet places c (At e) (Fails k) h = tt
received-below sheet places c (At e) (At a) h = go c.host h
  where
    read : (o : Option Message) → ResultBelow (host_read c.number (get_or places c.number 0) a o)
    read none = tt
    read (some m) = tt

    go : (t : Bool) → InRange (on_host (if_else t (suc c.number) 0) (does.host_read [] 0 a) (InputsFrom e a))
        → ResultBelow (if_else t (host_read c.number (get_or places c.number 0) a (get_elem? (get_or sheet c.number []) (get_or places c.number 0))) (from_element e a))
    go true h = read (get_elem? (get_or sheet c.number []) (get_or places c.number 0))
    go false h = h.0

input-fits : (r : ℕ) (c : InputResult) → ResultBelow c → Fits [] (inputting r c)
input-fits r (lacks k) h = tt
input-fits r not_yet h = tt
input-fits r (reads ws) h = tt
input-fits r (from_element e a) h = h

-- what options come to
abbrev Looked : List AltOption → OptionsResult → Type 0
Looked bs (fails k) = Unit {0}
Looked bs (offers os) = Offered bs os × OffersBelow os

module _ (b : AltOption) (bs : List AltOption) where
  pass : (l : OptionsResult) → Looked bs l → Looked (b ∷ bs) l
  pass (fails k) h = tt
  pass (offers os) h = (passed h.0, h.1)

  add : (o : Offer) (l : OptionsResult) → option_row o ≡ b.row → OfferBelow o → Looked bs l → Looked (b ∷ bs) (adding o l)
  add o (fails k) e g h = tt
  add o (offers os) e g h = (taken e h.0, (g, h.1))

  admit : (c : InputResult) (l : OptionsResult) → ResultBelow c → Looked bs l → Looked (b ∷ bs) (opening b.row b.process (some c) l)
  admit (lacks k) l g h = tt
  admit not_yet l g h = pass l h
  admit (reads ws) l g h = add (open_offer b.row b.process ws) l refl tt h
  admit (from_element e a) l g h = add (input_offer b.row b.process e a) l refl g h

module _ (sheet : Sheet) (x : Store) where
  input-below : (i : ChannelInput) → InRange (input_does 0 x.cells [] i) → ResultBelow (input_result sheet i x)
  unfolding input_does input_result
  input-below i h =
      received-below sheet x.places i.channel (index x.cells i.channel.first i.channel.size i.subscript)
      (index x.cells i.target.name.first i.target.name.size i.target.subscript) h

  tests-fit : (r : ℕ) (ts : List IfChoice) → Fits [] (tests sheet r ts x)
  tests-fit r [] = tt
  tests-fit r (t ∷ l) = test_fits r t.process (value x.cells t.boolean) (tests sheet r l x) (tests-fit r l)

  module _ (b : AltOption) (bs : List AltOption) where
    opened : (i : Option ChannelInput) (l : OptionsResult) → InRange (guard_does 0 x.cells [] b.process i) → Looked bs l → Looked (b ∷ bs) (opening b.row b.process (input_result_if sheet i x) l)
    opened none l g h = add b bs (open_offer b.row b.process []) l refl tt h
    opened (some i) l g h = admit b bs (input_result sheet i x) l (input-below i g) h

    guard : (v : Value) (i : Option ChannelInput) (l : OptionsResult) → InRange (when_true v (guard_does 0 x.cells [] b.process i) Waits) → Looked bs l
        → Looked (b ∷ bs) (guarding b.row b.process v (input_result_if sheet i x) l)
    guard (Missing k) i l g h = tt
    guard (Number z) i l g h = go (is_true z) g
      where
        go : (t : Bool) → InRange (if_else t (guard_does 0 x.cells [] b.process i) Waits) → Looked (b ∷ bs) (if_else t (opening b.row b.process (input_result_if sheet i x) l) l)
        go true g = opened i l g h
        go false g = pass b bs l h

  looked : (bs : List AltOption) → NotesInRange (option_notes 0 x.cells [] bs) → Looked bs (options_result sheet bs x)
  unfolding guarded_does
  looked [] g = (offers-none, tt)
  looked (b ∷ bs) g = guard b bs (value x.cells b.guard.boolean) b.guard.input (options_result sheet bs x) g.0 (looked bs g.2)

  select-fits : (r : ℕ) (bs : List AltOption) (l : OptionsResult) → Looked bs l → Fits bs (selecting r l)
  select-fits r bs (fails k) h = tt
  select-fits r bs (offers os) h = h

  intent-fits : (r : ℕ) (k : Action) → InRange (does_of 0 x.cells [] [] k) → NotesInRange (option_notes 0 x.cells [] (options_of k)) → Fits (options_of k) (intent sheet k r x)
  unfolding intent does_of output_does
  intent-fits r stop h g = tt
  intent-fits r skip h g = tt
  intent-fits r sequence h g = tt
  intent-fits r parallel h g = tt
  intent-fits r (assign v e f) h g = assign-fits r (index x.cells v.first v.size e) (value x.cells f)
  intent-fits r (input i) h g = input-fits r (input_result sheet i x) (input-below i h)
  intent-fits r (output c e f) h g = send-fits r c x.outputs (index x.cells c.first c.size e) (values.passed x.cells f) h
  intent-fits r (conditional ts) h g = tests-fit r ts
  intent-fits r (loop e b) h g = while-fits r b (value x.cells e)
  intent-fits r (alternation bs) h g = select-fits r bs (options_result sheet bs x) (looked bs g)
  intent-fits r (block v) h g = tt

-- what a row would do
pub row_fits : (rows : List ℤ) → check rows ≡ none → (sheet : Sheet) (s : State) (r : ℕ) → Fits (options_at rows r) (intent_at (program rows) sheet s r)
unfolding options_at intent_at
row_fits rows ok sheet s r =
    let k = action_of (process_at (program rows) r) in
    let h = row-in-range rows ok 0 s.store.cells [] [] r in
    either (options_of k) (is_live (program rows) sheet r s) (intent sheet k r s.store) waits (intent-fits sheet s.store r k h.0 h.1) tt
