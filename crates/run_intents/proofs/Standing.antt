-- What is found of an action and of its options stands for the intent of that action, in every store that the arrays hold.
use mathlib.Core.Path.{◌≡◌, refl, ap, ◌∙◌, subst}
use mathlib.Core.Bool.{Bool, true, false}
use mathlib.Core.Option.{Option, none, some}
use mathlib.Core.List.{List, [], ◌∷◌, ◌++◌, map, flatten}
use Prim.Native.Nat.{ℕ, zero, suc, ◌<◌}
use native.Mathlib.Omega.{arith}
use lib.IntN.{ℤ}
use lib.ListN.{length, get_or, get_elem?}
use lib.Dec.{ltb}
use Rattle.meaning.specs.declared.Value.{Value}
use Rattle.meaning.specs.declared.Value.TheVariants.{Number, Missing}
use Rattle.meaning.specs.declared.Index.{Index}
use Rattle.meaning.specs.declared.Index.TheVariants.{At, Fails}
use Rattle.meaning.specs.Basics.{if_else, is_some}
use Rattle.meaning.specs.Declarations.{Channel, host_channels}
use Rattle.meaning.specs.Tree.{Expr, ChannelInput, IfChoice, AltOption, Action, stop, skip, sequence, parallel, assign, input, output, conditional, loop, alternation, block, action_of}
use Rattle.meaning.specs.Values.{Message, is_true, in_array, value, index, Sent, gives, lacking, passed}
use Rattle.meaning.specs.State.{Store, write_output, program, process_at}
use Rattle.meaning.specs.Readings.{Sheet}
use Rattle.run_values.specs.Sending.{message_in, coded}
use Rattle.run_values.specs.Cells.{cells_in}
use Rattle.meaning.specs.Intent.{Offer, open_offer, input_offer, Intent, waits, moves, outputs_to, assigning, testing, choosing, outputting, tests, InputResult, lacks, not_yet, reads, from_element, input_result_of, input_result, input_result_if, inputting, OptionsResult, fails, offers, admitting, opening, guarding, options_result, selecting, intent}
use Rattle.meaning.specs.Intent as meaning
use Rattle.machine.specs.Held.{KeptReadings}
use Rattle.machine.proofs.NamesInRange.{SourceIn, GuardIn, OptionsIn, ActionIn, names_in}
use Rattle.run_values.proofs.CellLaws.{message-back, same-value, same-passed}
use Rattle.run_code.specs.Prepared.{host_note}
use Rattle.run_intents.specs.declared.Does.{Does}
use Rattle.run_intents.specs.declared.Does.TheVariants.{Waits, Stops, Ends, Starts, Reads, Writes, InputsFrom, OutputsTo}
use Rattle.run_intents.specs.Does.{on_host, assignment, tested, when_true, host_read, host_write, received, handed_on, sent, choices_do, input_does, output_does, guard_does, guarded_does, does_of}
use Rattle.run_intents.specs.Held.{Held}
use Rattle.run_intents.specs.Stands.{OptionNote, options_of, option_notes, stop_of, first_of, first_stop, read_writes, offers_for, offers_of, unless_stops, alt_intent, stands_for}

-- an entry is what stands at its place
pub entry-is : (l : List Message) (n : ℕ) (m : Message) → get_elem? l n ≡ some m → m ≡ get_or l n none
entry-is [] n m e = absurd (let z : ◌≡◌ {A = ℕ} 0 1 = cc in omega arith)
entry-is (x ∷ l) zero m e = cc
entry-is (x ∷ l) (suc n) m e = entry-is l n m e

-- what options come to: a reason, or offers
abbrev result_of : Option ℕ → List Offer → OptionsResult
result_of none os = offers os
result_of (some k) os = fails k

selecting-is : (r : ℕ) (o : Option ℕ) (os : List Offer) → selecting r (result_of o os) ≡ unless_stops r o os
selecting-is r none os = refl
selecting-is r (some k) os = refl

module _ (rows : List ℤ) (sheet : Sheet) (x : Store) (readings : List ℤ) (given : List ℕ) (lines : ℕ) (values : List ℤ) (marks places counts : List ℕ)
    (kept : KeptReadings rows sheet readings given lines) (held : Held x values marks places counts) where
  abbrev cells : List Message
  cells = cells_in values marks

  same : (e : Expr) → value x.cells e ≡ value cells e
  same e = same-value x.cells cells held.cells e

  same_index : (first n : ℕ) (e : Expr) → index x.cells first n e ≡ index cells first n e
  unfolding index
  same_index first n e = ap (in_array first n) (same e)

  -- what holds of each form of an input and its result
  module _ (P : Does → InputResult → Type 0) (lacking : (k : ℕ) → P (Stops k) (lacks k)) (closed : P Waits not_yet)
      (read : (a p : ℕ) → P (Reads a p) (reads (read_writes sheet x a p))) (inputs : (e a : ℕ) → P (InputsFrom e a) (from_element e a)) where
    read_is : (p a : ℕ) → p < host_channels 1 rows → P (host_read places lines a p) (meaning.host_read p (get_or x.places p 0) a (get_elem? (get_or sheet p []) (get_or x.places p 0)))
    read_is p a h = rw (← held.places p, ← kept.left p (get_or x.places p 0) h) (go (get_elem? (get_or sheet p []) (get_or x.places p 0)) refl)
      where
        go : (o : Option Message) → get_elem? (get_or sheet p []) (get_or x.places p 0) ≡ o → P (if_else (is_some o) (Reads a p) Waits) (meaning.host_read p (get_or x.places p 0) a o)
        go none e = closed
        go (some m) e = rw (entry-is (get_or sheet p []) (get_or x.places p 0) m e) (read a p)

    received_is : (c : Channel) (e t : Index) → SourceIn rows c → P (received places lines (host_note c) e t) (input_result_of sheet x.places c e t)
    received_is c (Fails k) t h = lacking k
    received_is c (At e) (Fails k) h = lacking k
    received_is c (At e) (At a) h = go c.host h
      where
        go : (t : Bool) → (t ≡ true → c.number < host_channels 1 rows)
            → P (on_host (if_else t (suc c.number) 0) (host_read places lines a) (InputsFrom e a))
            (if_else t (meaning.host_read c.number (get_or x.places c.number 0) a (get_elem? (get_or sheet c.number []) (get_or x.places c.number 0))) (from_element e a))
        go true h = read_is c.number a (h refl)
        go false h = inputs e a

    input-result : (i : ChannelInput) → SourceIn rows i.channel → P (input_does lines cells places i) (input_result sheet i x)
    unfolding input_does input_result
    input-result i h =
        rw (← same_index i.channel.first i.channel.size i.subscript, ← same_index i.target.name.first i.target.name.size i.target.subscript)
        (received_is i.channel (index x.cells i.channel.first i.channel.size i.subscript) (index x.cells i.target.name.first i.target.name.size i.target.subscript) h)

  -- ---- the options of an ALT

  -- an option before others that come to a reason or offers
  module _ (j q : ℕ) (o : Option ℕ) (os : List Offer) where
    abbrev before : Does → OptionsResult
    before d = result_of (first_of (stop_of d) o) (offers_for sheet x j q d ++ os)

    open_is : (i : Option ChannelInput) → GuardIn rows i → opening j q (input_result_if sheet i x) (result_of o os) ≡ before (guard_does lines cells places q i)
    open_is none h = go o
      where
        go : (o : Option ℕ) → opening j q none (result_of o os) ≡ result_of o (open_offer j q [] ∷ os)
        go none = refl
        go (some k) = refl
    open_is (some i) h = input-result (λ (d : Does) (w : InputResult). admitting j q w (result_of o os) ≡ before d) (λ k. refl) (closed o) (λ a p. read o a p) (λ e a. inputs o e a) i h.0
      where
        closed : (o : Option ℕ) → admitting j q not_yet (result_of o os) ≡ result_of o os
        closed o = refl

        read : (o : Option ℕ) (a p : ℕ) → admitting j q (reads (read_writes sheet x a p)) (result_of o os) ≡ result_of o (open_offer j q (read_writes sheet x a p) ∷ os)
        read none a p = refl
        read (some k) a p = refl

        inputs : (o : Option ℕ) (e a : ℕ) → admitting j q (from_element e a) (result_of o os) ≡ result_of o (input_offer j q e a ∷ os)
        inputs none e a = refl
        inputs (some k) e a = refl

    guarded-is : (v : Value) (i : Option ChannelInput) → GuardIn rows i → guarding j q v (input_result_if sheet i x) (result_of o os) ≡ before (when_true v (guard_does lines cells places q i) Waits)
    guarded-is (Missing k) i h = refl
    guarded-is (Number z) i h = go (is_true z)
      where
        go : (t : Bool) → if_else t (opening j q (input_result_if sheet i x) (result_of o os)) (result_of o os) ≡ before (if_else t (guard_does lines cells places q i) Waits)
        go true = open_is i h
        go false = refl

  abbrev notes : List AltOption → List OptionNote
  notes bs = option_notes lines cells places bs

  options-are : (bs : List AltOption) → OptionsIn rows bs → options_result sheet bs x ≡ result_of (first_stop (notes bs)) (flatten (map (offers_of sheet x) (notes bs)))
  unfolding flatten guarded_does
  options-are [] h = refl
  options-are (b ∷ l) h =
      rw (same b.guard.boolean)
      (ap (guarding b.row b.process (value cells b.guard.boolean) (input_result_if sheet b.guard.input x)) (options-are l h.1)
      ∙ guarded-is b.row b.process (first_stop (notes l)) (flatten (map (offers_of sheet x) (notes l))) (value cells b.guard.boolean) b.guard.input h.0)

  -- an ALT, from what its options would do
  pub alt-stands : (r : ℕ) (bs : List AltOption) → OptionsIn rows bs → selecting r (options_result sheet bs x) ≡ alt_intent sheet x r (notes bs)
  unfolding alt_intent
  alt-stands r bs h = ap (selecting r) (options-are bs h) ∙ selecting-is r (first_stop (notes bs)) (flatten (map (offers_of sheet x) (notes bs)))

  -- ---- the other actions

  module _ (r : ℕ) (ns : List OptionNote) where
    abbrev stand : Does → Intent
    stand d = stands_for sheet x r ns d

    assignment-is : (i : Index) (v : Value) → assigning r i v ≡ stand (assignment i v)
    assignment-is (Fails k) v = refl
    assignment-is (At a) (Missing k) = refl
    assignment-is (At a) (Number v) = refl

    tested-is : (b : ℕ) (v : Value) → testing r b v ≡ stand (tested b v)
    tested-is b (Missing k) = refl
    tested-is b (Number z) = go (is_true z)
      where
        go : (t : Bool) → if_else t (moves b 1 []) (moves r 2 []) ≡ stand (if_else t (Starts b) Ends)
        go true = refl
        go false = refl

    chosen_is : (q : ℕ) (v : Value) (w : Intent) (d : Does) → w ≡ stand d → choosing r q v w ≡ stand (when_true v (Starts q) d)
    chosen_is q (Missing k) w d e = refl
    chosen_is q (Number z) w d e = go (is_true z)
      where
        go : (t : Bool) → if_else t (moves q 1 []) w ≡ stand (if_else t (Starts q) d)
        go true = refl
        go false = e

    tests-are : (ts : List IfChoice) → tests sheet r ts x ≡ stand (choices_do cells ts)
    tests-are [] = refl
    tests-are (t ∷ l) = rw (same t.boolean) (chosen_is t.process (value cells t.boolean) (tests sheet r l x) (choices_do cells l) (tests-are l))

    sent_is : (c : Channel) (i : Index) (v : Sent) → outputting r c x.outputs i v ≡ stand (sent counts (host_note c) c.capacity i v)
    sent_is c (Fails k) v = refl
    sent_is c (At e) (lacking k) = refl
    sent_is c (At e) (gives m) = subst (λ (w : Message). outputting r c x.outputs (At e) (gives w) ≡ stand (handed_on counts (host_note c) c.capacity e (coded m))) (message-back m) (go c.host)
      where
        w : Message
        w = message_in (coded m)

        left : (u : Bool) → if_else u (moves r 2 (write_output c.number (get_or x.outputs c.number [] ++ (w ∷ [])) ∷ [])) waits ≡ stand (if_else u (Writes c.number (coded m)) Waits)
        left true = refl
        left false = refl

        go : (t : Bool) → if_else t (if_else (ltb (length (get_or x.outputs c.number [])) c.capacity) (moves r 2 (write_output c.number (get_or x.outputs c.number [] ++ (w ∷ [])) ∷ [])) waits) (outputs_to e w)
            ≡ stand (on_host (if_else t (suc c.number) 0) (host_write counts c.capacity (coded m)) (OutputsTo e (coded m)))
        go true = rw (held.counts c.number) (left (ltb (get_or counts c.number 0) c.capacity))
        go false = refl

    input-stands : (i : ChannelInput) → SourceIn rows i.channel → inputting r (input_result sheet i x) ≡ stand (input_does lines cells places i)
    input-stands = input-result (λ (d : Does) (w : InputResult). inputting r w ≡ stand d) (λ k. refl) refl (λ a p. refl) (λ e a. refl)

  -- what is found stands for the intent
  pub action-stands : (k : Action) (r : ℕ) → ActionIn rows k → intent sheet k r x ≡ stands_for sheet x r (notes (options_of k)) (does_of lines cells places counts k)
  unfolding does_of output_does intent
  action-stands stop r h = refl
  action-stands skip r h = refl
  action-stands sequence r h = refl
  action-stands parallel r h = refl
  action-stands (assign v e f) r h = rw (same_index v.first v.size e, same f) (assignment-is r [] (index cells v.first v.size e) (value cells f))
  action-stands (input i) r h = input-stands r [] i h.0
  action-stands (output c e f) r h = rw (same_index c.first c.size e, same-passed x.cells cells held.cells f) (sent_is r [] c (index cells c.first c.size e) (passed cells f))
  action-stands (conditional ts) r h = tests-are r [] ts
  action-stands (loop e b) r h = rw (same e) (tested-is r [] b (value cells e))
  action-stands (alternation bs) r h = alt-stands r bs h
  action-stands (block v) r h = refl

  abbrev action : ℕ → Action
  action r = action_of (process_at (program rows) r)

  -- what is found at row r stands for its intent
  pub row-stands : (r : ℕ) → intent sheet (action r) r x ≡ stands_for sheet x r (notes (options_of (action r))) (does_of lines cells places counts (action r))
  row-stands r = action-stands (action r) r (names_in rows r)
