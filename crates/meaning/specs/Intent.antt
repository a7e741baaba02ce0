-- What a running row would do: the values that it needs, in order, and what it does with them.
use Rattle.std.proofs.Math.Option.{Option, none, some}
use Rattle.std.specs.Prelude.{List, [], ◌∷◌, ◌++◌, ℕ, suc, ◌+◌, length, get_or, ltb}
use Rattle.std.proofs.Math.ListN.{get_elem?}
use Rattle.meaning.specs.declared.Value.{Value}
use Rattle.meaning.specs.declared.Value.TheVariants.{Number, Missing}
use Rattle.meaning.specs.declared.Index.{Index}
use Rattle.meaning.specs.declared.Index.TheVariants.{At, Fails}
use Rattle.meaning.specs.Basics.{if_else}
use Rattle.meaning.specs.Declarations.{Channel}
use Rattle.meaning.specs.Tree.{ChannelInput, IfChoice, AltOption, Action, stop, skip, sequence, parallel, assign, input, output, conditional, loop, alternation, block}
use Rattle.meaning.specs.Values.{Message, is_true, value, index, Sent, gives, lacking, passed}
use Rattle.meaning.specs.State.{Store, Write, write_cell, write_place, write_output}
use Rattle.meaning.specs.Readings.{Sheet}

-- what an option of an ALT offers: its row, and the row of its process; with what it writes, or on which element into which cell
pub data Offer : Type 0 where
  open_offer : ℕ → ℕ → List Write → Offer
  input_offer : ℕ → ℕ → ℕ → ℕ → Offer

-- nothing; a step by itself, by which row x becomes v; an input on an element into a cell; an output of a message to an element; options
pub data Intent : Type 0 where
  waits : Intent
  moves : ℕ → ℕ → List Write → Intent
  inputs_from : ℕ → ℕ → Intent
  outputs_to : ℕ → Message → Intent
  selects : List Offer → Intent

-- "a stop": the running row becomes stopped, 10 plus the reason
abbrev pub halts : ℕ → ℕ → Intent
halts r k = moves r (10 + k) []

-- "an assignment; subscript before expression"
abbrev pub assigning : ℕ → Index → Value → Intent
assigning r (Fails k) v = halts r k
assigning r (At a) (Missing k) = halts r k
assigning r (At a) (Number v) = moves r 2 (write_cell a (some v) ∷ [])

-- "false ends it, otherwise its body starts"
abbrev pub testing : ℕ → ℕ → Value → Intent
testing r body (Missing k) = halts r k
testing r body (Number x) = if_else (is_true x) (moves body 1 []) (moves r 2 [])

-- "its first true choice, tests looked at in order and none after it"
abbrev pub choosing : ℕ → ℕ → Value → Intent → Intent
choosing r process (Missing k) later = halts r k
choosing r process (Number x) later = if_else (is_true x) (moves process 1 []) later

-- "a host write, if capacity is left"
abbrev pub host_write : ℕ → Channel → List Message → Message → Intent
host_write r c l v = if_else (ltb (length l) c.capacity) (moves r 2 (write_output c.number (l ++ (v ∷ [])) ∷ [])) waits

-- "output takes channel subscript, then expression"
abbrev pub outputting : ℕ → Channel → List (List Message) → Index → Sent → Intent
outputting r c outputs (Fails k) v = halts r k
outputting r c outputs (At e) (lacking k) = halts r k
outputting r c outputs (At e) (gives m) = if_else c.host (host_write r c (get_or outputs c.number []) m) (outputs_to e m)

-- what an input comes to: a reason for no step, nothing yet, a host read, an input on an element into a cell
pub data InputResult : Type 0 where
  lacks : ℕ → InputResult
  not_yet : InputResult
  reads : List Write → InputResult
  from_element : ℕ → ℕ → InputResult

-- "a host read, if values are left": an absent reading makes the target unset
abbrev pub host_read : ℕ → ℕ → ℕ → Option Message → InputResult
host_read channel n a none = not_yet
host_read channel n a (some v) = reads (write_cell a v ∷ write_place channel (suc n) ∷ [])

-- "Input takes channel subscript, then target subscript"
abbrev pub input_result_of : Sheet → List ℕ → Channel → Index → Index → InputResult
input_result_of sheet places c (Fails k) t = lacks k
input_result_of sheet places c (At e) (Fails k) = lacks k
input_result_of sheet places c (At e) (At a) =
    let n = get_or places c.number 0 in
    if_else c.host (host_read c.number n a (get_elem? (get_or sheet c.number []) n)) (from_element e a)

abbrev pub inputting : ℕ → InputResult → Intent
inputting r (lacks k) = halts r k
inputting r not_yet = waits
inputting r (reads ws) = moves r 2 ws
inputting r (from_element e a) = inputs_from e a

-- the options of an ALT looked at: a reason for no step, or what they offer
pub data OptionsResult : Type 0 where
  fails : ℕ → OptionsResult
  offers : List Offer → OptionsResult

abbrev pub adding : Offer → OptionsResult → OptionsResult
adding o (fails k) = fails k
adding o (offers l) = offers (o ∷ l)

abbrev pub admitting : ℕ → ℕ → InputResult → OptionsResult → OptionsResult
admitting j process (lacks k) l = fails k
admitting j process not_yet l = l
admitting j process (reads ws) l = adding (open_offer j process ws) l
admitting j process (from_element e a) l = adding (input_offer j process e a) l

-- an option whose boolean is true: SKIP, or an input
abbrev pub opening : ℕ → ℕ → Option InputResult → OptionsResult → OptionsResult
opening j process none l = adding (open_offer j process []) l
opening j process (some i) l = admitting j process i l

-- "boolean first; if false the rest of that option isn't looked at"
abbrev pub guarding : ℕ → ℕ → Value → Option InputResult → OptionsResult → OptionsResult
guarding j process (Missing k) i l = fails k
guarding j process (Number x) i l = if_else (is_true x) (opening j process i l) l

abbrev pub selecting : ℕ → OptionsResult → Intent
selecting r (fails k) = halts r k
selecting r (offers l) = selects l

module _ (sheet : Sheet) where
  unfoldable pub input_result : ChannelInput → Store → InputResult
  input_result i x =
      input_result_of sheet x.places i.channel
      (index x.cells i.channel.first i.channel.size i.subscript)
      (index x.cells i.target.name.first i.target.name.size i.target.subscript)

  abbrev pub input_result_if : Option ChannelInput → Store → Option InputResult
  input_result_if none x = none
  input_result_if (some i) x = some (input_result i x)

  abbrev pub tests : ℕ → List IfChoice → Store → Intent
  tests r [] x = waits
  tests r (t ∷ l) x = let later = tests r l x in choosing r t.process (value x.cells t.boolean) later

  -- "In an ALT the options are looked at in order"
  abbrev pub options_result : List AltOption → Store → OptionsResult
  options_result [] x = offers []
  options_result (b ∷ l) x =
      let i = input_result_if b.guard.input x in
      let later = options_result l x in
      guarding b.row b.process (value x.cells b.guard.boolean) i later

  -- what the action of row r would do
  unfoldable pub intent : Action → ℕ → Store → Intent
  intent stop r x = waits
  intent skip r x = waits
  intent sequence r x = waits
  intent parallel r x = waits
  intent (assign v e f) r x = assigning r (index x.cells v.first v.size e) (value x.cells f)
  intent (input i) r x = inputting r (input_result i x)
  intent (output c e f) r x = outputting r c x.outputs (index x.cells c.first c.size e) (passed x.cells f)
  intent (conditional ts) r x = tests r ts x
  intent (loop e b) r x = testing r b (value x.cells e)
  intent (alternation bs) r x = selecting r (options_result bs x)
  intent (block v) r x = waits
