-- What a running row and an option would do, in the forms of the code: from the cells, the places in the readings and how many lines these have, and the counts of the output lists.
use Rattle.std.proofs.Math.Option.{Option, none, some}
use Rattle.std.specs.Prelude.{List, [], ◌∷◌, ℕ, zero, suc, get_or, ltb}
use Rattle.meaning.specs.declared.Value.{Value}
use Rattle.meaning.specs.declared.Value.TheVariants.{Number, Missing}
use Rattle.meaning.specs.declared.Index.{Index}
use Rattle.meaning.specs.declared.Index.TheVariants.{At, Fails}
use Rattle.meaning.specs.Basics.{if_else}
use Rattle.meaning.specs.Declarations.{Channel}
use Rattle.meaning.specs.Tree.{Expr, ChannelInput, IfChoice, AltGuard, AltOption, Action, stop, skip, sequence, parallel, assign, input, output, conditional, loop, alternation, block}
use Rattle.meaning.specs.Values.{Message, is_true, value, index, Sent, gives, lacking, passed}
use Rattle.run_code.specs.Prepared.{host_note}
use Rattle.run_values.specs.Targets.{target_index}
use Rattle.run_values.specs.Sending.{CodeMessage, coded}
use Rattle.run_intents.specs.declared.Does.{Does}
use Rattle.run_intents.specs.declared.Does.TheVariants.{Waits, Stops, Assigns, Ends, Starts, Reads, Writes, InputsFrom, OutputsTo, Selects}

-- from one more than a host channel's number, or 0 (`host_note`): what is done on the host channel, or else
abbrev pub on_host : ℕ → (ℕ → Does) → Does → Does
on_host zero f d = d
on_host (suc p) f d = f p

-- "subscript before expression"
abbrev pub assignment : Index → Value → Does
assignment (Fails k) v = Stops k
assignment (At a) (Missing k) = Stops k
assignment (At a) (Number v) = Assigns a v

-- "false ends it, otherwise its body starts"
abbrev pub tested : ℕ → Value → Does
tested body (Missing k) = Stops k
tested body (Number x) = if_else (is_true x) (Starts body) Ends

-- something is done if a boolean is true, and else something else
abbrev pub when_true : Value → Does → Does → Does
when_true (Missing k) d later = Stops k
when_true (Number x) d later = if_else (is_true x) d later

-- "a host read, if values are left"
abbrev pub host_read : List ℕ → ℕ → ℕ → ℕ → Does
host_read places lines a p = if_else (ltb (get_or places p 0) lines) (Reads a p) Waits

-- "Input takes channel subscript, then target subscript"
abbrev pub received : List ℕ → ℕ → ℕ → Index → Index → Does
received places lines channel (Fails k) t = Stops k
received places lines channel (At e) (Fails k) = Stops k
received places lines channel (At e) (At a) = on_host channel (host_read places lines a) (InputsFrom e a)

-- "a host write, if capacity is left", of a message
abbrev pub host_write : List ℕ → ℕ → CodeMessage → ℕ → Does
host_write counts capacity m p = if_else (ltb (get_or counts p 0) capacity) (Writes p m) Waits

-- the output of a message to element e
abbrev pub handed_on : List ℕ → ℕ → ℕ → ℕ → CodeMessage → Does
handed_on counts channel capacity e m = on_host channel (host_write counts capacity m) (OutputsTo e m)

-- "output takes channel subscript, then expression"
abbrev pub sent : List ℕ → ℕ → ℕ → Index → Sent → Does
sent counts channel capacity (Fails k) v = Stops k
sent counts channel capacity (At e) (lacking k) = Stops k
sent counts channel capacity (At e) (gives m) = handed_on counts channel capacity e (coded m)

-- an output, from the cells
unfoldable pub output_does : List Message → List ℕ → Channel → Expr → Expr → Does
output_does cells counts c e f = sent counts (host_note c) c.capacity (index cells c.first c.size e) (passed cells f)

-- "its first true choice, tests looked at in order and none after it"
abbrev pub choices_do : List Message → List IfChoice → Does
choices_do cells [] = Waits
choices_do cells (t ∷ l) = let later = choices_do cells l in when_true (value cells t.boolean) (Starts t.process) later

module _ (lines : ℕ) (cells : List Message) (places : List ℕ) where
  -- an input, from the cells and the places
  unfoldable pub input_does : ChannelInput → Does
  input_does i = received places lines (host_note i.channel) (index cells i.channel.first i.channel.size i.subscript) (target_index cells i.target)

  -- an open option: SKIP starts its process
  abbrev pub guard_does : ℕ → Option ChannelInput → Does
  guard_does process none = Starts process
  guard_does process (some i) = input_does i

  -- "boolean first; if false the rest of that option isn't looked at"
  unfoldable pub guarded_does : ℕ → AltGuard → Does
  guarded_does process g = when_true (value cells g.boolean) (guard_does process g.input) Waits

  -- an option, by its guard
  abbrev pub option_does : AltOption → Does
  option_does b = guarded_does b.process b.guard

  -- what an action would do; an ALT looks at its options
  unfoldable pub does_of : List ℕ → Action → Does
  does_of counts stop = Waits
  does_of counts skip = Waits
  does_of counts sequence = Waits
  does_of counts parallel = Waits
  does_of counts (assign v e f) = assignment (index cells v.first v.size e) (value cells f)
  does_of counts (input i) = input_does i
  does_of counts (output c e f) = output_does cells counts c e f
  does_of counts (conditional ts) = choices_do cells ts
  does_of counts (loop e b) = tested b (value cells e)
  does_of counts (alternation bs) = Selects
  does_of counts (block v) = Waits
