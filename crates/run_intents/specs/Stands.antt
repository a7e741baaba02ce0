-- Which intent what a row and its options would do stands for, in a store.
use Rattle.std.proofs.Math.Option.{Option, none, some}
use mathlib.Core.List.{List, [], ◌∷◌, ◌++◌, map, flatten}
use Rattle.std.specs.Prelude.{ℕ, suc, get_or}
use Rattle.meaning.specs.Tree.{AltOption, Action, stop, skip, sequence, parallel, assign, input, output, conditional, loop, alternation, block}
use Rattle.meaning.specs.Values.{Message}
use Rattle.meaning.specs.State.{Store, Write, write_cell, write_place, write_output}
use Rattle.meaning.specs.Readings.{Sheet}
use Rattle.meaning.specs.Intent.{Offer, open_offer, input_offer, Intent, waits, moves, halts, inputs_from, outputs_to, selects}
use Rattle.run_values.specs.Sending.{message_in}
use Rattle.run_intents.specs.declared.Does.{Does}
use Rattle.run_intents.specs.declared.Does.TheVariants.{Waits, Stops, Assigns, Ends, Starts, Reads, Writes, InputsFrom, OutputsTo, Selects}
use Rattle.run_intents.specs.Does.{option_does}

-- the row of an option, that of its process, and what the option would do
pub record OptionNote : Type 0 where
  pub row : ℕ
  pub process : ℕ
  pub does : Does

-- the options of an ALT
abbrev pub options_of : Action → List AltOption
options_of stop = []
options_of skip = []
options_of sequence = []
options_of parallel = []
options_of (assign v e f) = []
options_of (input i) = []
options_of (output c e f) = []
options_of (conditional ts) = []
options_of (loop e b) = []
options_of (alternation bs) = bs
options_of (block v) = []

-- what an option would do, with its rows
abbrev pub option_note : ℕ → List Message → List ℕ → AltOption → OptionNote
option_note lines cells places b = record { row = b.row; process = b.process; does = option_does lines cells places b }

-- the same of all options of an ALT, in order
abbrev pub option_notes : ℕ → List Message → List ℕ → List AltOption → List OptionNote
option_notes lines cells places bs = map (option_note lines cells places) bs

-- the reason of an option that lacks a value
abbrev pub stop_of : Does → Option ℕ
stop_of Waits = none
stop_of (Stops k) = some k
stop_of (Assigns a v) = none
stop_of Ends = none
stop_of (Starts q) = none
stop_of (Reads a p) = none
stop_of (Writes p m) = none
stop_of (InputsFrom e a) = none
stop_of (OutputsTo e m) = none
stop_of Selects = none

-- the first of two reasons
abbrev pub first_of : Option ℕ → Option ℕ → Option ℕ
first_of none later = later
first_of (some k) later = some k

-- the first reason in order
abbrev pub first_stop : List OptionNote → Option ℕ
first_stop [] = none
first_stop (n ∷ ns) = first_of (stop_of n.does) (first_stop ns)

-- an ALT of row r stops for the first reason, if there is one, and else selects of what its options offer, in order
abbrev pub unless_stops : ℕ → Option ℕ → List Offer → Intent
unless_stops r none os = selects os
unless_stops r (some k) os = halts r k

module _ (sheet : Sheet) (x : Store) where
  -- what a read of the host writes: the reading at the channel's place into the cell, and the next place
  abbrev pub read_writes : ℕ → ℕ → List Write
  read_writes a p = let n = get_or x.places p 0 in write_cell a (get_or (get_or sheet p []) n none) ∷ write_place p (suc n) ∷ []

  -- what an option of row j offers whose process is row q
  abbrev pub offers_for : ℕ → ℕ → Does → List Offer
  offers_for j q Waits = []
  offers_for j q (Stops k) = []
  offers_for j q (Assigns a v) = []
  offers_for j q Ends = []
  offers_for j q (Starts b) = open_offer j q [] ∷ []
  offers_for j q (Reads a p) = open_offer j q (read_writes a p) ∷ []
  offers_for j q (Writes p m) = []
  offers_for j q (InputsFrom e a) = input_offer j q e a ∷ []
  offers_for j q (OutputsTo e m) = []
  offers_for j q Selects = []

  abbrev pub offers_of : OptionNote → List Offer
  offers_of n = offers_for n.row n.process n.does

  unfoldable pub alt_intent : ℕ → List OptionNote → Intent
  alt_intent r ns = unless_stops r (first_stop ns) (flatten (map offers_of ns))

  -- the intent of row r, whose options are noted so
  abbrev pub stands_for : ℕ → List OptionNote → Does → Intent
  stands_for r ns Waits = waits
  stands_for r ns (Stops k) = halts r k
  stands_for r ns (Assigns a v) = moves r 2 (write_cell a (some v) ∷ [])
  stands_for r ns Ends = moves r 2 []
  stands_for r ns (Starts q) = moves q 1 []
  stands_for r ns (Reads a p) = moves r 2 (read_writes a p)
  stands_for r ns (Writes p m) = moves r 2 (write_output p (get_or x.outputs p [] ++ (message_in m ∷ [])) ∷ [])
  stands_for r ns (InputsFrom e a) = inputs_from e a
  stands_for r ns (OutputsTo e m) = outputs_to e (message_in m)
  stands_for r ns Selects = alt_intent r ns
