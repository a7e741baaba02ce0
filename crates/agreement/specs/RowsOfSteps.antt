-- The rows of a step, the rows of an ALT's options, and the offer of an option.
use Rattle.std.specs.Prelude.{◌≢◌, List, [], ◌∷◌, ℕ, eqb}
use Rattle.std.proofs.Math.Option.{Option, none, some}
use Rattle.meaning.specs.Basics.{if_else}
use Rattle.meaning.specs.Tree.{AltOption, Action, stop, skip, sequence, parallel, assign, input, output, conditional, loop, alternation, block}
use Rattle.meaning.specs.Labels.{Label, own, pass, take_option, take_with_output}
use Rattle.meaning.specs.Intent.{Offer}
use Rattle.meaning.specs.Ready.{option_row}

-- the rows of a step: of a row by itself, that row; of a communication, the input and the output; of an option taken, the ALT, and the output if it inputs from one
pub data RowOf : Label → ℕ → Type 0 where
  of-own : {r : ℕ} → RowOf (own r) r
  of-input : {i o : ℕ} → RowOf (pass i o) i
  of_output : {i o : ℕ} → RowOf (pass i o) o
  of-alt : {r j : ℕ} → RowOf (take_option r j) r
  of-alt-input : {r j o : ℕ} → RowOf (take_with_output r j o) r
  of-alt-output : {r j o : ℕ} → RowOf (take_with_output r j o) o

-- a row is none of a step's
abbrev pub NoneOf : Label → ℕ → Type 0
NoneOf x r = (q : ℕ) → RowOf x q → q ≢ r

-- the rows of some options
abbrev pub rows_of_options : List AltOption → List ℕ
rows_of_options [] = []
rows_of_options (b ∷ l) = b.row ∷ rows_of_options l

-- the rows of an action's options
abbrev pub option_rows : Action → List ℕ
option_rows stop = []
option_rows skip = []
option_rows sequence = []
option_rows parallel = []
option_rows (assign v e f) = []
option_rows (input i) = []
option_rows (output c e f) = []
option_rows (conditional ts) = []
option_rows (loop e b) = []
option_rows (alternation bs) = rows_of_options bs
option_rows (block v) = []

-- the first offer of an option
abbrev pub offer_at : ℕ → List Offer → Option Offer
offer_at j [] = none
offer_at j (o ∷ l) = if_else (eqb (option_row o) j) (some o) (offer_at j l)
