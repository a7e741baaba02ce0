-- Request 10, as types: the kept total is the number of ready steps, and which states a step must have changed before a row's own ready steps change.
use Rattle.std.specs.Prelude.{◌≡◌, ◌↔◌, List, ℕ, ℤ, get_or}
use Rattle.meaning.specs.declared.Node.TheVariants.{Input, Output, Alt, OptionRow, Guard}
use Rattle.meaning.specs.Nodes.{node_at}
use Rattle.meaning.specs.References.{Beneath}
use Rattle.meaning.specs.State.{State, program}
use Rattle.meaning.specs.Labels.{Label, own, pass, take_option, take_with_output, order_row}
use Rattle.meaning.specs.Readings.{Sheet}
use Rattle.meaning.specs.Order.{RestOf}
use Rattle.meaning.specs.Accepted.{BothAccepted}
use Rattle.agreement.specs.Statements.{Reached, StepOf, ReadyTotal}
use Rattle.run_kept.specs.Kept.{total}

-- The total -----------------------------------------------------------------------------------------------------------------------

-- "It equals the full count in every state of an order from the start on, stops and ALT options included, and rest is read from it"
abbrev pub TotalKept : Type 0
TotalKept = (rows : List ℤ) (sheet : Sheet) → BothAccepted rows sheet → (s : State) → Reached rows sheet s
    → ReadyTotal rows sheet s (total (program rows) sheet s) × ((total (program rows) sheet s ≡ 0) ↔ RestOf rows sheet s)

-- A row's own ready steps ---------------------------------------------------------------------------------------------------------

-- the row whose step it is: the row itself; the input of a communication; the ALT, whichever option is taken
abbrev pub owner : Label → ℕ
owner (own r) = r
owner (pass i o) = i
owner (take_option r j) = r
owner (take_with_output r j o) = r

-- a step is ready: it leads to a state
abbrev pub IsReady : List ℤ → Sheet → State → Label → Type 0
IsReady rows sheet s y = (t : State) × StepOf rows sheet s y t

module _ (rows : List ℤ) where
  -- the options of the ALT at row r: its first, and of each the next (after the last, a number past every row)
  pub data OptionOf (r : ℕ) : ℕ → Type 0 where
    option-first : {j : ℕ} → node_at rows r ≡ Alt j → OptionOf r j
    option-next : {j a b c : ℕ} → OptionOf r j → node_at rows j ≡ OptionRow a b c → OptionOf r b

  -- the input that is the guard of the option at row j, or that its guard has beside a boolean
  pub data GuardInput (j : ℕ) : ℕ → Type 0 where
    input-alone : {a b i : ℕ} → node_at rows j ≡ OptionRow a b i → GuardInput j i
    input-guarded : {a b g e i : ℕ} → node_at rows j ≡ OptionRow a b g → node_at rows g ≡ Guard e i → GuardInput j i

  -- "one of its channels": row c is the channel's name in the input or output at row r, or in an input of a guard of the ALT at row r; other rows have none
  pub data ChannelOf (r : ℕ) : ℕ → Type 0 where
    named-by-input : {c b d : ℕ} → node_at rows r ≡ Input c b d → ChannelOf r c
    named-by-output : {c b d : ℕ} → node_at rows r ≡ Output c b d → ChannelOf r c
    named-by-guard : {j i c b d : ℕ} → OptionOf r j → GuardInput j i → node_at rows i ≡ Input c b d → ChannelOf r c

  -- from s to t the same are the states of row r, "of one beneath it", and "of an input, output or ALT on one of its channels"
  pub record Untouched (s t : State) (r : ℕ) : Type 0 where
    pub itself : get_or t.states r 0 ≡ get_or s.states r 0
    pub beneath : (b : ℕ) → Beneath rows r b → get_or t.states b 0 ≡ get_or s.states b 0
    pub on-channels : (p c : ℕ) → ChannelOf r c → ChannelOf p c → get_or t.states p 0 ≡ get_or s.states p 0

-- "A row's own ready steps change only if the step changed the state of that row, of one beneath it, or of an input, output or ALT on one of its channels",
-- where `whose` says of which row a step is
abbrev pub LocalBy : (Label → ℕ) → Type 0
LocalBy whose = (rows : List ℤ) (sheet : Sheet) → BothAccepted rows sheet → (s : State) → Reached rows sheet s → (x : Label) (t : State) → StepOf rows sheet s x t
    → (r : ℕ) → Untouched rows s t r → (y : Label) → whose y ≡ r → IsReady rows sheet s y ↔ IsReady rows sheet t y

-- it is true of owners
abbrev pub OwnStepsLocal : Type 0
OwnStepsLocal = LocalBy owner

-- it is false of the rows by which ready steps are ordered, where a step of an ALT is its option's
abbrev pub NotByOrderRow : Type 0
NotByOrderRow = ¬ LocalBy order_row
