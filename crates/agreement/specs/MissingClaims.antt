-- Missing stays missing, as types: which steps set and unset a cell, what a step does that needs a value which does not exist,
-- that the number stored for an unset cell is never looked at, and that its printed field is empty.
use Rattle.std.specs.Prelude.{◌≡◌, ◌⊎◌, ◌↔◌, ◌≢◌, true, false, ℕ, ◌+◌, ◌<◌, ◌≤◌, ℤ, pos, length, get_or, take as front}
use Rattle.std.proofs.Math.Option.{none, some}
use mathlib.Core.List.{List, [], ◌∷◌, ◌++◌, Memᴰ}
use Rattle.std.proofs.Math.ListN.{get_elem?}
use Rattle.meaning.specs.declared.Value.TheVariants.{Number, Missing}
use Rattle.meaning.specs.declared.Index.TheVariants.{At, Fails}
use Rattle.meaning.specs.Limits.{max_cells}
use Rattle.meaning.specs.Declarations.{Variable, Channel, sum_below, cells_at, host_channels_at, capacity_at, variables, channels}
use Rattle.meaning.specs.Tree.{Expr, element, monadic, given, dyadic, ChannelInput, IfChoice, AltOption, Action, assign, input, output, conditional, loop, alternation, block, node, Processes}
use Rattle.meaning.specs.Values.{Message, decides, value, index}
use Rattle.meaning.specs.State.{State, Program, program, whole, Effect, changed}
use Rattle.meaning.specs.Usage.{cells_of_variable}
use Rattle.meaning.specs.Settle.{begun, settled}
use Rattle.meaning.specs.SettlingRules.{Inside}
use Rattle.meaning.specs.Labels.{Label, own, pass, take_option, take_with_output}
use Rattle.meaning.specs.Readings.{Sheet}
use Rattle.meaning.specs.Intent.{intent}
use Rattle.meaning.specs.Ready.{ready, after}
use Rattle.meaning.specs.Order.{OrderOf}
use Rattle.meaning.specs.Run.{RunResult, go}
use Rattle.meaning.specs.Buffers.{Buffers, sized, mark, number_in, encode, decoded}
use Rattle.meaning.specs.Answers.{check}
use Rattle.meaning.specs.Printing.{Line, line, var_word, out_word, run_lines, value_bytes}
use Rattle.meaning.specs.Step.{channel_element, Holds, Refuted, Complete, AllComplete, Passes, Lacks, InnerInput, HostInput, InnerOutput, Live, becomes, effect, Allows, Leaves, Step}
use Rattle.agreement.specs.Statements.{Reached}
use Rattle.agreement.specs.RowsOfSteps.{RowOf}

-- a cell of a state: none where it is unset
abbrev pub cell_at : State → ℕ → Message
cell_at s a = get_or s.store.cells a none

-- the list of a host output channel, by its number
abbrev pub list_at : State → ℕ → List Message
list_at s p = get_or s.store.outputs p []

module _ (P : Program) (sheet : Sheet) (s : State) where
  -- the step of a label hands a message to a cell: a rule for each way
  pub data Delivers : Label → ℕ → Message → Type 0 where
    by-assignment : {r a : ℕ} {v : Variable} {e f : Expr} {z : ℤ} → Live P s r (assign v e f)
        → index s.store.cells v.first v.size e ≡ At a → value s.store.cells f ≡ Number z → Delivers (own r) a (some z)
    by-communication : {r o d a : ℕ} {i : ChannelInput} {c : Channel} {e f : Expr} {m : Message} → Live P s r (input i) → Live P s o (output c e f)
        → InnerInput s.store i d a → InnerOutput s.store c e f d m → Delivers (pass r o) a m
    by-reading : {r a n : ℕ} {i : ChannelInput} {v : Message} → Live P s r (input i) → HostInput sheet s.store i a v n → Delivers (own r) a v
    by-option-reading : {r a n : ℕ} {bs : List AltOption} {b : AltOption} {i : ChannelInput} {v : Message} → Live P s r (alternation bs)
        → AllComplete s.store.cells bs → Memᴰ b bs → Holds s.store.cells b.guard.boolean → b.guard.input ≡ some i
        → HostInput sheet s.store i a v n → Delivers (take_option r b.row) a v
    by-option-communication : {r o d a : ℕ} {bs : List AltOption} {b : AltOption} {i : ChannelInput} {c : Channel} {e f : Expr} {m : Message}
        → Live P s r (alternation bs) → AllComplete s.store.cells bs → Memᴰ b bs → Live P s o (output c e f)
        → Holds s.store.cells b.guard.boolean → b.guard.input ≡ some i → InnerInput s.store i d a → InnerOutput s.store c e f d m
        → Delivers (take_with_output r b.row o) a m

  -- the step of a label takes an absence for a cell: an absent reading from the host, or one that an output of an unset element passes
  pub data TakesAbsent : Label → ℕ → Type 0 where
    input-absent : {r a n : ℕ} {i : ChannelInput} → Live P s r (input i) → HostInput sheet s.store i a none n → TakesAbsent (own r) a
    input-passed : {r o d a : ℕ} {i : ChannelInput} {c : Channel} {e f : Expr} → Live P s r (input i) → Live P s o (output c e f)
        → InnerInput s.store i d a → InnerOutput s.store c e f d none → TakesAbsent (pass r o) a
    option-absent : {r a n : ℕ} {bs : List AltOption} {b : AltOption} {i : ChannelInput} → Live P s r (alternation bs)
        → AllComplete s.store.cells bs → Memᴰ b bs → Holds s.store.cells b.guard.boolean → b.guard.input ≡ some i
        → HostInput sheet s.store i a none n → TakesAbsent (take_option r b.row) a
    option-passed : {r o d a : ℕ} {bs : List AltOption} {b : AltOption} {i : ChannelInput} {c : Channel} {e f : Expr}
        → Live P s r (alternation bs) → AllComplete s.store.cells bs → Memᴰ b bs → Live P s o (output c e f)
        → Holds s.store.cells b.guard.boolean → b.guard.input ≡ some i → InnerInput s.store i d a → InnerOutput s.store c e f d none
        → TakesAbsent (take_with_output r b.row o) a

  -- the step of a label writes a message to a host output channel, at the end of its list
  pub data WritesHost : Label → ℕ → Message → Type 0 where
    by-host-write : {r d : ℕ} {c : Channel} {e f : Expr} {m : Message} → Live P s r (output c e f) → c.host ≡ true
        → index s.store.cells c.first c.size e ≡ At d → Passes s.store.cells f m
        → length (get_or s.store.outputs c.number []) < c.capacity → WritesHost (own r) c.number m

-- cell a is one of a variable that has a block in the whole process
pub data LocalCell (P : Program) (a : ℕ) : Type 0 where
  local-cell : {v : Variable} {r : ℕ} {ms : Processes} → Inside (whole P) (node (block v) r ms) → Memᴰ a (cells_of_variable v) → LocalCell P a

-- a block of cell a starts between two states, and is running in the second, where the cell is unset
pub data BlockStarts (P : Program) (s t : State) (a : ℕ) : Type 0 where
  block-started : {v : Variable} {r : ℕ} {ms : Processes} → Inside (whole P) (node (block v) r ms) → Memᴰ a (cells_of_variable v)
      → get_or s.states r 0 ≡ 0 → get_or t.states r 0 ≡ 1 → cell_at t a ≡ none → BlockStarts P s t a

-- the effect of a stop of row r for a reason
abbrev pub stop_effect : ℕ → ℕ → Effect
stop_effect r reason = effect (becomes r r (10 + reason) ∷ []) []

-- a step leaves every cell as it was, but for one to which it hands a message, and which holds the message, and for cells of blocks, which it may unset
abbrev pub SetOnly : Type 0
SetOnly = (P : Program) (sheet : Sheet) (s : State) (x : Label) (t : State) → Step P sheet s x t → (a : ℕ)
    → (cell_at t a ≡ cell_at s a) ⊎ ((m : Message) × Delivers P sheet s x a m × (cell_at t a ≡ m)) ⊎ (LocalCell P a × (cell_at t a ≡ none))

-- of an accepted table it unsets a cell of a block only where that block starts
abbrev pub OnlyStartUnsets : Type 0
OnlyStartUnsets = (rows : List ℤ) → check rows ≡ none → (sheet : Sheet) (s : State) → Reached rows sheet s → (x : Label) (t : State) → Step (program rows) sheet s x t → (a : ℕ)
    → (cell_at t a ≡ cell_at s a) ⊎ ((m : Message) × Delivers (program rows) sheet s x a m × (cell_at t a ≡ m)) ⊎ BlockStarts (program rows) s t a

-- "Starting it unsets all cells of the variable": a block that is idle before a step and not after it
abbrev pub StartUnsets : Type 0
StartUnsets = (rows : List ℤ) → check rows ≡ none → (sheet : Sheet) (s : State) → Reached rows sheet s → (x : Label) (t : State) → Step (program rows) sheet s x t
    → (v : Variable) (r : ℕ) (ms : Processes) → Inside (whole (program rows)) (node (block v) r ms) → get_or s.states r 0 ≡ 0 → get_or t.states r 0 ≢ 0
    → (a : ℕ) → Memᴰ a (cells_of_variable v) → cell_at t a ≡ none

-- a block that starts in the settling of a step and is not running after it, so has ended, or has been made idle again: nothing shows, its cells were unset before
abbrev pub StartAndEndShowsNothing : Type 0
StartAndEndShowsNothing = (rows : List ℤ) → check rows ≡ none → (sheet : Sheet) (s : State) → Reached rows sheet s → let P = program rows in
    (x : Label) (e : Effect) → Allows P sheet s x e → (v : Variable) (r : ℕ) (ms : Processes) → Inside (whole P) (node (block v) r ms)
    → Memᴰ v (begun (whole P) false (changed e s).states) → get_or (settled P e s).states r 0 ≢ 1
    → (a : ℕ) → Memᴰ a (cells_of_variable v) → (cell_at s a ≡ none) × (cell_at (settled P e s) a ≡ none)

-- a cell that holds a number after a step held it before, or the step assigned or input that number
abbrev pub SetByNumber : Type 0
SetByNumber = (P : Program) (sheet : Sheet) (s : State) (x : Label) (t : State) → Step P sheet s x t → (a : ℕ) (z : ℤ)
    → cell_at t a ≡ some z → (cell_at s a ≡ some z) ⊎ Delivers P sheet s x a (some z)

-- a cell that is unset after a step was unset before, or the step took an absent reading or a passed absence for it, or it is a cell of a block
abbrev pub OnlyAbsentUnsets : Type 0
OnlyAbsentUnsets = (P : Program) (sheet : Sheet) (s : State) (x : Label) (t : State) → Step P sheet s x t → (a : ℕ)
    → cell_at t a ≡ none → (cell_at s a ≡ none) ⊎ TakesAbsent P sheet s x a ⊎ LocalCell P a

-- of an accepted table: or its block starts
abbrev pub OnlyTheseUnset : Type 0
OnlyTheseUnset = (rows : List ℤ) → check rows ≡ none → (sheet : Sheet) (s : State) → Reached rows sheet s → (x : Label) (t : State) → Step (program rows) sheet s x t → (a : ℕ)
    → cell_at t a ≡ none → (cell_at s a ≡ none) ⊎ TakesAbsent (program rows) sheet s x a ⊎ BlockStarts (program rows) s t a

-- a step that hands a message to a cell leaves that message in it; where the cell is one of a block, in an accepted table
abbrev pub DeliveredHolds : Type 0
DeliveredHolds = (rows : List ℤ) (sheet : Sheet) (s : State) (x : Label) (t : State) → Step (program rows) sheet s x t → (a : ℕ) (m : Message)
    → Delivers (program rows) sheet s x a m → a < length s.store.cells → (LocalCell (program rows) a → (check rows ≡ none) × Reached rows sheet s) → cell_at t a ≡ m

-- "An empty field is an absent reading: the input takes place and makes its target unset"; of an absence passed on, "The receiver's target becomes unset"
abbrev pub AbsentUnsets : Type 0
AbsentUnsets = (rows : List ℤ) (sheet : Sheet) (s : State) (x : Label) (a : ℕ) → TakesAbsent (program rows) sheet s x a
    → ((e : Effect) × Allows (program rows) sheet s x e)
    × (check rows ≡ none → Reached rows sheet s → (t : State) × Step (program rows) sheet s x t)
    × ((t : State) → Step (program rows) sheet s x t → cell_at t a ≡ none)

-- a step leaves every host output list as it was, but for one to which it writes a message: that list has the message at its end
abbrev pub WrittenOnly : Type 0
WrittenOnly = (P : Program) (sheet : Sheet) (s : State) (x : Label) (t : State) → Step P sheet s x t → (p : ℕ)
    → (list_at t p ≡ list_at s p) ⊎ ((m : Message) × WritesHost P sheet s x p m × (list_at t p ≡ list_at s p ++ (m ∷ [])))

-- an output of an element that is unset inside its array, where its channel's subscript has a value: it never stops; every step of it hands the absence to
-- a cell, which is unset after the step, or to the end of its channel's list; at a host channel with room it has a step, and at a full one none
pub record PassesOn (rows : List ℤ) (sheet : Sheet) (s : State) (r : ℕ) (c : Channel) : Type 0 where
  pub never-stops : (reason : ℕ) → ¬ Allows (program rows) sheet s (own r) (stop_effect r reason)
  pub to_cell : c.host ≡ false → (x : Label) (t : State) → Step (program rows) sheet s x t → RowOf x r
      → (a : ℕ) × TakesAbsent (program rows) sheet s x a × (cell_at t a ≡ none)
  pub to-host : c.host ≡ true → (x : Label) (t : State) → Step (program rows) sheet s x t → RowOf x r
      → WritesHost (program rows) sheet s x c.number none
  pub writes-with-room : c.host ≡ true → length (list_at s c.number) < c.capacity
      → ((e : Effect) × Allows (program rows) sheet s (own r) e) × (check rows ≡ none → Reached rows sheet s → (t : State) × Step (program rows) sheet s (own r) t)
  pub waits-when-full : c.host ≡ true → c.capacity ≤ length (list_at s c.number) → (x : Label) (t : State) → Step (program rows) sheet s x t → ¬ RowOf x r

abbrev pub AbsencePassed : Type 0
AbsencePassed = (rows : List ℤ) (sheet : Sheet) (s : State) (r d : ℕ) (c : Channel) (e f : Expr) → Live (program rows) s r (output c e f)
    → index s.store.cells c.first c.size e ≡ At d → Passes s.store.cells f none → PassesOn rows sheet s r c

-- a number that a cell holds after an order of steps was handed to it by one of them, in the state that the steps before it left
abbrev pub SetInOrder : Type 0
SetInOrder = (rows : List ℤ) (sheet : Sheet) (l : List Label) (s : State) → OrderOf rows sheet l s → (a : ℕ) (z : ℤ) → cell_at s a ≡ some z
    → (before : List Label) × ((x : Label) × ((later : List Label) × ((u : State)
    × ((l ≡ before ++ (x ∷ later)) × OrderOf rows sheet before u × Delivers (program rows) sheet u x a (some z)))))

-- a message of a host output list after an order of steps was written by one of them, when the list held the messages before it
abbrev pub WrittenInOrder : Type 0
WrittenInOrder = (rows : List ℤ) (sheet : Sheet) (l : List Label) (s : State) → OrderOf rows sheet l s → (p i : ℕ) (m : Message) → get_elem? (list_at s p) i ≡ some m
    → (before : List Label) × ((x : Label) × ((later : List Label) × ((u : State)
    × ((l ≡ before ++ (x ∷ later)) × OrderOf rows sheet before u × WritesHost (program rows) sheet u x p m × (length (list_at u p) ≡ i)))))

-- the value of an expression needs a cell that is unset: operands are taken left to right, and one that is not looked at is not needed; GIVEN needs its
-- subscript's value and not its element's
pub data NeedsUnset (cells : List Message) : Expr → Type 0 where
  cell-unset : {v : Variable} {e : Expr} {i : ℕ} → index cells v.first v.size e ≡ At i → get_or cells i none ≡ none → NeedsUnset cells (element v e)
  in-subscript : {v : Variable} {e : Expr} → NeedsUnset cells e → NeedsUnset cells (element v e)
  in-given : {v : Variable} {e : Expr} → NeedsUnset cells e → NeedsUnset cells (given v e)
  in-operand : {op : ℕ} {e : Expr} → NeedsUnset cells e → NeedsUnset cells (monadic op e)
  in-first : {op : ℕ} {e f : Expr} → NeedsUnset cells e → NeedsUnset cells (dyadic op e f)
  in-second : {op : ℕ} {e f : Expr} {x : ℤ} → value cells e ≡ Number x → decides op x ≡ false → NeedsUnset cells f → NeedsUnset cells (dyadic op e f)

-- an expression has no value for reason 1 exactly if it needs an unset cell; so has a subscript
abbrev pub UnsetRead : Type 0
UnsetRead = (cells : List Message) (e : Expr) → (value cells e ≡ Missing 1) ↔ NeedsUnset cells e

abbrev pub UnsetSubscript : Type 0
UnsetSubscript = (cells : List Message) (first n : ℕ) (e : Expr) → (index cells first n e ≡ Fails 1) ↔ NeedsUnset cells e

-- an action lacks a value for one reason
abbrev pub OneReason : Type 0
OneReason = (cells : List Message) (a : Action) (k l : ℕ) → Lacks cells a k → Lacks cells a l → k ≡ l

-- a row has one step, the stop for a reason: a rule allows it, it leads to a state where orders of an accepted table come, and no other step is of the row
abbrev pub OnlyStops : List ℤ → Sheet → State → ℕ → ℕ → Type 0
OnlyStops rows sheet s r reason =
    Allows (program rows) sheet s (own r) (stop_effect r reason)
    × (check rows ≡ none → Reached rows sheet s → (t : State) × Step (program rows) sheet s (own r) t)
    × ((x : Label) (t : State) → Step (program rows) sheet s x t → RowOf x r → (x ≡ own r) × Leaves (program rows) s (stop_effect r reason) t)

-- "An ALT, input or output that would stop offers nothing else": a running row that lacks a value has one step, the stop
abbrev pub LackingOnlyStops : Type 0
LackingOnlyStops = (rows : List ℤ) (sheet : Sheet) (s : State) (r reason : ℕ) (a : Action) → Live (program rows) s r a → Lacks s.store.cells a reason
    → OnlyStops rows sheet s r reason

-- an input needs an unset cell: for its channel's subscript, then for its target's
pub data InputNeedsUnset (cells : List Message) (i : ChannelInput) : Type 0 where
  in-channel : NeedsUnset cells i.subscript → InputNeedsUnset cells i
  in-target : {e : ℕ} → channel_element cells i ≡ At e → NeedsUnset cells i.target.subscript → InputNeedsUnset cells i

-- so do the tests of an IF: the first that is not false
pub data TestNeedsUnset (cells : List Message) : List IfChoice → Type 0 where
  in-test : {t : IfChoice} {l : List IfChoice} → NeedsUnset cells t.boolean → TestNeedsUnset cells (t ∷ l)
  in-later-test : {t : IfChoice} {l : List IfChoice} → Refuted cells t.boolean → TestNeedsUnset cells l → TestNeedsUnset cells (t ∷ l)

-- and the options of an ALT: the first that lacks a value
pub data OptionNeedsUnset (cells : List Message) : List AltOption → Type 0 where
  in-boolean : {b : AltOption} {l : List AltOption} → NeedsUnset cells b.guard.boolean → OptionNeedsUnset cells (b ∷ l)
  in-guard-input : {b : AltOption} {l : List AltOption} {i : ChannelInput} → Holds cells b.guard.boolean → b.guard.input ≡ some i → InputNeedsUnset cells i
      → OptionNeedsUnset cells (b ∷ l)
  in-later-option : {b : AltOption} {l : List AltOption} → Complete cells b → OptionNeedsUnset cells l → OptionNeedsUnset cells (b ∷ l)

-- an expression that is one element
abbrev pub IsElement : Expr → Type 0
IsElement f = (v : Variable) × ((e : Expr) × (f ≡ element v e))

-- an output needs an unset cell for what it passes: an element for its subscript alone, any other expression for its value
pub data PassNeedsUnset (cells : List Message) : Expr → Type 0 where
  in-passed-subscript : {v : Variable} {e : Expr} → NeedsUnset cells e → PassNeedsUnset cells (element v e)
  in-passed-value : {f : Expr} → ¬ IsElement f → NeedsUnset cells f → PassNeedsUnset cells f

-- an action, test or guard needs an unset cell, before any other value that it lacks
pub data ActionNeedsUnset (cells : List Message) : Action → Type 0 where
  assign-to : {v : Variable} {e f : Expr} → NeedsUnset cells e → ActionNeedsUnset cells (assign v e f)
  assign-from : {v : Variable} {e f : Expr} {a : ℕ} → index cells v.first v.size e ≡ At a → NeedsUnset cells f → ActionNeedsUnset cells (assign v e f)
  in-input : {i : ChannelInput} → InputNeedsUnset cells i → ActionNeedsUnset cells (input i)
  output-to : {c : Channel} {e f : Expr} → NeedsUnset cells e → ActionNeedsUnset cells (output c e f)
  output-from : {c : Channel} {e f : Expr} {a : ℕ} → index cells c.first c.size e ≡ At a → PassNeedsUnset cells f → ActionNeedsUnset cells (output c e f)
  in-while : {e : Expr} {b : ℕ} → NeedsUnset cells e → ActionNeedsUnset cells (loop e b)
  in-if : {ts : List IfChoice} → TestNeedsUnset cells ts → ActionNeedsUnset cells (conditional ts)
  in-alt : {bs : List AltOption} → OptionNeedsUnset cells bs → ActionNeedsUnset cells (alternation bs)

-- an action lacks a value for reason 1 exactly if it needs an unset cell
abbrev pub UnsetLacks : Type 0
UnsetLacks = (cells : List Message) (a : Action) → Lacks cells a 1 ↔ ActionNeedsUnset cells a

-- reading an unset cell where a value is needed makes the step a stop with reason 1: it is the row's one step
abbrev pub UnsetStops : Type 0
UnsetStops = (rows : List ℤ) (sheet : Sheet) (s : State) (r : ℕ) (a : Action) → Live (program rows) s r a → ActionNeedsUnset s.store.cells a → OnlyStops rows sheet s r 1

-- cell by cell, the lent buffers hold the mark of the cell and its number
abbrev pub EncodedCells : Type 0
EncodedCells = (rows : List ℤ) (s : State) (b : Buffers) (i : ℕ) → i < max_cells
    → (get_or (encode rows s b).marks i 0 ≡ mark (cell_at s i)) × (get_or (encode rows s b).cells i (pos 0) ≡ number_in (cell_at s i))

-- the lent buffers stand for the cells: filled up with unset ones to the limit; and just these, at their number
abbrev pub EncodedDecodes : Type 0
EncodedDecodes = (rows : List ℤ) (s : State) (b : Buffers)
    → (decoded (front max_cells (encode rows s b).cells) (front max_cells (encode rows s b).marks) ≡ sized max_cells none s.store.cells)
    × (length s.store.cells ≤ max_cells
    → let n = length s.store.cells in
    decoded (front n (encode rows s b).cells) (front n (encode rows s b).marks) ≡ s.store.cells)

-- two arrays of numbers that are equal wherever the mark is not 0
abbrev pub AgreeWhereSet : List ℕ → List ℤ → List ℤ → Type 0
AgreeWhereSet marks v w = (length v ≡ length w) × ((i : ℕ) → get_or marks i 0 ≢ 0 → get_or v i (pos 0) ≡ get_or w i (pos 0))

-- they stand for the same cells: the number stored for an unset cell is never looked at
abbrev pub StoredZeroUnseen : Type 0
StoredZeroUnseen = (marks : List ℕ) (v w : List ℤ) → AgreeWhereSet marks v w → decoded v marks ≡ decoded w marks

-- a state whose cells are given by marks and numbers
abbrev pub state_with : List ℕ → List ℕ → List ℤ → List ℕ → List (List Message) → State
state_with states marks v places outputs = record { states = states; store = record { cells = decoded v marks; places = places; outputs = outputs } }

-- so every value, intent, list of ready steps, step and run from them is the same
abbrev pub SameAnswers : Type 0
SameAnswers = (P : Program) (sheet : Sheet) (states marks places : List ℕ) (outputs : List (List Message)) (v w : List ℤ) → AgreeWhereSet marks v w
    → let s = state_with states marks v places outputs in
    let t = state_with states marks w places outputs in
    ((e : Expr) → value s.store.cells e ≡ value t.store.cells e)
    × ((a : Action) (r : ℕ) → intent sheet a r s.store ≡ intent sheet a r t.store)
    × (ready P sheet s ≡ ready P sheet t)
    × ((x : Label) → after P sheet x s ≡ after P sheet x t)
    × ((budget n : ℕ) (choices : List ℕ) → go P sheet budget n choices s ≡ go P sheet budget n choices t)

-- a printed value is empty exactly if its mark is 0
abbrev pub PrintedEmpty : Type 0
PrintedEmpty = (m : Message) → (value_bytes m ≡ []) ↔ (mark m ≡ 0)

-- the number of a variable's cell, through the table
abbrev pub cell_number : List ℤ → ℕ → ℕ → ℕ
cell_number rows v i = sum_below (cells_at rows) v + i

-- each printed line of a variable is of one of its cells, with that cell's value; its field is empty exactly if the cell's mark in the lent buffers is 0
abbrev pub VariableLines : Type 0
VariableLines = (rows : List ℤ) (r : RunResult) (l : Line) → Memᴰ l (run_lines rows r) → l.what ≡ var_word
    → let a = cell_number rows l.name l.at in
    (l.at < cells_at rows l.name)
    × (l.value ≡ cell_at r.state a)
    × ((b : Buffers) → a < max_cells → (value_bytes l.value ≡ []) ↔ (get_or (encode rows r.state b).marks a 0 ≡ 0))

-- and each cell of a variable has its line
abbrev pub CellsPrinted : Type 0
CellsPrinted = (rows : List ℤ) (r : RunResult) (v i : ℕ) → Memᴰ v (variables rows) → i < cells_at rows v → cell_number rows v i < length r.state.store.cells
    → Memᴰ (line var_word v i (cell_at r.state (cell_number rows v i))) (run_lines rows r)

-- each printed line of a host output is of one message of its channel's list; its field is empty exactly if the message's mark in the lent buffers is 0
abbrev pub OutputLines : Type 0
OutputLines = (rows : List ℤ) (sheet : Sheet) (r : RunResult) → check rows ≡ none → Reached rows sheet r.state → (l : Line)
    → Memᴰ l (run_lines rows r) → l.what ≡ out_word
    → let p = sum_below (host_channels_at 2 rows) l.name in
    let i = sum_below (capacity_at rows) l.name + l.at in
    (get_elem? (list_at r.state p) l.at ≡ some l.value)
    × ((b : Buffers) → (value_bytes l.value ≡ []) ↔ (get_or (encode rows r.state b).output_marks i 0 ≡ 0))

-- and each message of a list has its line
abbrev pub OutputsPrinted : Type 0
OutputsPrinted = (rows : List ℤ) (sheet : Sheet) (r : RunResult) → check rows ≡ none → Reached rows sheet r.state → (c i : ℕ) (m : Message)
    → Memᴰ c (channels rows 2) → get_elem? (list_at r.state (sum_below (host_channels_at 2 rows) c)) i ≡ some m
    → Memᴰ (line out_word c i m) (run_lines rows r)
