-- What is proved of orders and runs: the buyer's demands 2 and 3. Each statement is a type that a proof fills.
-- The steps are those of `Step`, the answer is that of `reply` and `reply_to_bytes`, which the public entries' contracts cite.
use Rattle.std.specs.Prelude.{◌≡◌, false, ◌≢◌, ◌↔◌, ℕ, ◌<◌, ◌≤◌, ℤ, length, get_or}
use Rattle.std.proofs.Math.Option.{none, some}
use mathlib.Core.List.{List, [], ◌++◌, map, Memᴰ}
use Rattle.meaning.specs.declared.Outcome.TheVariants.{Spent}
use Rattle.meaning.specs.declared.Index.TheVariants.{At}
use Rattle.meaning.specs.declared.Answer.TheVariants.{Ran}
use Rattle.meaning.specs.Limits.{max_budget}
use Rattle.meaning.specs.Rows.{row_count, kind_at}
use Rattle.meaning.specs.Declarations.{Channel}
use Rattle.meaning.specs.TableBytes.{bytes_fault, rows_of}
use Rattle.meaning.specs.Tree.{Expr, ChannelInput, AltOption, input, output, alternation}
use Rattle.meaning.specs.Values.{Message, index}
use Rattle.meaning.specs.State.{State, Program, program, Effect}
use Rattle.meaning.specs.Labels.{Label, order_row, Ascending}
use Rattle.meaning.specs.Readings.{Sheet}
use Rattle.meaning.specs.Ready.{ready, after}
use Rattle.meaning.specs.Run.{run}
use Rattle.meaning.specs.Sheet.{sheet_fault, readings}
use Rattle.meaning.specs.Buffers.{Buffers, too_short, encode}
use Rattle.meaning.specs.Answers.{check, Reply, reply, reply_to_bytes}
use Rattle.meaning.specs.Step.{channel_element, Live, Allows, Step}
use Rattle.meaning.specs.Order.{ReadyList, OrderOf, ChosenOf, RestOf, outcome_of}
use Rattle.meaning.specs.Accepted.{BothAccepted}

-- a state that some order of the table on the readings comes to
abbrev pub Reached : List ℤ → Sheet → State → Type 0
Reached rows sheet s = (l : List Label) × OrderOf rows sheet l s

-- a step of a table on readings
abbrev pub StepOf : List ℤ → Sheet → State → Label → State → Type 0
StepOf rows sheet s x t = Step (program rows) sheet s x t

-- Demand 2: steps ---------------------------------------------------------------------------------------------------------------

-- of every table: a step is among the ready steps exactly if a rule allows it, and its effect is one
abbrev pub AllowedExactly : Type 0
AllowedExactly = (rows : List ℤ) (sheet : Sheet) (s : State) → length s.states ≡ row_count rows → (x : Label)
    → (Memᴰ x (ready (program rows) sheet s) ↔ ((e : Effect) × Allows (program rows) sheet s x e))
    × ((e f : Effect) → Allows (program rows) sheet s x e → Allows (program rows) sheet s x f → e ≡ f)

-- where orders come, a step is among the ready steps exactly if it leads to a state, and that state is one
abbrev pub ReadyExactly : Type 0
ReadyExactly = (rows : List ℤ) → check rows ≡ none → (sheet : Sheet) (s : State) → Reached rows sheet s → (x : Label)
    → (Memᴰ x (ready (program rows) sheet s) ↔ ((t : State) × StepOf rows sheet s x t))
    × ((t u : State) → StepOf rows sheet s x t → StepOf rows sheet s x u → t ≡ u)

-- the state that the machine goes to by a ready step is the one that the step leads to
abbrev pub AfterIsStep : Type 0
AfterIsStep = (rows : List ℤ) → check rows ≡ none → (sheet : Sheet) (s : State) → Reached rows sheet s → (x : Label) → Memᴰ x (ready (program rows) sheet s)
    → StepOf rows sheet s x (after (program rows) sheet x s) × ((t : State) → StepOf rows sheet s x t → t ≡ after (program rows) sheet x s)

-- "Ready steps are ordered by row": of an accepted table no two have one row
abbrev pub RowsAscend : Type 0
RowsAscend = (rows : List ℤ) (sheet : Sheet) → BothAccepted rows sheet → (s : State) → Reached rows sheet s
    → Ascending 0 (map order_row (ready (program rows) sheet s))

-- so the machine's list is the list of the ready steps, and no other list is
abbrev pub ReadyListed : Type 0
ReadyListed = (rows : List ℤ) → check rows ≡ none → (sheet : Sheet) (s : State) → Reached rows sheet s
    → (l : List Label) → ReadyList (program rows) sheet s l ↔ (l ≡ ready (program rows) sheet s)

-- how many steps are ready in a state: the length of the list of all that are
abbrev pub ReadyTotal : List ℤ → Sheet → State → ℕ → Type 0
ReadyTotal rows sheet s total = (l : List Label) × ReadyList (program rows) sheet s l × (length l ≡ total)

-- row r could input from element e: an input, or an ALT with such a guard
pub data InputsAt (P : Program) (s : State) (e : ℕ) : ℕ → Type 0 where
  by-input : {r : ℕ} {i : ChannelInput} → Live P s r (input i) → channel_element s.store.cells i ≡ At e → InputsAt P s e r
  by-guard : {r : ℕ} {bs : List AltOption} {b : AltOption} {i : ChannelInput} → Live P s r (alternation bs) → Memᴰ b bs → b.guard.input ≡ some i
      → channel_element s.store.cells i ≡ At e → InputsAt P s e r

-- row r could output to element e
pub data OutputsAt (P : Program) (s : State) (e : ℕ) : ℕ → Type 0 where
  by-output : {r : ℕ} {c : Channel} {f g : Expr} → Live P s r (output c f g) → index s.store.cells c.first c.size f ≡ At e → OutputsAt P s e r

-- each channel element has at most one live input and at most one live output; tables with ALT too
abbrev pub OnePerElement : Type 0
OnePerElement = (rows : List ℤ) (sheet : Sheet) → BothAccepted rows sheet → (s : State) → Reached rows sheet s → (e r q : ℕ)
    → (InputsAt (program rows) s e r → InputsAt (program rows) s e q → r ≡ q)
    × (OutputsAt (program rows) s e r → OutputsAt (program rows) s e q → r ≡ q)

-- Demand 2: runs ----------------------------------------------------------------------------------------------------------------

-- "A run takes the order that its choices pick, up to rest or its budget, and the steps it reports are the length of that order":
-- step i is number (choice i mod count i) of the ready steps (`ChosenOf`); rest is reported exactly if no step is allowed, and spent
-- exactly if the steps equal the budget and one is; the total is how many steps are ready at the end, 0 exactly at rest
abbrev pub RunTakesOrder : Type 0
RunTakesOrder = (rows : List ℤ) → check rows ≡ none → (sheet : Sheet) (choices : List ℕ) (budget : ℕ)
    → let r = run rows sheet choices budget in
    (l : List Label) × OrderOf rows sheet l r.state × ChosenOf rows sheet choices l r.state
    × (length l ≡ r.steps) × (r.steps ≤ budget)
    × ((r.outcome ≢ Spent) ↔ RestOf rows sheet r.state)
    × (RestOf rows sheet r.state → r.outcome ≡ outcome_of rows r.state)
    × ((r.outcome ≡ Spent) ↔ ((r.steps ≡ budget) × ((x : Label) × ((t : State) × StepOf rows sheet r.state x t))))
    × ReadyTotal rows sheet r.state r.ready
    × ((r.ready ≡ 0) ↔ RestOf rows sheet r.state)

-- "Every step so allowed can be chosen": every order is the order of the run with some 16-bit choices and its length as budget
abbrev pub EveryOrderChosen : Type 0
EveryOrderChosen = (rows : List ℤ) (sheet : Sheet) → BothAccepted rows sheet → (l : List Label) (s : State) → OrderOf rows sheet l s
    → (choices : List ℕ) × ((c : ℕ) → Memᴰ c choices → c < 65536)
    × ChosenOf rows sheet choices l s
    × ((run rows sheet choices (length l)).state ≡ s) × ((run rows sheet choices (length l)).steps ≡ length l)

-- Demand 3 ----------------------------------------------------------------------------------------------------------------------

-- "without ALT": no row of kind 34
abbrev pub NoAlt : List ℤ → Type 0
NoAlt rows = (r : ℕ) → r < row_count rows → kind_at rows r ≢ 34

-- the one-step diamond: two different steps of a state can each be followed by the other, to one state
abbrev pub OneStepDiamond : Type 0
OneStepDiamond = (rows : List ℤ) (sheet : Sheet) → BothAccepted rows sheet → NoAlt rows → (s : State) → Reached rows sheet s
    → (x y : Label) (t u : State) → x ≢ y → StepOf rows sheet s x t → StepOf rows sheet s y u
    → (v : State) × StepOf rows sheet t y v × StepOf rows sheet u x v

-- each host output channel's list only grows, at its end
abbrev pub ListsGrow : Type 0
ListsGrow = (rows : List ℤ) (sheet : Sheet) (s t : State) (x : Label) → StepOf rows sheet s x t
    → (channel : ℕ) → (more : List Message) × (get_or t.store.outputs channel [] ≡ get_or s.store.outputs channel [] ++ more)

-- if one order comes to rest in s after n steps: no order is longer, and each at rest has exactly n steps and is in s: equal
-- outcome, cells, set marks, row states, places in the readings and lists, values and absences, since all of these are in the state
abbrev pub OneRest : List ℤ → Sheet → List Label → State → Type 0
OneRest rows sheet l s = (k : List Label) (t : State) → OrderOf rows sheet k t
    → (length k ≤ length l) × (RestOf rows sheet t → (length k ≡ length l) × (t ≡ s) × (outcome_of rows t ≡ outcome_of rows s))

-- the answers to calls, whatever the choices: with a budget of n or more that outcome after n steps with none ready, the seven buffers
-- holding s; with less, spent after as many steps as the budget with some ready
abbrev pub CallsAnswer : (List ℕ → ℕ → Buffers → Reply) → List ℤ → List Label → State → Type 0
CallsAnswer call rows l s = (choices : List ℕ) (budget : ℕ) (b : Buffers) → too_short b ≡ false → budget ≤ max_budget
    → (length l ≤ budget → call choices budget b ≡ record { answer = Ran (outcome_of rows s) (length l) 0; buffers = encode rows s b })
    × (budget < length l → (total : ℕ) × (0 < total) × ((call choices budget b).answer ≡ Ran Spent budget total))

-- demand 3, for rows lent as numbers: one claim about whole orders, of any length
abbrev pub Demand3 : Type 0
Demand3 = (rows : List ℤ) (sheet : List ℕ) → check rows ≡ none → sheet_fault rows sheet ≡ none → NoAlt rows
    → (l : List Label) (s : State) → OrderOf rows (readings rows sheet) l s → RestOf rows (readings rows sheet) s
    → OneRest rows (readings rows sheet) l s
    × CallsAnswer (λ choices budget b. reply (record { rows = rows; sheet = sheet; choices = choices; budget = budget }) b) rows l s

-- demand 3, for a table's bytes
abbrev pub Demand3Bytes : Type 0
Demand3Bytes = (table sheet : List ℕ) → bytes_fault table ≡ none → check (rows_of table) ≡ none → sheet_fault (rows_of table) sheet ≡ none → NoAlt (rows_of table)
    → (l : List Label) (s : State) → OrderOf (rows_of table) (readings (rows_of table) sheet) l s → RestOf (rows_of table) (readings (rows_of table) sheet) s
    → OneRest (rows_of table) (readings (rows_of table) sheet) l s
    × CallsAnswer (λ choices budget b. reply_to_bytes table sheet choices budget b) (rows_of table) l s
