-- What is proved of what the machine may keep between steps, of accepted tables and states that an order reaches, beside what request 10 asks (`ReadyClaims`). Each statement is a type that a proof fills.
use Rattle.std.specs.Prelude.{◌≡◌, ◌⊎◌, ◌↔◌, true, ℕ, ◌+◌, ℤ}
use Rattle.std.proofs.Math.Option.{none, some}
use mathlib.Core.List.{List, Memᴰ}
use Rattle.meaning.specs.Rows.{row_count}
use Rattle.meaning.specs.State.{State, program}
use Rattle.meaning.specs.Labels.{Label, order_row}
use Rattle.meaning.specs.Readings.{Sheet}
use Rattle.meaning.specs.Ready.{is_live, ready}
use Rattle.meaning.specs.Accepted.{BothAccepted}
use Rattle.agreement.specs.Statements.{Reached, StepOf}
use Rattle.agreement.specs.RowsOfSteps.{RowOf, NoneOf}
use Rattle.machine.specs.RowSteps.{alt_of}
use Rattle.run_kept.specs.Kept.{count_below, intent_noted, option_note, waiting_output, waiting_input, ready_row, total, Wants, Moved}
use Rattle.run_kept.specs.Mending.{taken_off, raised_bits, woken}

-- a row's bit is set exactly if a ready step is ordered by that row
abbrev pub RowReady : Type 0
RowReady = (rows : List ℤ) (sheet : Sheet) → BothAccepted rows sheet → (s : State) → Reached rows sheet s → (j : ℕ)
    → (ready_row (program rows) sheet s j ≡ true) ↔ ((x : Label) × Memᴰ x (ready (program rows) sheet s) × (order_row x ≡ j))

-- what a row at work would do, and each option of an ALT at work, stays right until that row steps; every other row is noted anew when it comes to work
abbrev pub NotesKept : Type 0
NotesKept = (rows : List ℤ) (sheet : Sheet) → BothAccepted rows sheet → (s : State) → Reached rows sheet s → (x : Label) (t : State) → StepOf rows sheet s x t → (r : ℕ)
    → (is_live (program rows) sheet r s ≡ true → NoneOf x r → intent_noted (program rows) sheet t r ≡ intent_noted (program rows) sheet s r)
    × ((j : ℕ) → alt_of (program rows) j ≡ some r → is_live (program rows) sheet r s ≡ true → NoneOf x r → option_note (program rows) sheet t j ≡ option_note (program rows) sheet s j)
    × ((intent_noted (program rows) sheet t r ≡ intent_noted (program rows) sheet s r) ⊎ Moved (program rows) sheet s x t r)

-- who waits at an element is the same; or who waited there was of the step; or no one waited and who does is noted anew
abbrev pub WaitsKept : Type 0
WaitsKept = (rows : List ℤ) (sheet : Sheet) → BothAccepted rows sheet → (s : State) → Reached rows sheet s → (x : Label) (t : State) → StepOf rows sheet s x t → (d : ℕ)
    → ((waiting_output (program rows) sheet t d ≡ waiting_output (program rows) sheet s d)
    ⊎ (((r : ℕ) × (waiting_output (program rows) sheet s d ≡ some r) × RowOf x r)
    ⊎ ((r : ℕ) × (waiting_output (program rows) sheet s d ≡ none) × (waiting_output (program rows) sheet t d ≡ some r) × Moved (program rows) sheet s x t r)))
    × ((waiting_input (program rows) sheet t d ≡ waiting_input (program rows) sheet s d)
    ⊎ (((r : ℕ) × (waiting_input (program rows) sheet s d ≡ some r) × RowOf x r)
    ⊎ ((r : ℕ) × (waiting_input (program rows) sheet s d ≡ none) × (waiting_input (program rows) sheet t d ≡ some r) × Moved (program rows) sheet s x t r)))

-- where the sender of a step waited, the receiver was of the step too: no other row loses its partner
abbrev pub NoPartnerLost : Type 0
NoPartnerLost = (rows : List ℤ) (sheet : Sheet) → BothAccepted rows sheet → (s : State) → Reached rows sheet s → (x : Label) (t : State) → StepOf rows sheet s x t → (d p r : ℕ)
    → waiting_output (program rows) sheet s d ≡ some p → RowOf x p → waiting_input (program rows) sheet s d ≡ some r → RowOf x r

-- a row's bit is the same, unless it or its ALT is noted anew, or a sender that is noted anew waits where it wants one
abbrev pub BitsKept : Type 0
BitsKept = (rows : List ℤ) (sheet : Sheet) → BothAccepted rows sheet → (s : State) → Reached rows sheet s → (x : Label) (t : State) → StepOf rows sheet s x t → (j : ℕ)
    → ¬ Moved (program rows) sheet s x t j → ((r : ℕ) → alt_of (program rows) j ≡ some r → ¬ Moved (program rows) sheet s x t r)
    → ((d p : ℕ) → Wants (program rows) sheet s j d → waiting_output (program rows) sheet t d ≡ some p → ¬ Moved (program rows) sheet s x t p)
    → ready_row (program rows) sheet t j ≡ ready_row (program rows) sheet s j

-- the total is mended: the bits of the step's rows are taken off, rows noted anew raise theirs, and senders noted anew wake who waits for them
abbrev pub TotalMended : Type 0
TotalMended = (rows : List ℤ) (sheet : Sheet) → BothAccepted rows sheet → (s : State) → Reached rows sheet s → (x : Label) (t : State) → StepOf rows sheet s x t
    → total (program rows) sheet t + count_below (taken_off (program rows) sheet s x t) (row_count rows)
    ≡ total (program rows) sheet s + count_below (raised_bits (program rows) sheet s x t) (row_count rows) + count_below (woken (program rows) sheet s x t) (row_count rows)
