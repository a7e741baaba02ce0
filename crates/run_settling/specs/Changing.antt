-- What a step does to the row states, the members left and the lists of rows that come to work and of blocks that start.
use Rattle.std.specs.Prelude.{◌≡◌, List, ℕ, ◌-◌, ℤ}
use Rattle.meaning.specs.State.{program}
use Rattle.machine.specs.Counts.{Kept, kept_of, forgotten, change_up_counted, end_up_counted}
use Rattle.run_starting.specs.Parts.{IsProcess}

-- row `at` is a process, and so is the row of the note `sender`, one more than its number, if there is one
abbrev pub AreProcesses : List ℤ → ℕ → ℕ → Type 0
AreProcesses rows at sender = IsProcess rows at × ((sender ≡ 0 → ⊥) → IsProcess rows (sender - 1))

-- row `at` gets state n, the row of the note `sender` ends, and what follows from that settles; the rows that come to work and the blocks that start by this are listed anew
abbrev pub states_changed : List ℤ → ℕ → ℕ → ℕ → Kept → Kept
states_changed rows at n sender k = end_up_counted (program rows) sender (change_up_counted (program rows) at n (kept_of k.states k.left (forgotten k.came)))
