-- Rows that are links, rows that are processes; a start that depends on a state.
use Rattle.std.specs.Prelude.{◌≡◌, ◌⊎◌, List, ℕ, ℤ, eqb}
use Rattle.std.proofs.Math.Option.{some}
use Rattle.meaning.specs.Basics.{if_else}
use Rattle.meaning.specs.Tree.{Process, content_at}
use Rattle.machine.specs.Counts.{Kept, start_beneath}
use Rattle.run_code.specs.Prepared.{place_at}

-- what a row is that is a link: to a member, to a choice, to an option
abbrev pub IsLink : ℕ → Type 0
IsLink n = (n ≡ 40) ⊎ (n ≡ 41) ⊎ (n ≡ 42)

-- row m is a link, or nothing stands there
abbrev pub Links : List ℕ → ℕ → Type 0
Links list m = (place_at list m 0 ≡ 0) ⊎ IsLink (place_at list m 0)

-- a process stands at row r
abbrev pub IsProcess : List ℤ → ℕ → Type 0
IsProcess rows r = (p : Process) × ((content_at rows r).process ≡ some p)

-- the process of row r starts its members, or comes to work, if its new state n is "running"
abbrev pub starts_if : ℕ → ℕ → Process → Kept → Kept
starts_if n r p k = if_else (eqb n 1) (start_beneath r p k) k
