-- Refusals, stages that look for them, and the first stage at fault.
use Rattle.std.specs.Prelude.{List, [], ◌∷◌, ℕ}
use Rattle.std.proofs.Math.Option.{Option, none, some}

-- a refusal: its number and its place
abbrev pub Refusal : Type 0
Refusal = ℕ × ℕ

-- a stage: the refusal that it finds in what it looks at, if any
abbrev pub Stage : Type 0 → Type 0
Stage A = A → Option Refusal

-- the first of two, the second looked at only where it counts
abbrev pub either : Option Refusal → Option Refusal → Option Refusal
either none later = later
either (some f) later = some f

-- the refusal of the first stage that finds one
unfoldable pub first_fault : {A : Type 0} → List (Stage A) → Stage A
first_fault [] x = none
first_fault (s ∷ ss) x = let later = first_fault ss x in either (s x) later
