-- Sums of capacities, declaration by declaration: where strips begin. They are small.
use mathlib.Core.Path.{◌≡◌, refl}
use mathlib.Core.Option.{none}
use mathlib.Core.List.{List}
use Prim.Native.Nat.{ℕ, ◌+◌, ◌<◌, ◌≤◌}
use native.Mathlib.Omega.{arith}
use native.Mathlib.Numerals.{add-one}
use lib.IntN.{ℤ}
use Rattle.meaning.specs.Declarations.{declarations, sum_below, capacity_at}
use Rattle.meaning.specs.Answers.{check}
use Rattle.machine.proofs.Numbered.{sum_past}
use Rattle.machine.proofs.Declared.{capacities-sum, room}

-- a sum with one row more
pub sum-next : (f : ℕ → ℕ) (r : ℕ) → sum_below f (r + 1) ≡ sum_below f r + f r
unfolding sum_below
sum-next f r = rw add-one

pub sum-none : (f : ℕ → ℕ) → sum_below f 0 ≡ 0
unfolding sum_below
sum-none f = refl

-- the capacities up to a declaration
pub sum-small : (rows : List ℤ) → check rows ≡ none → (r : ℕ) → r < declarations rows → sum_below (capacity_at rows) r + capacity_at rows r ≤ 1024
sum-small rows ok r l = omega (arith, sum_past (capacity_at rows) r (declarations rows) l, (room rows ok).numbers, capacities-sum rows)
