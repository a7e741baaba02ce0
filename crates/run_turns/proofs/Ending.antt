-- What it says of the ready steps and the budget that a run does not end.
use mathlib.Core.Path.{◌≡◌, refl}
use mathlib.Core.Bool.{Bool, true, false, ◌||◌, true≢false}
use Prim.Native.Nat.{ℕ, ◌<◌, ◌≤◌}
use native.Mathlib.Omega.{arith}
use lib.Dec.{eqb}
use borrow.Author.Tests.{eqb-false}
use Rattle.run_turns.specs.Ending.{is_last}

-- a step is ready, and budget is left
pub not_last : (count n budget : ℕ) → n ≤ budget → is_last count n budget ≡ false → (count ≡ 0 → ⊥) × (n < budget)
not_last count n budget l e = go (eqb count 0) (eqb n budget) (eqb-false count 0) (eqb-false n budget) e
  where
    go : (t u : Bool) → (t ≡ false → count ≡ 0 → ⊥) → (u ≡ false → n ≡ budget → ⊥) → t || u ≡ false → (count ≡ 0 → ⊥) × (n < budget)
    go true u h k q = absurd (true≢false q)
    go false true h k q = absurd (true≢false q)
    go false false h k q = let d : n ≡ budget → ⊥ = k refl in (h refl, omega arith)
