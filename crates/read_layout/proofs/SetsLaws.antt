-- Numbers stored in a row: those stored behind them join them, and those stored elsewhere can be stored before or after.
use mathlib.Core.Path.{◌≡◌, refl, ap, ◌∙◌}
use mathlib.Core.List.{List, [], ◌∷◌, ◌++◌}
use Prim.Native.Nat.{ℕ, suc, ◌+◌, ◌≤◌, ◌<◌}
use native.Mathlib.Omega.{arith}
use lib.ListN.{length, set}
use lib.Seq.{sets, set_comm}

module _ {A : Type 0} where
  -- at the place behind the first
  pub sets-join : (xs ys l : List A) (i j : ℕ) → j ≡ i + length xs → sets (sets l i xs) j ys ≡ sets l i (xs ++ ys)
  sets-join [] ys l i j e = ap (λ (k : ℕ). sets l k ys) (omega (arith, e))
  sets-join (x ∷ xs) ys l i j e = sets-join xs ys (set l i x) (suc i) j (omega (arith, e))

  pub set_before : (ys l : List A) (i j : ℕ) (x : A) → i < j → set (sets l j ys) i x ≡ sets (set l i x) j ys
  set_before [] l i j x h = refl
  set_before (y ∷ ys) l i j x h =
      set_before ys (set l j y) i (suc j) x (omega (arith, h)) ∙ ap (λ (m : List A). sets m (suc j) ys) (set_comm l j i y x (λ e. omega (arith, h, e)))

  -- at places further on
  pub sets-swap : (xs ys l : List A) (i j : ℕ) → i + length xs ≤ j → sets (sets l j ys) i xs ≡ sets (sets l i xs) j ys
  sets-swap [] ys l i j h = refl
  sets-swap (x ∷ xs) ys l i j h =
      ap (λ (m : List A). sets m (suc i) xs) (set_before ys l i j x (omega (arith, h))) ∙ sets-swap xs ys (set l i x) (suc i) j (omega (arith, h))
