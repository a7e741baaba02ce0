-- A buffer with no room.
use mathlib.Core.Path.{◌≡◌, refl}
use mathlib.Core.List.{List, [], ◌∷◌}
use Prim.Native.Nat.{◌≤◌}
use native.Mathlib.Omega.{arith}
use lib.ListN.{length, set}

module _ {A : Type 0} where
  -- a buffer of no length is left as it is
  pub set-nothing : (out : List A) (x : A) → length out ≤ 0 → out ≡ set out 0 x
  set-nothing [] x h = refl
  set-nothing (y ∷ ys) x h = absurd (omega arith)
