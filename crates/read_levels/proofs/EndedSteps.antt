-- Levels that may end, from the deepest on.
use mathlib.Core.Path.{◌≡◌, refl, sym, subst, ◌∙◌}
use mathlib.Core.Bool.{Bool, true, false}
use mathlib.Core.List.{List}
use Prim.Native.Nat.{ℕ, zero, suc, ◌+◌, ◌-◌, ◌≤◌, ◌<◌}
use native.Mathlib.Decide.{dec_lt}
use native.Mathlib.Numerals.{add-one}
use native.Mathlib.Omega.{arith}
use lib.ListN.{get_or}
use lib.Dec.{ltb}
use borrow.Author.Tests.{lt-ltb, le-ltb}
use Rattle.meaning.specs.Basics.{if_else}
use Rattle.read_levels.specs.Steps.{ended_to}

module _ (stack : List ℕ) (low : ℕ) where
  -- none is left
  pub ended-low : (d : ℕ) → d ≤ low → ended_to stack low d ≡ true
  unfolding ended_to
  ended-low zero h = refl
  ended-low (suc d) h = rw (lt-ltb d low (omega arith))

  -- the deepest may not end
  pub ended-stops : (d : ℕ) → low < d → 4 ≤ get_or stack (d - 1) 0 → ended_to stack low d ≡ false
  unfolding ended_to
  ended-stops zero h g = absurd (omega arith)
  ended-stops (suc d) h g =
      let e : suc d - 1 ≡ d = omega arith in
      let k : 4 ≤ get_or stack d 0 = rw e at g in
      rw (le-ltb d low (omega arith), le-ltb (get_or stack d 0) 4 k)

  -- it may
  pub ended-goes-on : (d : ℕ) → low < d → get_or stack (d - 1) 0 < 4 → ended_to stack low d ≡ ended_to stack low (d - 1)
  unfolding ended_to
  ended-goes-on zero h g = absurd (omega arith)
  ended-goes-on (suc d) h g =
      let e : suc d - 1 ≡ d = omega arith in
      let k : get_or stack d 0 < 4 = rw e at g in
      rw (e, le-ltb d low (omega arith), lt-ltb (get_or stack d 0) 4 k)

  -- one between may not end
  pub ended-fails : (d e : ℕ) → low ≤ e → e < d → 4 ≤ get_or stack e 0 → ended_to stack low d ≡ false
  unfolding ended_to
  ended-fails zero e h i g = absurd (omega arith)
  ended-fails (suc d) e h i g = go (dec_lt e d) (λ j. ended-fails d e h j g)
    where
      either-way : (t : Bool) → if_else {A = Bool} t false false ≡ false
      either-way true = refl
      either-way false = refl

      go : Dec (e < d) → (e < d → ended_to stack low d ≡ false) → ended_to stack low (suc d) ≡ false
      go (yes j) rest = rw (le-ltb d low (omega arith), rest j) (either-way (ltb (get_or stack d 0) 4))
      go (no j) rest = let z : e ≡ d = omega arith in ended-stops (suc d) (omega arith) (subst (λ (n : ℕ). 4 ≤ get_or stack n 0) (z ∙ sym (let k : suc d - 1 ≡ d = omega arith in k)) g)

  -- one more may end
  pub ended-next : (d : ℕ) → low ≤ d → get_or stack d 0 < 4 → ended_to stack low d ≡ true → ended_to stack low (d + 1) ≡ true
  unfolding ended_to
  ended-next d h g e = rw (add-one d, le-ltb d low h, lt-ltb (get_or stack d 0) 4 g) e

  -- all that are passed may end
  pub ended-all-passed : (depth d : ℕ) → (low ≤ depth → d ≤ depth) → depth ≤ d → ended_to stack low d ≡ true → ended_to stack low depth ≡ true
  ended-all-passed depth d w h e = go (dec_lt depth low)
    where
      go : Dec (depth < low) → ended_to stack low depth ≡ true
      go (yes l) = ended-low depth (omega arith)
      go (no l) = let k = w (omega arith) in let z : d ≡ depth = omega arith in subst (λ (n : ℕ). ended_to stack low n ≡ true) z e
