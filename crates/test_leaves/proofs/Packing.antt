-- Answers as numbers with what they leave in a lent buffer, case by case.
use mathlib.Core.Path.{◌≡◌, refl, sym, ap}
use mathlib.Core.Bool.{Bool, true, false}
use mathlib.Core.List.{List, [], ◌∷◌}
use mathlib.Core.Option.{Option, none, some}
use Prim.Native.Nat.{ℕ, zero, suc}
use native.Mathlib.Omega.{arith}
use lib.IntN.{ℤ}
use lib.ListN.{length, set}
use lib.Dec.{eqb}
use borrow.Author.Tests.{eqb-true}
use Rattle.meaning.specs.Basics.{if_else}
use Rattle.test_leaves.specs.Lent.{number_lent, reason_of, copied}

pub number-stored : (z : ℤ) (out : List ℤ) → ¬ (length out ≡ 0) → ◌≡◌ {A = ℕ × List ℤ} (1, set out 0 z) (number_lent (some z) out)
number-stored z [] h = absurd (h refl)
number-stored z (x ∷ out) h = refl

pub number-without-room : (z : ℤ) (out : List ℤ) → length out ≡ 0 → ◌≡◌ {A = ℕ × List ℤ} (0, out) (number_lent (some z) out)
number-without-room z [] h = refl
number-without-room z (x ∷ out) h = absurd (omega arith)

pub reason-given : (k : ℕ) → ¬ (k ≡ 0) → k ≡ reason_of k
reason-given zero h = absurd (h refl)
reason-given (suc k) h = refl

module _ {A : Type 0} where
  -- a buffer keeps its length
  pub copied-length : (list out : List A) → length (copied list out) ≡ length out
  copied-length list out = go (eqb (length out) (length list)) refl
    where
      go : (b : Bool) → eqb (length out) (length list) ≡ b → length (if_else b list out) ≡ length out
      go true e = sym (eqb-true (length out) (length list) e)
      go false e = refl
