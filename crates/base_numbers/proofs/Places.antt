-- The place that a subscript means, by the tests on its number: below 0, inside the array, past its end.
use mathlib.Core.Path.{◌≡◌, refl, sym}
use mathlib.Core.Bool.{true, false, false≢true}
use Prim.Native.Nat.{ℕ, ◌+◌, ◌<◌, ◌≤◌}
use native.Mathlib.Omega.{arith}
use lib.IntN.{ℤ, pos, negsuc, nat_abs}
use lib.Signed.{lt_z}
use borrow.Author.Tests.{ltb-true, lt-ltb, le-ltb}
use Rattle.meaning.specs.declared.Value.TheVariants.{Number}
use Rattle.meaning.specs.declared.Index.TheVariants.{At, Fails}
use Rattle.meaning.specs.Values.{in_array}

module _ (first size : ℕ) where
  pub below-zero : (x : ℤ) → lt_z x (pos 0) ≡ true → in_array first size (Number x) ≡ Fails 2
  unfolding in_array
  below-zero (pos n) t = absurd (let h = ltb-true n 0 t in omega arith)
  below-zero (negsuc n) t = refl

  pub inside : (x : ℤ) → lt_z x (pos 0) ≡ false → nat_abs x < size → in_array first size (Number x) ≡ At (first + nat_abs x)
  unfolding in_array
  inside (pos n) t h = simp (lt-ltb n size h)
  inside (negsuc n) t h = absurd (false≢true (sym t))

  pub past_end : (x : ℤ) → lt_z x (pos 0) ≡ false → size ≤ nat_abs x → in_array first size (Number x) ≡ Fails 2
  unfolding in_array
  past_end (pos n) t h = simp (le-ltb n size h)
  past_end (negsuc n) t h = absurd (false≢true (sym t))
