-- Whether a number names a declaration: by its sign, and by what is known of the row that it means.
use mathlib.Core.Path.{◌≡◌, refl, sym}
use mathlib.Core.Bool.{Bool, true, false, false≢true}
use Prim.Native.Nat.{ℕ, ◌<◌, ◌≤◌}
use native.Mathlib.Omega.{arith}
use lib.IntN.{ℤ, pos, negsuc}
use lib.Signed.{lt_z}
use lib.Dec.{ltb}
use borrow.Author.Tests.{ltb-true, lt-ltb, le-ltb}
use Rattle.meaning.specs.Rows.{natural_of}
use Rattle.meaning.specs.Verdict.{names}
use Rattle.base_kinds.proofs.Truth.{and-false}

module _ (d : ℕ) (test : ℕ → Bool) where
  pub names-negative : (x : ℤ) → lt_z x (pos 0) ≡ true → false ≡ names d test x
  names-negative (pos n) e = absurd (let h = ltb-true n 0 e in omega arith)
  names-negative (negsuc n) e = refl

  -- q is the row that x means
  module _ (q : ℕ) where
    pub names-by-test : (x : ℤ) → lt_z x (pos 0) ≡ false → q ≡ natural_of x → q < d → test q ≡ names d test x
    names-by-test (pos n) e i h = rw (← i, lt-ltb q d h)
    names-by-test (negsuc n) e i h = absurd (false≢true (sym e))

    pub names-past : (x : ℤ) → lt_z x (pos 0) ≡ false → q ≡ natural_of x → d ≤ q → false ≡ names d test x
    names-past (pos n) e i h = rw (← i, le-ltb q d h)
    names-past (negsuc n) e i h = absurd (false≢true (sym e))

    pub names-failing : (x : ℤ) → lt_z x (pos 0) ≡ false → q ≡ natural_of x → test q ≡ false → false ≡ names d test x
    names-failing (pos n) e i h = rw (← i, h) (sym (and-false (ltb q d)))
    names-failing (negsuc n) e i h = absurd (false≢true (sym e))
