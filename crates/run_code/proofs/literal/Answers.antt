-- `literal` meets its contract: the sixteen low and the sixteen high bits make a number of 32 bits, less 2,147,483,648.
use mathlib.Core.Path.{◌≡◌, refl, ap₂}
use mathlib.Core.Bool.{Bool, true, false, cond}
use Prim.Native.Nat.{ℕ, suc, ◌+◌, ◌-◌, ◌*◌, ◌<◌}
use native.Mathlib.Omega.{arith}
use lib.IntN.{pos, negsuc, ◌-ℤ◌}
use lib.Signed.{mag}
use lib.Dec.{ltb}
use borrow.Author.Tests.{ltb-false}
use borrow.Author.Rules.{rules}
use mir.Syntax.{w16, w32, w64}
use mir.Val.{Fits, SFits, to_z}
use mir.ValLaws.{to_z-of_z}
use Rattle.run_code.proofs.literal.Goals as goal

-- a number of 32 bits, less 2,147,483,648
lowered : (n : ℕ) → n < 4294967296 → mag (pos n -ℤ pos 2147483648) < 2147483648
lowered n h = go (ltb n 2147483648) refl
  where
    go : (t : Bool) → ltb n 2147483648 ≡ t → mag (cond t (negsuc (2147483648 - suc n)) (pos (n - 2147483648))) < 2147483648
    go true e = omega arith
    go false e = omega (arith, ltb-false n 2147483648 e)

module _ {a b : ℕ} (f : Fits w16 a) (g : Fits w16 b) where
  small : a + 65536 * b < 4294967296
  small = omega (arith, f.fits, g.fits)

  fits : SFits w32 (pos (a + 65536 * b) -ℤ pos 2147483648)
  fits = record { sfits = lowered (a + 65536 * b) small }

  fits-wide : SFits w64 (pos (a + 65536 * b) -ℤ pos 2147483648)
  fits-wide = record { sfits = omega (arith, lowered (a + 65536 * b) small) }

  read : to_z w64 (a + 65536 * b) ≡ pos (a + 65536 * b)
  read = to_z-of_z w64 (pos (a + 65536 * b)) (record { sfits = omega (arith, small) })

pub overflow_sub-result : goal.overflow_sub-result
overflow_sub-result c =
    let f : Fits w16 c.number-low.result = search rules in
    let g : Fits w16 c.number-high.result = search rules in
    rw (read f g) (fits-wide f g)

pub overflow_cast-result-2 : goal.overflow_cast-result-2
overflow_cast-result-2 c =
    let f : Fits w16 c.number-low.result = search rules in
    let g : Fits w16 c.number-high.result = search rules in
    rw (read f g, to_z-of_z w64 _ (fits-wide f g)) (fits f g)

pub returns : goal.returns
returns c =
    let f : Fits w16 c.number-low.result = search rules in
    let g : Fits w16 c.number-high.result = search rules in
    rw (read f g, to_z-of_z w64 _ (fits-wide f g), to_z-of_z w32 _ (fits f g)) (ap₂ (λ (a b : ℕ). pos (a + 65536 * b) -ℤ pos 2147483648) c.number-low.ensures c.number-high.ensures)
