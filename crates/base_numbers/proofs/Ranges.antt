-- What an operation on two 32-bit numbers gives fits in 64 bits, and is read back from its bits.
use mathlib.Core.Path.{◌≡◌, refl, ◌∙◌}
use mathlib.Core.Bool.{Bool, true, false, cond}
use Prim.Native.Nat.{ℕ, zero, suc, ◌+◌, ◌-◌, ◌*◌, ◌/◌, ◌<◌, ◌≤◌}
use native.Mathlib.Nat.{mul-le-mul, div-le_self, le_trans, lt_of_le_of_lt}
use native.Mathlib.Omega.{arith}
use lib.IntN.{ℤ, pos, negsuc, ◌+ℤ◌, ◌-ℤ◌, ◌*ℤ◌, neg_ℤ, nat_abs, sub_ℕ}
use lib.Signed.{lt_z, quot_z, rem_z, mag, nat_abs-le, mag_rem}
use lib.Dec.{ltb}
use borrow.Author.Tests.{ltb-false, le-ltb}
use Rattle.meaning.specs.declared.Value.TheVariants.{Number, Missing}
use Rattle.meaning.specs.Values.{fitted}
use mir.Syntax.{w32, w64}
use mir.Val.{SFits, to_z, of_z}
use mir.ValLaws.{to_z-of_z}

-- a number that is neither below nor above the range
pub in-range : (z : ℤ) → lt_z z (negsuc 2147483647) ≡ false → lt_z (pos 2147483647) z ≡ false → SFits w32 z
in-range (pos n) l h = record { sfits = omega (arith, ltb-false 2147483647 n h) }
in-range (negsuc n) l h = record { sfits = omega (arith, ltb-false 2147483647 n l) }

-- the tests of `fitted` are whether 32 bits hold a number
pub fitted-fits : (z : ℤ) → SFits w32 z → fitted z ≡ Number z
unfolding fitted
fitted-fits (pos n) f = simp (le-ltb 2147483647 n (let b = f.sfits in omega (arith, b)))
fitted-fits (negsuc n) f = simp (le-ltb 2147483647 n (let b = f.sfits in omega (arith, b)))

pub fitted-unfit : (z : ℤ) → (SFits w32 z → ⊥) → fitted z ≡ Missing 3
unfolding fitted
fitted-unfit z h = go (lt_z z (negsuc 2147483647)) refl (lt_z (pos 2147483647) z) refl
  where
    go : (s : Bool) → lt_z z (negsuc 2147483647) ≡ s → (t : Bool) → lt_z (pos 2147483647) z ≡ t → fitted z ≡ Missing 3
    go true i t j = rw i
    go false i true j = rw (i, j)
    go false i false j = absurd (h (in-range z i j))

pub wider : {z : ℤ} → SFits w32 z → SFits w64 z
wider f = record { sfits = omega arith }

pub magnitude-of-negated : (n : ℕ) → mag (neg_ℤ (pos n)) ≤ n
magnitude-of-negated zero = omega arith
magnitude-of-negated (suc n) = omega arith

magnitude-of-gap : (a b : ℕ) → mag (sub_ℕ a b) ≤ a + b
magnitude-of-gap a b = go (ltb a b)
  where
    go : (t : Bool) → mag (cond t (negsuc (b - suc a)) (pos (a - b))) ≤ a + b
    go true = omega arith
    go false = omega arith

magnitude-of-sum : (x y : ℤ) → mag (x +ℤ y) ≤ nat_abs x + nat_abs y
magnitude-of-sum (pos a) (pos b) = omega arith
magnitude-of-sum (pos a) (negsuc b) = magnitude-of-gap a (suc b)
magnitude-of-sum (negsuc a) (pos b) = omega (arith, magnitude-of-gap b (suc a))
magnitude-of-sum (negsuc a) (negsuc b) = omega arith

absolute-of-negated : (x : ℤ) → nat_abs (neg_ℤ x) ≡ nat_abs x
absolute-of-negated (pos zero) = refl
absolute-of-negated (pos (suc n)) = refl
absolute-of-negated (negsuc n) = refl

magnitude-of-product : (x y : ℤ) → mag (x *ℤ y) ≤ nat_abs x * nat_abs y
magnitude-of-product (pos a) (pos b) = omega arith
magnitude-of-product (pos a) (negsuc b) = magnitude-of-negated (a * suc b)
magnitude-of-product (negsuc a) (pos b) = magnitude-of-negated (suc a * b)
magnitude-of-product (negsuc a) (negsuc b) = omega arith

magnitude-of-quotient : (x y : ℤ) → mag (quot_z x y) ≤ nat_abs x
magnitude-of-quotient (pos a) (pos b) = div-le_self a b
magnitude-of-quotient (pos a) (negsuc b) = le_trans (magnitude-of-negated (a / suc b)) (div-le_self a (suc b))
magnitude-of-quotient (negsuc a) (pos b) = le_trans (magnitude-of-negated (suc a / b)) (div-le_self (suc a) b)
magnitude-of-quotient (negsuc a) (negsuc b) = div-le_self (suc a) (suc b)

module _ {x y : ℤ} (fx : SFits w32 x) (fy : SFits w32 y) where
  pub sum_fits : SFits w64 (x +ℤ y)
  sum_fits = record { sfits = omega (arith, magnitude-of-sum x y, nat_abs-le x fx.sfits, nat_abs-le y fy.sfits) }

  pub difference-fits : SFits w64 (x -ℤ y)
  difference-fits =
      record { sfits = omega (arith, magnitude-of-sum x (neg_ℤ y), absolute-of-negated y, nat_abs-le x fx.sfits, nat_abs-le y fy.sfits) }

  pub product-fits : SFits w64 (x *ℤ y)
  product-fits =
      record {
        sfits =
            lt_of_le_of_lt (le_trans (magnitude-of-product x y) (mul-le-mul (nat_abs-le x fx.sfits) (nat_abs-le y fy.sfits)))
            (lib.Dec.lit< tt);
      }

  pub quotient_fits : SFits w64 (quot_z x y)
  quotient_fits = record { sfits = omega (arith, magnitude-of-quotient x y, nat_abs-le x fx.sfits) }

  pub remainder-fits : SFits w64 (rem_z x y)
  remainder-fits = wider (record { sfits = lt_of_le_of_lt (mag_rem x y) fx.sfits })

-- a 32-bit number, read back from its bits at 64
abbrev pub widened : ℤ → ℤ
widened x = to_z w64 (of_z w64 (to_z w32 (of_z w32 x)))

pub widened_is : {x : ℤ} → SFits w32 x → widened x ≡ x
widened_is {x} f = rw (to_z-of_z w32 x f) (to_z-of_z w64 x (wider f))

pub cast_fits : {x : ℤ} → SFits w32 x → SFits w64 (to_z w32 (of_z w32 x))
cast_fits {x} f = rw (to_z-of_z w32 x f) (wider f)

-- what a function makes of two 32-bit numbers that it is passed
pub passed : {A : Type 0} {x y : ℤ} → SFits w32 x → SFits w32 y → (f : ℤ → ℤ → A) → f (to_z w32 (of_z w32 x)) (to_z w32 (of_z w32 y)) ≡ f x y
passed {x = x} {y = y} fx fy f = rw (to_z-of_z w32 x fx, to_z-of_z w32 y fy)

-- what a function of 64 bits hands on of two 32-bit numbers that it is passed
pub handed-on : {x y r : ℤ} → SFits w32 x → SFits w32 y → (op : ℤ → ℤ → ℤ) → SFits w64 r → r ≡ op (to_z w32 (of_z w32 x)) (to_z w32 (of_z w32 y)) → to_z w64 (of_z w64 r) ≡ op x y
handed-on {r = r} fx fy op f e = to_z-of_z w64 r f ∙ e ∙ passed fx fy op

-- an operation of 64 bits on two numbers of 32
module _ {x y : ℤ} (fx : SFits w32 x) (fy : SFits w32 y) (op : ℤ → ℤ → ℤ) where
  pub operation-fits : SFits w64 (op x y) → SFits w64 (op (widened x) (widened y))
  operation-fits f = rw (widened_is fx, widened_is fy) f

  pub operation-gives : SFits w64 (op x y) → to_z w64 (of_z w64 (op (widened x) (widened y))) ≡ op x y
  operation-gives f = rw (widened_is fx, widened_is fy) (to_z-of_z w64 (op x y) f)

pub divisor-positive : (y : ℤ) → SFits w32 y → (of_z w32 y ≡ 0 → ⊥) → 0 < of_z w64 (to_z w32 (of_z w32 y))
divisor-positive y f h = rw (to_z-of_z w32 y f) (go y f h)
  where
    go : (y : ℤ) → SFits w32 y → (of_z w32 y ≡ 0 → ⊥) → 0 < of_z w64 y
    go (pos n) f h = omega arith
    go (negsuc n) f h = let b = f.sfits in omega (arith, b)
