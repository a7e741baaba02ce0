-- What the operators give, by equality, order, sum and product of the whole numbers.
use mathlib.Core.Path.{◌≡◌}
use mathlib.Core.Logic.{◌≢◌, ◌⊎◌}
use mathlib.Core.Bool.{not, ◌&&◌, ◌||◌}
use lib.IntN.{pos, neg_ℤ, ◌+ℤ◌, ◌-ℤ◌, ◌*ℤ◌}
use lib.Signed.{lt_z, le_z, ◌≤ℤ◌, ◌<ℤ◌}
use Rattle.meaning.specs.Basics.{eq_z}
use Rattle.meaning.specs.Values.{is_true, operators, operate, monadic_of}
use Rattle.agreement.specs.ValueClaims.{OperatorsExact}
use Rattle.agreement.proofs.Decided.{told, at-most-decides, less-decides, equal-decides, not-decides, both-decide, either-decides, true-decides, false-decides}
use Rattle.agreement.proofs.Fitting.{exact, division, by_zero, wraps}

pub operators-exact : OperatorsExact
unfolding operate operators monadic_of
operators-exact x y =
    record {
      plus = exact (x +ℤ y);
      minus = exact (x -ℤ y);
      times = exact (x *ℤ y);
      division = division x y;
      by_zero = by_zero x y;
      wrapping-plus = wraps (x +ℤ y);
      wrapping-minus = wraps (x -ℤ y);
      wrapping-times = wraps (x *ℤ y);
      equal = told (eq_z x y) (x ≡ y) (equal-decides x y);
      unequal = told (not (eq_z x y)) (x ≢ y) (not-decides (eq_z x y) (x ≡ y) (equal-decides x y));
      less = told (lt_z x y) (x <ℤ y) (less-decides x y);
      at_most = told (le_z x y) (x ≤ℤ y) (at-most-decides x y);
      more = told (lt_z y x) (y <ℤ x) (less-decides y x);
      at_least = told (le_z y x) (y ≤ℤ x) (at-most-decides y x);
      both = told (is_true x && is_true y) ((x ≢ pos 0) × (y ≢ pos 0)) (both-decide (is_true x) (is_true y) (x ≢ pos 0) (y ≢ pos 0) (true-decides x) (true-decides y));
      either = told (is_true x || is_true y) ((x ≢ pos 0) ⊎ (y ≢ pos 0)) (either-decides (is_true x) (is_true y) (x ≢ pos 0) (y ≢ pos 0) (true-decides x) (true-decides y));
      negated = exact (neg_ℤ x);
      not-true = told (not (is_true x)) (x ≡ pos 0) (false-decides x);
    }
