-- The digits of a field from left to right, by what the code tests at each.
use mathlib.Core.Path.{◌≡◌, refl}
use mathlib.Core.Bool.{Bool, true, false}
use mathlib.Core.List.{List, [], ◌∷◌}
use mathlib.Core.Option.{none}
use Prim.Native.Nat.{ℕ, ◌+◌, ◌-◌, ◌*◌, ◌<◌, ◌≤◌}
use native.Mathlib.Numerals.{add-one}
use native.Mathlib.Omega.{arith}
use lib.ListN.{length, get_or, drop, drop_of_length-le}
use lib.Seq.{drop-cons}
use Rattle.std.specs.Prelude.{Some, None}
use Rattle.meaning.specs.Basics.{if_else}
use borrow.Author.Tests.{le-leb, lt-leb}
use Rattle.meaning.specs.Numerals.{is_digit, digits_value}
use Rattle.base_numbers.specs.Reading.{whole_of}

-- a number above 2 ^ 31 is not made smaller by more digits
pub too_large : (n : ℕ) (bs : List ℕ) → 2147483648 < n → whole_of (digits_value n bs) ≡ None
unfolding digits_value
too_large n [] h = simp (lt-leb n 2147483648 h)
too_large n (b ∷ bs) h = go (is_digit b) (too_large (n * 10 + (b - 48)) bs (omega arith))
  where
    go : (t : Bool) → whole_of (digits_value (n * 10 + (b - 48)) bs) ≡ None → whole_of (if_else t (digits_value (n * 10 + (b - 48)) bs) none) ≡ None
    go true e = e
    go false e = refl

module _ (bs : List ℕ) (at value : ℕ) where
  pub no_more : length bs ≤ at → value ≤ 2147483648 → whole_of (digits_value value (drop at bs)) ≡ Some value
  unfolding digits_value
  no_more h l = rw (drop_of_length-le bs h) (simp (le-leb value 2147483648 l))

  module _ (h : at < length bs) where
    pub no_digit : is_digit (get_or bs at 0) ≡ false → digits_value value (drop at bs) ≡ none
    unfolding digits_value
    no_digit e = rw (drop-cons bs at 0 h) (simp e)

    pub one_more : is_digit (get_or bs at 0) ≡ true → digits_value value (drop at bs) ≡ digits_value (value * 10 + (get_or bs at 0 - 48)) (drop (at + 1) bs)
    unfolding digits_value
    one_more e = rw (add-one at, drop-cons bs at 0 h) (simp e)
