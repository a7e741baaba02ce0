-- A number without a sign, and one with or without a minus sign, by what the code tests at its first bytes.
use mathlib.Core.Path.{◌≡◌, refl}
use mathlib.Core.Bool.{Bool, true, false, ◌&&◌}
use mathlib.Core.List.{List, [], ◌∷◌}
use mathlib.Core.Option.{Option, none, some}
use Prim.Native.Nat.{ℕ, zero, suc, ◌<◌, ◌≤◌}
use native.Mathlib.Omega.{arith}
use lib.Dec.{eqb, leb}
use lib.ListN.{length, get_or, take, drop}
use lib.Pointwise.{pointwise}
use Rattle.std.specs.Prelude.{Some, None}
use Rattle.meaning.specs.Basics.{if_else}
use borrow.Author.Tests.{eq-eqb, ne_eqb, leb-false, lt-leb}
use Rattle.meaning.specs.Numerals.{digits_value, natural, unsigned, negative, number}
use Rattle.base_numbers.specs.Reading.{whole_of}

pub no-digits : (bs : List ℕ) → length bs < 1 → natural bs ≡ none
unfolding natural
no-digits [] h = refl
no-digits (b ∷ bs) h = absurd (omega arith)

pub leading-zero : (bs : List ℕ) → 2 ≤ length bs → get_or bs 0 0 ≡ 48 → natural bs ≡ none
unfolding natural
leading-zero [] h e = absurd (omega arith)
leading-zero (b ∷ []) h e = absurd (omega arith)
leading-zero (b ∷ c ∷ cs) h e = simp (eq-eqb b 48 e)

pub no-leading-zero : (bs : List ℕ) → 1 ≤ length bs → (get_or bs 0 0 ≡ 48 → length bs ≤ 1) → natural bs ≡ digits_value 0 bs
unfolding natural
no-leading-zero [] h n = absurd (omega arith)
no-leading-zero (b ∷ []) h n = refl
no-leading-zero (b ∷ c ∷ cs) h n = let other : b ≡ 48 → ⊥ = λ e. let l = n e in omega arith in simp (ne_eqb b 48 other)

pub minus-first : (bs : List ℕ) → pointwise eqb (take 1 bs) (45 ∷ []) ≡ true → number bs ≡ negative (natural (drop 1 bs))
unfolding number
minus-first [] e = cc
minus-first (b ∷ bs) e = go (eqb b 45) e
  where
    go : (t : Bool) → t && true ≡ true → if_else t (negative (natural bs)) (unsigned (natural (b ∷ bs))) ≡ negative (natural bs)
    go true e = refl
    go false e = cc

pub no-minus-first : (bs : List ℕ) → pointwise eqb (take 1 bs) (45 ∷ []) ≡ false → number bs ≡ unsigned (natural bs)
unfolding number natural
no-minus-first [] e = refl
no-minus-first (b ∷ bs) e = go (eqb b 45) e
  where
    go : (t : Bool) → t && true ≡ false → if_else t (negative (natural bs)) (unsigned (natural (b ∷ bs))) ≡ unsigned (natural (b ∷ bs))
    go true e = cc
    go false e = refl

-- the bound of 2 ^ 31 in between changes nothing
module _ (o : Option ℕ) where
  pub whole_some : (n : ℕ) → whole_of o ≡ Some n → o ≡ some n
  whole_some n e = go o e
    where
      at : (m : ℕ) (t : Bool) → if_else t (Some m) None ≡ Some n → some m ≡ some n
      at m true e = cc
      at m false e = cc

      go : (o : Option ℕ) → whole_of o ≡ Some n → o ≡ some n
      go none e = cc
      go (some m) e = at m (leb m 2147483648) e

  pub whole_none : whole_of o ≡ None → (unsigned o ≡ none) × (negative o ≡ none)
  whole_none e = go o e
    where
      above : (m : ℕ) → 2147483648 < m → (unsigned (some m) ≡ none) × (negative (some m) ≡ none)
      above zero h = absurd (omega arith)
      above (suc m) h = (simp (lt-leb (suc m) 2147483647 (omega arith)), simp (lt-leb m 2147483647 (omega arith)))

      at : (m : ℕ) (t : Bool) → leb m 2147483648 ≡ t → if_else t (Some m) None ≡ None → (unsigned (some m) ≡ none) × (negative (some m) ≡ none)
      at m true d e = cc
      at m false d e = above m (leb-false m 2147483648 d)

      go : (o : Option ℕ) → whole_of o ≡ None → (unsigned o ≡ none) × (negative o ≡ none)
      go none e = (refl, refl)
      go (some m) e = at m (leb m 2147483648) refl e
