-- How many numbers below n pass a test.
use mathlib.Core.Path.{◌≡◌, refl, ap₂}
use mathlib.Core.Bool.{Bool, true, false}
use mathlib.Core.List.{[], ◌∷◌}
use Prim.Native.Nat.{ℕ, zero, suc, ◌+◌, ◌<◌}
use native.Mathlib.Omega.{arith}
use lib.ListN.{length, length-append}
use Rattle.meaning.specs.Basics.{if_else, all_below}
use Rattle.run_kept.specs.Kept.{count_below}

-- as many as the list of them is long
pub count-length : (p : ℕ → Bool) (n : ℕ) → count_below p n ≡ length (all_below p n)
unfolding count_below all_below
count-length p zero = refl
count-length p (suc n) = let h = count-length p n in rw (length-append, ← h) (go (p n))
  where
    go : (t : Bool) → count_below p n + if_else t 1 0 ≡ count_below p n + length (if_else t (n ∷ []) [])
    go true = refl
    go false = refl

-- tests that agree below n count the same
pub count_same : (p q : ℕ → Bool) (n : ℕ) → ((j : ℕ) → j < n → p j ≡ q j) → count_below p n ≡ count_below q n
unfolding count_below
count_same p q zero h = refl
count_same p q (suc n) h = ap₂ (λ (a : ℕ) (t : Bool). a + if_else t 1 0) (count_same p q n (λ j l. h j (omega arith))) (h n (omega arith))

-- a balance at each number is one of the counts
pub count-balance : (a b c d e : ℕ → Bool) (n : ℕ) → ((j : ℕ) → j < n → if_else (a j) 1 0 + if_else (b j) 1 0 ≡ if_else (c j) 1 0 + if_else (d j) 1 0 + if_else (e j) 1 0)
    → count_below a n + count_below b n ≡ count_below c n + count_below d n + count_below e n
unfolding count_below
count-balance a b c d e zero h = refl
count-balance a b c d e (suc n) h = let k = count-balance a b c d e n (λ j l. h j (omega arith)) in let i = h n (omega arith) in omega arith
