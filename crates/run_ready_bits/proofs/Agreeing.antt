-- Tests that agree below n pass the same numbers there.
use Rattle.std.proofs.Common.{◌≡◌, ℕ, zero, suc, ◌<◌, Bool, List, [], ◌∷◌, ◌++◌, refl, ap₂, arith}
use Rattle.meaning.specs.Basics.{if_else, all_below}

-- no number is below 0
pub below_none : (p : ℕ → Bool) → all_below p 0 ≡ []
unfolding all_below
below_none p = refl

-- one number more
pub below_next : (p : ℕ → Bool) (n : ℕ) → all_below p (suc n) ≡ all_below p n ++ if_else (p n) (n ∷ []) []
unfolding all_below
below_next p n = refl

module _ (p q : ℕ → Bool) where
  -- tests that agree below n pass the same numbers there
  pub below-same : (n : ℕ) → ((j : ℕ) → j < n → p j ≡ q j) → all_below p n ≡ all_below q n
  unfolding all_below
  below-same zero h = refl
  below-same (suc n) h = ap₂ (λ (l : List ℕ) (t : Bool). l ++ if_else t (n ∷ []) []) (below-same n (λ j l. h j (omega arith))) (h n (omega arith))
