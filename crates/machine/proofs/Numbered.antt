-- The numbers below n that pass a test, as a list: how many, which is at a place, and sums over them.
use mathlib.Core.Path.{◌≡◌, refl, sym, ap, ap₂, subst, ◌∙◌}
use mathlib.Core.Bool.{Bool, true, false}
use mathlib.Core.List.{List, [], ◌∷◌, ◌++◌, map, map-append}
use Prim.Native.Nat.{ℕ, zero, suc, ◌+◌, ◌<◌, ◌≤◌}
use native.Mathlib.Omega.{arith}
use native.Mathlib.Decide.{dec_lt}
use lib.ListN.{length, get_or, take, length-append, get_or-append}
use lib.Seq.{take-append-le, get_or-append_seam, take-length}
use Rattle.meaning.specs.Basics.{if_else, all_below}
use Rattle.meaning.specs.Declarations.{sum_below}
use Rattle.machine.specs.Held.{sum_of}

-- a sum up to a higher row has the lower row's number in it
pub sum_past : (f : ℕ → ℕ) (i a : ℕ) → i < a → sum_below f i + f i ≤ sum_below f a
unfolding sum_below
sum_past f i zero l = absurd (omega arith)
sum_past f i (suc a) l = go (dec_lt i a) (sum_past f i a)
  where
    go : Dec (i < a) → (i < a → sum_below f i + f i ≤ sum_below f a) → sum_below f i + f i ≤ sum_below f a + f a
    go (yes h) g = let k = g h in omega arith
    go (no h) g = let e : i ≡ a = omega arith in subst (λ (x : ℕ). sum_below f i + f i ≤ sum_below f x + f x) e (omega arith)

-- a bound on the sums up to each number is one on the whole sum
pub sum_bound : (f : ℕ → ℕ) (limit d : ℕ) → ((r : ℕ) → r < d → sum_below f (suc r) ≤ limit) → sum_below f d ≤ limit
unfolding sum_below
sum_bound f limit zero h = omega arith
sum_bound f limit (suc d) h = h d (omega arith)

sum-append : (l m : List ℕ) → sum_of (l ++ m) ≡ sum_of l + sum_of m
sum-append [] m = omega arith
sum-append (n ∷ l) m = let h = sum-append l m in omega arith

module _ (q : ℕ → Bool) where
  -- how many there are, as a sum
  pub below-count : (f : ℕ → ℕ) → ((r : ℕ) → f r ≡ if_else (q r) 1 0) → (n : ℕ) → length (all_below q n) ≡ sum_below f n
  unfolding all_below sum_below
  below-count f h zero = refl
  below-count f h (suc n) = length-append (all_below q n) (if_else (q n) (n ∷ []) []) ∙ ap₂ (λ (a b : ℕ). a + b) (below-count f h n) (go (q n) ∙ sym (h n))
    where
      go : (t : Bool) → length (if_else t (n ∷ []) []) ≡ if_else t 1 0
      go true = refl
      go false = refl

  -- a sum over them, of what is 0 elsewhere, is the sum over all
  pub below-sum : (f : ℕ → ℕ) → ((r : ℕ) → q r ≡ false → f r ≡ 0) → (n : ℕ) → sum_of (map f (all_below q n)) ≡ sum_below f n
  unfolding all_below sum_below
  below-sum f h zero = refl
  below-sum f h (suc n) =
      ap sum_of (map-append f (all_below q n) (if_else (q n) (n ∷ []) [])) ∙ sum-append (map f (all_below q n)) (map f (if_else (q n) (n ∷ []) [])) ∙ ap₂ (λ (a b : ℕ). a + b) (below-sum f h n) (go (q n) refl)
    where
      go : (t : Bool) → q n ≡ t → sum_of (map f (if_else t (n ∷ []) [])) ≡ f n
      go true e = omega arith
      go false e = sym (h n e)

  below-few : (r n : ℕ) → r ≤ n → length (all_below q r) ≤ length (all_below q n)
  unfolding all_below
  below-few r zero h = let e : r ≡ 0 = omega arith in rw e (omega arith)
  below-few r (suc n) h = go (dec_lt n r) (below-few r n)
    where
      go : Dec (n < r) → (r ≤ n → length (all_below q r) ≤ length (all_below q n)) → length (all_below q r) ≤ length (all_below q n ++ if_else (q n) (n ∷ []) [])
      go (yes l) k = let e : r ≡ suc n = omega arith in rw e (omega arith)
      go (no l) k = omega (arith, k (omega arith), length-append (all_below q n) (if_else (q n) (n ∷ []) []))

  -- those below a lower number come first
  pub below-first : (r n : ℕ) → r ≤ n → take (length (all_below q r)) (all_below q n) ≡ all_below q r
  unfolding all_below
  below-first r zero h = let e : r ≡ 0 = omega arith in rw e
  below-first r (suc n) h = go (dec_lt n r) (below-first r n)
    where
      go : Dec (n < r) → (r ≤ n → take (length (all_below q r)) (all_below q n) ≡ all_below q r) → take (length (all_below q r)) (all_below q n ++ if_else (q n) (n ∷ []) []) ≡ all_below q r
      go (yes l) k = let e : r ≡ suc n = omega arith in rw e (take-length (all_below q n ++ if_else (q n) (n ∷ []) []))
      go (no l) k = take-append-le (length (all_below q r)) (all_below q n) (if_else (q n) (n ∷ []) []) (below-few r n (omega arith)) ∙ k (omega arith)

  -- one that passes the test stands at the place that the number of those below it tells
  pub below-place : (r n d : ℕ) → q r ≡ true → r < n → (length (all_below q r) < length (all_below q n)) × (get_or (all_below q n) (length (all_below q r)) d ≡ r)
  unfolding all_below
  below-place r zero d t h = absurd (omega arith)
  below-place r (suc n) d t h = go (dec_lt r n) (below-place r n d t)
    where
      go : Dec (r < n) → (r < n → (length (all_below q r) < length (all_below q n)) × (get_or (all_below q n) (length (all_below q r)) d ≡ r))
          → (length (all_below q r) < length (all_below q n ++ if_else (q n) (n ∷ []) [])) × (get_or (all_below q n ++ if_else (q n) (n ∷ []) []) (length (all_below q r)) d ≡ r)
      go (yes l) k =
          let (a, b) = k l in
          (omega (arith, length-append (all_below q n) (if_else (q n) (n ∷ []) [])), get_or-append (all_below q n) (if_else (q n) (n ∷ []) []) d (length (all_below q r)) a ∙ b)
      go (no l) k =
          let e : n ≡ r = omega arith in
          rw (e, t) (omega (arith, length-append (all_below q r) (r ∷ [])), get_or-append_seam (all_below q r) r [] d)
