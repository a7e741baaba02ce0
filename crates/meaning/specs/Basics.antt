-- Tests over lists and numbers, a choice between two, and the lowest number that passes a test.
use Rattle.std.specs.Prelude.{Bool, true, false, ◌&&◌, ◌||◌, List, [], ◌∷◌, ◌++◌, ℕ, zero, suc, ◌<◌, ℤ, pos, negsuc, eqb}
use Rattle.std.proofs.Math.Option.{Option, none, some}
use Rattle.std.specs.Int.Signed.{le_z}

-- the first where the test holds, else the second
abbrev pub if_else {ℓ} : {A : Type ℓ} → Bool → A → A → A
if_else true a b = a
if_else false a b = b

-- whether two whole numbers are equal
abbrev pub eq_z : ℤ → ℤ → Bool
eq_z (pos a) (pos b) = eqb a b
eq_z (pos a) (negsuc b) = false
eq_z (negsuc a) (pos b) = false
eq_z (negsuc a) (negsuc b) = eqb a b

-- whether a number is from lo to hi
abbrev pub inside : ℤ → ℤ → ℤ → Bool
inside lo hi z = le_z lo z && le_z z hi

-- whether a value is there
abbrev pub is_some {ℓ} : {A : Type ℓ} → Option A → Bool
is_some none = false
is_some (some a) = true

module _ {A : Type 0} where
  -- whether some element passes a test
  unfoldable pub any_passes : (A → Bool) → List A → Bool
  any_passes p [] = false
  any_passes p (x ∷ xs) = p x || any_passes p xs

  -- one more in front, if there is a list
  abbrev pub with_first : A → Option (List A) → Option (List A)
  with_first x none = none
  with_first x (some xs) = some (x ∷ xs)

  -- every value, where each is there
  unfoldable pub all_some : List (Option A) → Option (List A)
  all_some [] = some []
  all_some (none ∷ xs) = none
  all_some (some x ∷ xs) = with_first x (all_some xs)

-- whether a number is in a list
abbrev pub among : ℕ → List ℕ → Bool
among x l = any_passes (eqb x) l

-- whether two lists have a number in common
abbrev pub common : List ℕ → List ℕ → Bool
common l m = any_passes (λ x. among x m) l

-- the lowest of k numbers from `at` on that passes a test
unfoldable pub lowest_from : (ℕ → Bool) → ℕ → ℕ → Option ℕ
lowest_from p at zero = none
lowest_from p at (suc k) = let rest = lowest_from p (suc at) k in if_else (p at) (some at) rest

-- the lowest number below n that passes a test
unfoldable pub lowest : (ℕ → Bool) → ℕ → Option ℕ
lowest p n = lowest_from p 0 n

-- the numbers below n that pass a test, in order
unfoldable pub all_below : (ℕ → Bool) → ℕ → List ℕ
all_below p zero = []
all_below p (suc n) = all_below p n ++ if_else (p n) (n ∷ []) []

-- `o` is the lowest number below n of which P holds, or none if there is none
abbrev pub Lowest : (ℕ → Type 0) → ℕ → Option ℕ → Type 0
Lowest P n none = (i : ℕ) → i < n → ¬ P i
Lowest P n (some i) = (i < n) × P i × ((j : ℕ) → j < i → ¬ P j)
