-- Laws of lists: a change of one element behind a front, and images of lists.
use mathlib.Core.Path.{◌≡◌, refl, ap, ◌∙◌}
use mathlib.Core.List.{List, [], ◌∷◌, ◌++◌, map}
use Prim.Native.Nat.{ℕ, zero, suc, ◌+◌}
use native.Mathlib.Omega.{arith}
use lib.ListN.{length, set, take, replicate}

module _ {A : Type 0} where
  pub set_append_right : (xs ys : List A) (i : ℕ) (a : A) → set (xs ++ ys) (length xs + i) a ≡ xs ++ set ys i a
  set_append_right [] ys i a = ap (λ (k : ℕ). set ys k a) (omega arith)
  set_append_right (x ∷ xs) ys i a =
      let e : length (x ∷ xs) + i ≡ suc (length xs + i) = omega arith in
      ap (λ (k : ℕ). set (x ∷ xs ++ ys) k a) e ∙ ap (λ (l : List A). x ∷ l) (set_append_right xs ys i a)

module _ {A B : Type 0} (f : A → B) where
  pub map-set : (l : List A) (i : ℕ) (a : A) → map f (set l i a) ≡ set (map f l) i (f a)
  map-set [] i a = refl
  map-set (x ∷ l) zero a = refl
  map-set (x ∷ l) (suc i) a = ap (λ (m : List B). f x ∷ m) (map-set l i a)

  pub map-replicate : (n : ℕ) (a : A) → map f (replicate n a) ≡ replicate n (f a)
  map-replicate zero a = refl
  map-replicate (suc n) a = ap (λ (l : List B). f a ∷ l) (map-replicate n a)

  pub take-map : (n : ℕ) (l : List A) → take n (map f l) ≡ map f (take n l)
  take-map zero l = refl
  take-map (suc n) [] = refl
  take-map (suc n) (x ∷ l) = ap (λ (m : List B). f x ∷ m) (take-map n l)
