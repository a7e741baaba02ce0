-- Laws of lists: each of a list, of parts of it, at a place.
use mathlib.Core.List.{List, [], ◌∷◌, ◌++◌}
use Prim.Native.Nat.{ℕ, zero, suc}
use lib.ListN.{get_or, take, drop}
use Rattle.meaning.specs.PrintedForms.{Each, each_none, each_more}

module _ {A : Type 0} {P : A → Type 0} where
  pub each_at : (d : A) → P d → {l : List A} → Each P l → (i : ℕ) → P (get_or l i d)
  each_at d h each_none i = h
  each_at d h (each_more p g) zero = p
  each_at d h (each_more p g) (suc i) = each_at d h g i

  pub each_of : (d : A) (l : List A) → ((i : ℕ) → P (get_or l i d)) → Each P l
  each_of d [] h = each_none
  each_of d (x ∷ l) h = each_more (h 0) (each_of d l (λ i. h (suc i)))

  pub each_both : {l m : List A} → Each P l → Each P m → Each P (l ++ m)
  each_both each_none h = h
  each_both (each_more p g) h = each_more p (each_both g h)

  pub each_take : (n : ℕ) {l : List A} → Each P l → Each P (take n l)
  each_take zero h = each_none
  each_take (suc n) each_none = each_none
  each_take (suc n) (each_more p h) = each_more p (each_take n h)

  pub each-drop : (n : ℕ) {l : List A} → Each P l → Each P (drop n l)
  each-drop zero h = h
  each-drop (suc n) each_none = each_none
  each-drop (suc n) (each_more p h) = each-drop n h
