-- Overlays: numbers stored in a row, a number stored within an overlay, and a row stored before the rows of its fields.
use mathlib.Core.Path.{◌≡◌, sym, ap, ◌∙◌}
use mathlib.Core.List.{List, [], ◌∷◌, ◌++◌, append_assoc}
use Prim.Native.Nat.{ℕ, ◌+◌, ◌≤◌}
use native.Mathlib.Omega.{arith}
use lib.IntN.{ℤ}
use lib.ListN.{length, set, take, drop, length-append}
use lib.Seq.{sets, sets-eq, set_at, length-take-le}
use Rattle.read_expressions.specs.Overlay.{overlay}

-- numbers stored in a row are laid over where they fit
pub sets-laid : (l : List ℤ) (p : ℕ) (xs : List ℤ) → p + length xs ≤ length l → sets l p xs ≡ overlay l p xs
unfolding overlay
sets-laid l p xs h = sets-eq xs l p h ∙ append_assoc (take p l) xs (drop (p + length xs) l)

-- the first number of an overlay stored again
pub set_first : (l : List ℤ) (p : ℕ) (x y : ℤ) (ys : List ℤ) → p ≤ length l → set (overlay l p (x ∷ ys)) p y ≡ overlay l p (y ∷ ys)
unfolding overlay
set_first l p x y ys h = set_at (take p l) x (ys ++ drop (p + length (x ∷ ys)) l) y p (length-take-le p l h)

-- the fourth
pub set-fourth : (l : List ℤ) (p : ℕ) (a b c x y : ℤ) (ys : List ℤ) → p ≤ length l → set (overlay l p (a ∷ b ∷ c ∷ x ∷ ys)) (p + 3) y ≡ overlay l p (a ∷ b ∷ c ∷ y ∷ ys)
unfolding overlay
set-fourth l p a b c x y ys h =
    let d = ys ++ drop (p + length (a ∷ b ∷ c ∷ x ∷ ys)) l in
    let three = a ∷ b ∷ c ∷ [] in
    let e : length (take p l ++ three) ≡ p + 3 = omega (arith, length-append (take p l) three, length-take-le p l h) in
    ap (λ (m : List ℤ). set m (p + 3) y) (sym (append_assoc (take p l) three (x ∷ d)))
    ∙ set_at (take p l ++ three) x d y (p + 3) e
    ∙ append_assoc (take p l) three (y ∷ d)
