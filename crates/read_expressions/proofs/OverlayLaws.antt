-- Laws of overlays: length, elements, neighbours, and disjoint places.
use mathlib.Core.Path.{◌≡◌, sym, ap, ap₂, ◌∙◌}
use mathlib.Core.List.{List, [], ◌++◌, append_assoc}
use Prim.Native.Nat.{ℕ, ◌+◌, ◌≤◌}
use native.Mathlib.Omega.{arith}
use lib.ListN.{length, take, drop, length-append, length-drop, take-append-drop}
use lib.Seq.{length-take-le, take-append-le, drop-append-add, take-take, drop-drop, take_at, drop_at}
use Rattle.read_expressions.specs.Overlay.{overlay}

module _ {A : Type 0} where
  -- the length stays if there is room
  pub overlay-length : (l : List A) (p : ℕ) (xs : List A) → p + length xs ≤ length l → length (overlay l p xs) ≡ length l
  unfolding overlay
  overlay-length l p xs h =
      let t = length-take-le p l (omega arith) in
      let d = length-drop (p + length xs) l in
      omega (arith, length-append (take p l) (xs ++ drop (p + length xs) l), length-append xs (drop (p + length xs) l), t, d)

  -- nothing laid over
  pub overlay-nothing : (l : List A) (p : ℕ) → overlay l p [] ≡ l
  unfolding overlay
  overlay-nothing l p = let e : p + 0 ≡ p = omega arith in ap (λ (n : ℕ). take p l ++ drop n l) e ∙ take-append-drop p l

  -- an overlay and one directly after it are one
  pub overlay-after : (l : List A) (p : ℕ) (xs ys : List A) → p + length xs + length ys ≤ length l → overlay (overlay l p xs) (p + length xs) ys ≡ overlay l p (xs ++ ys)
  unfolding overlay
  overlay-after l p xs ys h =
      let t = take p l in
      let d = drop (p + length xs) l in
      let e : length (t ++ xs) ≡ p + length xs = omega (arith, length-append t xs, length-take-le p l (omega arith)) in
      let f : p + length xs + length ys ≡ p + length (xs ++ ys) = omega (arith, length-append xs ys) in
      let g : p + length xs + length ys ≡ length (t ++ xs) + length ys = omega (arith, e) in
      ap (λ (m : List A). take (p + length xs) m ++ (ys ++ drop (p + length xs + length ys) m)) (sym (append_assoc t xs d))
      ∙ ap₂ (λ (m w : List A). m ++ (ys ++ w)) (take_at (t ++ xs) d (p + length xs) e)
      (ap (λ (n : ℕ). drop n ((t ++ xs) ++ d)) g ∙ drop-append-add (t ++ xs) d (length ys) ∙ drop-drop (length ys) (p + length xs) l ∙ ap (λ (n : ℕ). drop n l) f)
      ∙ append_assoc t xs (ys ++ drop (p + length (xs ++ ys)) l)
      ∙ ap (λ (m : List A). t ++ m) (sym (append_assoc xs ys (drop (p + length (xs ++ ys)) l)))

  -- an overlay and one directly before it are one
  pub overlay-before : (l : List A) (p : ℕ) (xs ys : List A) → p + length xs + length ys ≤ length l → overlay (overlay l (p + length xs) ys) p xs ≡ overlay l p (xs ++ ys)
  unfolding overlay
  overlay-before l p xs ys h =
      let q = p + length xs in
      let w = ys ++ drop (q + length ys) l in
      let e : length (take q l) ≡ q = length-take-le q l (omega arith) in
      let f : q + length ys ≡ p + length (xs ++ ys) = omega (arith, length-append xs ys) in
      ap₂ (λ (m n : List A). m ++ (xs ++ n)) (take-append-le p (take q l) w (omega (arith, e)) ∙ take-take p q l (omega arith)) (drop_at (take q l) w q e)
      ∙ ap (λ (m : List A). take p l ++ m) (sym (append_assoc xs ys (drop (q + length ys) l)) ∙ ap (λ (n : ℕ). (xs ++ ys) ++ drop n l) f)
