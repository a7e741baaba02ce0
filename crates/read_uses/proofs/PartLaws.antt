-- A list with a part replaced.
use mathlib.Core.Path.{◌≡◌, sym, ap, ◌∙◌}
use mathlib.Core.List.{List, ◌++◌}
use Prim.Native.Nat.{ℕ, ◌+◌, ◌-◌, ◌≤◌}
use native.Mathlib.Omega.{arith}
use lib.ListN.{length, take, drop, length-append, length-drop}
use lib.Seq.{length-take-le, take_at, drop_at, drop-drop}
use Rattle.read_tokens.specs.Held.{part}

module _ {A : Type 0} (xs ys : List A) (a b : ℕ) (h : a ≤ b) (w : b ≤ length xs) (l : length ys ≡ b - a) where
  -- a part replaced
  abbrev replaced : List A
  replaced = take a xs ++ (ys ++ drop (b - a) (drop a xs))

  first-length : length (take a xs) ≡ a
  first-length = length-take-le a xs (omega (arith, h, w))

  -- the elements before it, itself, and those after it
  pub replaced-before : take a replaced ≡ take a xs
  replaced-before = take_at (take a xs) (ys ++ drop (b - a) (drop a xs)) a first-length

  pub replaced-part : part replaced a b ≡ ys
  replaced-part = ap (take (b - a)) (drop_at (take a xs) (ys ++ drop (b - a) (drop a xs)) a first-length) ∙ take_at ys (drop (b - a) (drop a xs)) (b - a) l

  pub replaced-after : drop b replaced ≡ drop b xs
  replaced-after =
      let e : a + (b - a) ≡ b = omega (arith, h) in
      ap (λ (n : ℕ). drop n replaced) (sym e)
      ∙ sym (drop-drop (b - a) a replaced)
      ∙ ap (drop (b - a)) (drop_at (take a xs) (ys ++ drop (b - a) (drop a xs)) a first-length)
      ∙ drop_at ys (drop (b - a) (drop a xs)) (b - a) l
      ∙ drop-drop (b - a) a xs
      ∙ ap (λ (n : ℕ). drop n xs) e

  pub replaced-length : length replaced ≡ length xs
  replaced-length =
      let p = length-append (take a xs) (ys ++ drop (b - a) (drop a xs)) in
      let q = length-append ys (drop (b - a) (drop a xs)) in
      let r = length-drop (b - a) (drop a xs) in
      let s = length-drop a xs in
      let f = first-length in
      omega (arith, p, q, r, s, f, h, w, l)
