-- What is written for a field, by whether it refers to a row and whether that has a number.
use mathlib.Core.Path.{◌≡◌, sym, ap, ◌∙◌, subst}
use mathlib.Core.Bool.{Bool, true, false, ◌&&◌}
use mathlib.Core.List.{List}
use Prim.Native.Nat.{ℕ, ◌≤◌, ◌<◌}
use lib.IntN.{ℤ, pos}
use lib.Dec.{ltb}
use lib.ListN.{length, get_or}
use Rattle.meaning.specs.Basics.{if_else}
use borrow.Author.Tests.{lt-ltb, le-ltb}
use Rattle.meaning.specs.Rows.{natural_of}
use Rattle.meaning.proofs.NoFault.{and_none}
use Rattle.base_renumbering.specs.Written.{renumbered_in}

and-true : (s t : Bool) → s ≡ true → t ≡ true → (s && t) ≡ true
and-true s t e f = (λ i. e i && f i)

module _ (l : List ℕ) (b : Bool) (z : ℤ) where
  pub renumbered-there : (t : ℕ) → b ≡ true → t ≡ natural_of z → t < length l → pos (get_or l t 0) ≡ renumbered_in l b z
  renumbered-there t e i h =
      ap (λ (n : ℕ). pos (get_or l n 0)) i
      ∙ ap (λ (x : Bool). if_else x (pos (get_or l (natural_of z) 0)) z) (sym (and-true b (ltb (natural_of z) (length l)) e (lt-ltb (natural_of z) (length l) (subst (λ (n : ℕ). n < length l) i h))))

  pub renumbered-past : (t : ℕ) → t ≡ natural_of z → length l ≤ t → z ≡ renumbered_in l b z
  renumbered-past t i h = ap (λ (x : Bool). if_else x (pos (get_or l (natural_of z) 0)) z) (sym (and_none b (ltb (natural_of z) (length l)) (le-ltb (natural_of z) (length l) (subst (λ (n : ℕ). length l ≤ n) i h))))

  pub renumbered-not : b ≡ false → z ≡ renumbered_in l b z
  renumbered-not e = ap (λ (x : Bool). renumbered_in l x z) (sym e)
