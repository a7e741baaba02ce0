-- What is shown of each shape of the table of kinds holds of the shape of any kind.
use mathlib.Core.Path.{◌≡◌, refl, sym, subst₂}
use mathlib.Core.Bool.{Bool, true, false}
use mathlib.Core.List.{List, [], ◌∷◌}
use mathlib.Core.Option.{some, none-ne-some, some-injective}
use Prim.Native.Nat.{ℕ}
use lib.Dec.{eqb}
use Rattle.meaning.specs.Basics.{if_else}
use borrow.Author.Tests.{eqb-true}
use Rattle.meaning.specs.Kinds.{Shape, shapes, shape_in, shape_of}

-- of each shape of a list
pub data EachShape (P : ℕ → Shape → Type 0) : List Shape → Type 0 where
  none_left : EachShape P []
  and_then : {s : Shape} {ss : List Shape} → P s.kind s → EachShape P ss → EachShape P (s ∷ ss)

module _ (P : ℕ → Shape → Type 0) where
  in-shapes : {ss : List Shape} → EachShape P ss → (k : ℕ) (s : Shape) → shape_in ss k ≡ some s → P k s
  unfolding shape_in
  in-shapes none_left k s e = absurd (none-ne-some s e)
  in-shapes (and_then {s = u} {ss} p h) k s e = go (eqb k u.kind) refl e (in-shapes h k s)
    where
      go : (t : Bool) → eqb k u.kind ≡ t → if_else t (some u) (shape_in ss k) ≡ some s → (shape_in ss k ≡ some s → P k s) → P k s
      go true f g later = subst₂ P (sym (eqb-true k u.kind f)) (some-injective u s g) p
      go false f g later = later g

  pub by_shape : EachShape P shapes → (k : ℕ) (s : Shape) → shape_of k ≡ some s → P k s
  unfolding shape_of
  by_shape h k s e = in-shapes h k s e
