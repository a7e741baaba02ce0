-- What a subscript counts for: by its expression as a constant, and of a constant by the number of the array that it means.
use mathlib.Core.Path.{◌≡◌, refl, sym, ap, ◌∙◌}
use mathlib.Core.Bool.{Bool, true, false}
use mathlib.Core.List.{List, [], ◌∷◌}
use Prim.Native.Nat.{ℕ, ◌+◌}
use lib.IntN.{pos, negsuc}
use lib.Dec.{ltb}
use Rattle.meaning.specs.declared.Value.{Value}
use Rattle.meaning.specs.declared.Value.TheVariants.{Number, Missing}
use Rattle.meaning.specs.declared.Index.{Index}
use Rattle.meaning.specs.declared.Index.TheVariants.{At, Fails}
use Rattle.meaning.specs.Basics.{if_else}
use Rattle.meaning.specs.Tree.{Expr}
use Rattle.meaning.specs.Usage.{numbers_from, only_if, constant, counts_by_value, counts_for}
use Rattle.meaning.specs.Values.{in_array, value}
use Rattle.std.specs.Prelude.{Option, Some, None}
use Rattle.check_subscripts.specs.Constants.{constant_of}
use Rattle.check_subscripts.specs.Counts.{without_place}

module _ (first n : ℕ) where
  -- what a constant counts for, or what varies
  abbrev pub counts_as : Option Value → List ℕ
  counts_as (Some v) = counts_by_value first n v
  counts_as None = numbers_from first n

  pub counts-as : (e : Expr) {c k : Option Value} → c ≡ constant_of e → c ≡ k → counts_for first n e ≡ counts_as k
  unfolding counts_for constant_of
  counts-as e p q = go (constant e) ∙ ap counts_as (sym p ∙ q)
    where
      go : (t : Bool) → if_else t (counts_by_value first n (value [] e)) (numbers_from first n) ≡ counts_as (if_else t (Some (value [] e)) None)
      go true = refl
      go false = refl

  -- what a constant of value v counts for that means this one of the array, or none
  abbrev pub counts_at : Value → Index → List ℕ
  counts_at v (At i) = i ∷ []
  counts_at v (Fails k) = numbers_from first (without_place n v)

  by_place : (v : Value) → counts_by_value first n v ≡ counts_at v (in_array first n v)
  unfolding counts_by_value in_array numbers_from
  by_place (Number (pos k)) = go (ltb k n)
    where
      go : (t : Bool) → only_if t (first + k) ≡ counts_at (Number (pos k)) (if_else t (At (first + k)) (Fails 2))
      go true = refl
      go false = refl
  by_place (Number (negsuc k)) = refl
  by_place (Missing k) = refl

  pub counts-at : (v : Value) {i j : Index} → i ≡ in_array first n v → i ≡ j → counts_by_value first n v ≡ counts_at v j
  counts-at v p q = by_place v ∙ ap (counts_at v) (sym p ∙ q)
