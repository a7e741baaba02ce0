-- What an entry of the table means, by its sort.
use mathlib.Core.Path.{◌≡◌, refl}
use mathlib.Core.Bool.{Bool, true, false}
use mathlib.Core.List.{List, []}
use Prim.Native.Nat.{ℕ, ◌/◌, ◌%◌}
use lib.IntN.{ℤ, pos}
use lib.Dec.{eqb}
use Rattle.meaning.specs.Basics.{if_else}
use borrow.Author.Tests.{ne_eqb}
use Rattle.meaning.specs.Kinds.{Field, unused, literal_value, within, elements, capacity, operator, variable, channel}
use Rattle.meaning.specs.Verdict.{leads, target}
use Rattle.base_kinds.specs.Table.{numbers_in, field_meant}

-- an entry of no other sort is unused
pub other-sort : (e : ℕ) → (e % 16 ≡ 1 → ⊥) → (e % 16 ≡ 2 → ⊥) → (e % 16 ≡ 3 → ⊥) → (e % 16 ≡ 4 → ⊥) → (e % 16 ≡ 5 → ⊥) → (e % 16 ≡ 6 → ⊥) → (e % 16 ≡ 7 → ⊥) → (e % 16 ≡ 8 → ⊥) → (e % 16 ≡ 9 → ⊥) → field_meant e ≡ unused
unfolding field_meant
other-sort e a b c d f g h i j =
    let s = e % 16 in
    simp (ne_eqb s 1 a, ne_eqb s 2 b, ne_eqb s 3 c, ne_eqb s 4 d, ne_eqb s 5 f, ne_eqb s 6 g, ne_eqb s 7 h, ne_eqb s 8 i, ne_eqb s 9 j)

module _ (rows : List ℤ) (r : ℕ) (z : ℤ) where
  abbrev Plain : Field → Type 0
  Plain f = (true ≡ leads rows r f z) × ([] ≡ target rows r f z)

  either : (t : Bool) (f g : Field) → Plain f → Plain g → Plain (if_else t f g)
  either true f g p q = p
  either false f g p q = q

  -- an entry that is no reference and no link refers to nothing
  pub no-reference : (e : ℕ) → (e % 16 ≡ 7 → ⊥) → (e % 16 ≡ 8 → ⊥) → Plain (field_meant e)
  unfolding field_meant leads target
  no-reference e a b =
      let s = e % 16 in
      let m = e / 16 in
      rw (ne_eqb s 7 a, ne_eqb s 8 b)
      (either (eqb s 1) literal_value _ (refl, refl)
      (either (eqb s 2) (within (pos (m % 256)) (pos (m / 256 % 256))) _ (refl, refl)
      (either (eqb s 3) elements _ (refl, refl)
      (either (eqb s 4) capacity _ (refl, refl)
      (either (eqb s 5) variable _ (refl, refl)
      (either (eqb s 6) (channel (numbers_in m)) _ (refl, refl)
      (either (eqb s 9) operator unused (refl, refl) (refl, refl))))))))
