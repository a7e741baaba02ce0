-- Whether an entry of the code's table of kinds refers to a row, by its sort.
use mathlib.Core.Path.{◌≡◌, refl, sym, ap, ◌∙◌}
use mathlib.Core.Bool.{Bool, true, false}
use mathlib.Core.List.{List}
use Prim.Native.Nat.{ℕ, ◌/◌, ◌%◌, ◌≤◌}
use lib.IntN.{ℤ, pos}
use lib.ListN.{length, get_or, set, get_or-eq_default}
use lib.Seq.{set_out}
use lib.Dec.{eqb}
use Rattle.meaning.specs.Basics.{if_else}
use borrow.Author.Tests.{ne_eqb}
use Rattle.meaning.specs.Rows.{natural_of}
use Rattle.meaning.specs.Kinds.{Field, unused, literal_value, within, elements, capacity, operator, variable, channel}
use Rattle.base_kinds.specs.Table.{numbers_in, field_meant}
use Rattle.base_top_down.specs.Forms.{is_reference}
use Rattle.base_numbering.specs.Fields.{held_in, placed_in}

either : (t : Bool) (f g : Field) → is_reference f ≡ false → is_reference g ≡ false → is_reference (if_else t f g) ≡ false
either true f g p q = p
either false f g p q = q

pub no-reference : (e : ℕ) → (e % 16 ≡ 7 → ⊥) → (e % 16 ≡ 8 → ⊥) → is_reference (field_meant e) ≡ false
unfolding field_meant is_reference
no-reference e a b =
    let s = e % 16 in
    let m = e / 16 in
    rw (ne_eqb s 7 a, ne_eqb s 8 b)
    (either (eqb s 1) literal_value _ refl
    (either (eqb s 2) (within (pos (m % 256)) (pos (m / 256 % 256))) _ refl
    (either (eqb s 3) elements _ refl
    (either (eqb s 4) capacity _ refl
    (either (eqb s 5) variable _ refl
    (either (eqb s 6) (channel (numbers_in m)) _ refl
    (either (eqb s 9) operator unused refl refl)))))))

-- a field by whether it refers to a row, and by whether that is in the list
module _ (l : List ℕ) (b : Bool) (z : ℤ) where
  pub held-there : (t : ℕ) → b ≡ true → t ≡ natural_of z → get_or l t 0 ≡ held_in l b z
  held-there t e i = ap (λ (n : ℕ). get_or l n 0) i ∙ ap (λ (x : Bool). held_in l x z) (sym e)

  pub held-past : (t : ℕ) → b ≡ true → t ≡ natural_of z → length l ≤ t → 0 ≡ held_in l b z
  held-past t e i h = sym (get_or-eq_default l 0 h) ∙ held-there t e i

  pub held-not : b ≡ false → 0 ≡ held_in l b z
  held-not e = ap (λ (x : Bool). held_in l x z) (sym e)

  pub placed-there : (t v : ℕ) → b ≡ true → t ≡ natural_of z → set l t v ≡ placed_in l b z v
  placed-there t v e i = ap (λ (n : ℕ). set l n v) i ∙ ap (λ (x : Bool). placed_in l x z v) (sym e)

  pub placed_past : (t v : ℕ) → b ≡ true → t ≡ natural_of z → length l ≤ t → l ≡ placed_in l b z v
  placed_past t v e i h = sym (set_out l t v h) ∙ placed-there t v e i

  pub placed-not : (v : ℕ) → b ≡ false → l ≡ placed_in l b z v
  placed-not v e = ap (λ (x : Bool). placed_in l x z v) (sym e)
