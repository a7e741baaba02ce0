-- The field that begins at a place, by the byte that stands where it ends and by what stands before it.
use mathlib.Core.Path.{◌≡◌, refl, sym, ap, ◌∙◌}
use mathlib.Core.Bool.{true, false}
use mathlib.Core.List.{List}
use mathlib.Core.Option.{Option, none, some}
use Prim.Native.Nat.{ℕ, ◌+◌, ◌≤◌, ◌<◌}
use lib.IntN.{ℤ}
use lib.ListN.{length, get_or, take, drop, drop_of_length-le}
use lib.Seq.{drop-cons, drop-drop}
use borrow.Author.Tests.{eq-eqb, ne_eqb}
use Rattle.std.specs.Prelude.{Some, None}
use Rattle.meaning.specs.Numerals.{number}
use Rattle.base_numbers.specs.Reading.{option_of}
use Rattle.read_table.specs.Fields.{field_size, opens, with_next, number_field}

-- the byte that stands where a field ends
module _ (bytes : List ℕ) (at stop end : ℕ) (e : end ≡ at + field_size (drop at bytes)) where
  there : drop (field_size (drop at bytes)) (drop at bytes) ≡ drop end bytes
  there = drop-drop (field_size (drop at bytes)) at bytes ∙ ap (λ (n : ℕ). drop n bytes) (sym e)

  -- no byte
  pub unended : length bytes ≤ end → opens stop (drop (field_size (drop at bytes)) (drop at bytes)) ≡ false
  unended h = rw (there, drop_of_length-le bytes h)

  module _ (h : end < length bytes) where
    -- another byte
    pub misended : (get_or bytes end 0 ≡ stop → ⊥) → opens stop (drop (field_size (drop at bytes)) (drop at bytes)) ≡ false
    misended n = rw (there, drop-cons bytes end 0 h, ne_eqb (get_or bytes end 0) stop n)

    -- the byte that is to end it
    pub ended : get_or bytes end 0 ≡ stop → opens stop (drop (field_size (drop at bytes)) (drop at bytes)) ≡ true
    ended m = rw (there, drop-cons bytes end 0 h, eq-eqb (get_or bytes end 0) stop m)

-- what a field is read as
module _ (s : List ℕ) (at stop : ℕ) where
  pub field-unended : opens stop (drop (field_size s) s) ≡ false → number_field stop s at ≡ none
  unfolding number_field
  field-unended e = rw e

  module _ (e : opens stop (drop (field_size s) s) ≡ true) where
    pub field-misread : option_of (number (take (field_size s) s)) ≡ None → number_field stop s at ≡ none
    unfolding number_field
    field-misread i = rw e (go (number (take (field_size s) s)) i)
      where
        go : (o : Option ℤ) → option_of o ≡ None → with_next o (at + field_size s + 1) ≡ none
        go none j = refl
        go (some z) j = cc

    pub field-read : (z : ℤ) → option_of (number (take (field_size s) s)) ≡ Some z → number_field stop s at ≡ some (z, at + field_size s + 1)
    unfolding number_field
    field-read z i = rw e (go (number (take (field_size s) s)) i)
      where
        go : (o : Option ℤ) → option_of o ≡ Some z → with_next o (at + field_size s + 1) ≡ some (z, at + field_size s + 1)
        go none j = cc
        go (some y) j = let same : y ≡ z = cc in ap (λ (x : ℤ). some (x, at + field_size s + 1)) same
