-- What a field that is read as a number, or is not, says of the line that goes on there.
use mathlib.Core.Path.{◌≡◌, refl, ap, ◌∙◌, subst}
use mathlib.Core.Bool.{Bool, true, false}
use mathlib.Core.List.{List}
use mathlib.Core.Option.{Option, none, some}
use Prim.Native.Nat.{ℕ, suc, ◌+◌}
use lib.IntN.{ℤ}
use lib.ListN.{take, drop}
use Rattle.meaning.specs.Basics.{if_else, with_first}
use Rattle.meaning.specs.Numerals.{number}
use Rattle.base_numbers.proofs.Options.{pair-is}
use Rattle.read_table.specs.Fields.{field_size, opens, stop_of, with_next, number_field}
use Rattle.read_table.proofs.ReadFields.{left, left_size, field-not-ended, field-not-read, field-first}

module _ (bytes : List ℕ) (at m : ℕ) where
  abbrev size : ℕ
  size = field_size (drop at bytes)

  abbrev field : List ℕ
  field = take size (drop at bytes)

  -- a number is the first of those that are left
  pub number-left : (z : ℤ) (p : ℕ) → number_field (stop_of m) (drop at bytes) at ≡ some (z, p)
      → (left number (suc m) (drop at bytes) ≡ with_first z (left number m (drop p bytes))) × (at + left_size (suc m) (drop at bytes) ≡ p + left_size m (drop p bytes))
  unfolding number_field
  number-left z p e = go (opens (stop_of m) (drop size (drop at bytes))) refl (number field) refl e
    where
      go : (t : Bool) → opens (stop_of m) (drop size (drop at bytes)) ≡ t → (o : Option ℤ) → number field ≡ o → if_else t (with_next o (at + size + 1)) none ≡ some (z, p)
          → (left number (suc m) (drop at bytes) ≡ with_first z (left number m (drop p bytes))) × (at + left_size (suc m) (drop at bytes) ≡ p + left_size m (drop p bytes))
      go false i o j h = cc
      go true i none j h = cc
      go true i (some y) j h =
          let parts = pair-is y z (at + size + 1) p h in
          let same = parts.0 in
          let place = parts.1 in
          subst (λ (q : ℕ). (left number (suc m) (drop at bytes) ≡ with_first z (left number m (drop q bytes))) × (at + left_size (suc m) (drop at bytes) ≡ q + left_size m (drop q bytes))) place
          (field-first number bytes at m i z (j ∙ ap some same))

  -- a field that is wrong makes the line wrong
  pub wrong-left : number_field (stop_of m) (drop at bytes) at ≡ none → left number (suc m) (drop at bytes) ≡ none
  unfolding number_field
  wrong-left e = go (opens (stop_of m) (drop size (drop at bytes))) refl (number field) refl e
    where
      go : (t : Bool) → opens (stop_of m) (drop size (drop at bytes)) ≡ t → (o : Option ℤ) → number field ≡ o → if_else t (with_next o (at + size + 1)) none ≡ none → left number (suc m) (drop at bytes) ≡ none
      go false i o j h = field-not-ended number bytes at m i
      go true i none j h = field-not-read number bytes at m j
      go true i (some z) j h = cc
