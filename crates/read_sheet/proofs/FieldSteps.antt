-- What a field that begins at a place is read as.
use mathlib.Core.Path.{◌≡◌, refl, sym, ap, ◌∙◌}
use mathlib.Core.Bool.{true, false}
use mathlib.Core.List.{List, [], ◌∷◌}
use mathlib.Core.Option.{Option, none, some, map}
use Prim.Native.Nat.{ℕ, ◌+◌, ◌<◌}
use native.Mathlib.Omega.{arith}
use lib.IntN.{ℤ, pos}
use lib.ListN.{length, take, drop}
use Rattle.meaning.specs.Numerals.{number}
use Rattle.meaning.specs.Sheet.{reading}
use Rattle.read_table.specs.Fields.{field_size, opens, with_next}
use Rattle.std.specs.Prelude as std
use Rattle.std.specs.Prelude.{is_some}
use Rattle.std.specs.Option.{unwrap_or}
use Rattle.std.specs.Int.{from_bool}
use Rattle.std.proofs.lemmas.Option.{some_pair_parts}
use Rattle.base_numbers.specs.Reading.{option_of}
use Rattle.read_sheet.specs.Fields.{value_of, reading_mark, reading_field, reading_told}

-- a field with a byte is a reading if it is a number
reading-number : (l : List ℕ) → 0 < length l → reading l ≡ map some (number l)
unfolding reading
reading-number [] h = absurd (omega arith)
reading-number (b ∷ bs) h = refl

reading-nothing : (l : List ℕ) → length l ≡ 0 → reading l ≡ some none
unfolding reading
reading-nothing [] e = refl
reading-nothing (b ∷ bs) e = absurd (omega arith)

module _ (s : List ℕ) (at stop : ℕ) where
  -- no byte ends it, or another one
  pub field-unended : opens stop (drop (field_size s) s) ≡ false → reading_field stop s at ≡ none
  unfolding reading_field
  field-unended e = rw e

  module _ (e : opens stop (drop (field_size s) s) ≡ true) where
    ended : (o : Option (Option ℤ)) → reading (take (field_size s) s) ≡ o → reading_field stop s at ≡ with_next o (at + field_size s + 1)
    unfolding reading_field
    ended o i = rw (e, i)

    pub field-empty : length (take (field_size s) s) ≡ 0 → reading_field stop s at ≡ some (none, at + field_size s + 1)
    field-empty z = ended (some none) (reading-nothing (take (field_size s) s) z)

    pub field-misread : 0 < length (take (field_size s) s) → number (take (field_size s) s) ≡ none → reading_field stop s at ≡ none
    field-misread h i = ended none (reading-number (take (field_size s) s) h ∙ ap (map some) i)

    pub field-read : 0 < length (take (field_size s) s) → (z : ℤ) → number (take (field_size s) s) ≡ some z → reading_field stop s at ≡ some (some z, at + field_size s + 1)
    field-read h z i = ended (some (some z)) (reading-number (take (field_size s) s) h ∙ ap (map some) i)

-- what the code is told of a field
pub told-none : (o : Option (Option ℤ × ℕ)) → std.None ≡ reading_told o → o ≡ none
told-none none e = refl
told-none (some p) e = cc

-- the reading that the code is told
pub record Told (o : Option (Option ℤ × ℕ)) (r : std.Option ℤ) (next : ℕ) : Type 0 where
  pub it : Option ℤ
  pub field-is : o ≡ some (it, next)
  pub value-is : unwrap_or r (pos 0) ≡ value_of it
  pub mark-is : from_bool (is_some r) ≡ reading_mark it

told : (v : Option ℤ) (n next : ℕ) (r : std.Option ℤ) → r ≡ option_of v → next ≡ n → Told (some (v, n)) r next
told none n next r e i =
    record { it = none; field-is = ap (λ (m : ℕ). some (none, m)) (sym i); value-is = rw e; mark-is = rw e }
told (some z) n next r e i =
    record { it = some z; field-is = ap (λ (m : ℕ). some (some z, m)) (sym i); value-is = rw e; mark-is = rw e }

pub told-some : (o : Option (Option ℤ × ℕ)) (r : std.Option ℤ) (next : ℕ) → std.Some (r, next) ≡ reading_told o → Told o r next
told-some none r next e = cc
told-some (some (v, n)) r next e = let parts = some_pair_parts r (option_of v) next n e in told v n next r parts.0 parts.1
