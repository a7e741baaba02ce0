-- The fields of a line before the first wrong one: a wrong field is not among them, a right one is their first, and on a right line they are all.
use mathlib.Core.Path.{◌≡◌, refl, sym, ap, ap₂, ◌∙◌}
use mathlib.Core.Bool.{Bool, true, false}
use mathlib.Core.List.{List, [], ◌∷◌}
use mathlib.Core.Option.{Option, none, some, none-ne-some, some-injective}
use Prim.Native.Nat.{ℕ, zero, suc, ◌+◌}
use native.Mathlib.Omega.{arith}
use lib.IntN.{ℤ}
use lib.ListN.{take, drop}
use lib.Seq.{drop-drop}
use Rattle.meaning.specs.Basics.{if_else, with_first}
use Rattle.meaning.specs.Sheet.{reading, values_of}
use Rattle.read_table.specs.Fields.{field_size, first_line, opens, stop_of}
use Rattle.read_table.proofs.ReadFields.{left, line-left, left-none, no-line-of-none, field-not-ended, field-not-read, field-first}
use Rattle.read_sheet.specs.Lines.{up_to_wrong, right_fields}

-- the field that begins at a place, with m fields after it on the line
module _ (sheet : List ℕ) (at m : ℕ) where
  abbrev n : ℕ
  n = field_size (drop at sheet)

  abbrev field : List ℕ
  field = take n (drop at sheet)

  abbrev ended : Bool
  ended = opens (stop_of m) (drop n (drop at sheet))

  pub none-unended : ended ≡ false → right_fields (suc m) (drop at sheet) ≡ []
  unfolding right_fields
  none-unended e = rw e

  pub none-unread : reading field ≡ none → right_fields (suc m) (drop at sheet) ≡ []
  unfolding right_fields
  none-unread e = rw e (go ended)
    where
      go : (t : Bool) → if_else t (up_to_wrong none (right_fields m (drop (n + 1) (drop at sheet)))) [] ≡ []
      go true = refl
      go false = refl

  pub first_read : ended ≡ true → (v : Option ℤ) → reading field ≡ some v → right_fields (suc m) (drop at sheet) ≡ v ∷ right_fields m (drop (at + n + 1) sheet)
  unfolding right_fields
  first_read e v i =
      let next : at + (n + 1) ≡ at + n + 1 = omega arith in
      ap₂ (λ (t : Bool) (o : Option (Option ℤ)). if_else t (up_to_wrong o (right_fields m (drop (n + 1) (drop at sheet)))) []) e i
      ∙ ap (λ (s : List ℕ). v ∷ right_fields m s) (drop-drop (n + 1) at sheet ∙ ap (λ (k : ℕ). drop k sheet) next)

-- the fields of which all are read
all_read : (m : ℕ) (s : List ℕ) (vs : List (Option ℤ)) → left reading m s ≡ some vs → right_fields m s ≡ vs
unfolding right_fields
all_read zero s vs e = some-injective [] vs (sym (left-none reading s) ∙ e)
all_read (suc m) s vs e = go (ended s 0 m) refl (reading (field s 0 m)) refl (λ us k. all_read m (drop (0 + n s 0 m + 1) s) us k)
  where
    go : (t : Bool) → ended s 0 m ≡ t → (o : Option (Option ℤ)) → reading (field s 0 m) ≡ o
        → ((us : List (Option ℤ)) → left reading m (drop (0 + n s 0 m + 1) s) ≡ some us → right_fields m (drop (0 + n s 0 m + 1) s) ≡ us) → right_fields (suc m) s ≡ vs
    go false i o j others = absurd (none-ne-some vs (sym (field-not-ended reading s 0 m i) ∙ e))
    go true i none j others = absurd (none-ne-some vs (sym (field-not-read reading s 0 m j) ∙ e))
    go true i (some v) j others = first_read s 0 m i v j ∙ rest (left reading m (drop (0 + n s 0 m + 1) s)) refl (sym (field-first reading s 0 m i v j).0 ∙ e)
      where
        rest : (o : Option (List (Option ℤ))) → left reading m (drop (0 + n s 0 m + 1) s) ≡ o → with_first v o ≡ some vs → v ∷ right_fields m (drop (0 + n s 0 m + 1) s) ≡ vs
        rest none k h = absurd (none-ne-some vs h)
        rest (some us) k h = ap (λ (l : List (Option ℤ)). v ∷ l) (others us k) ∙ some-injective (v ∷ us) vs h

-- of a right line they are its readings
pub right-line : (count : ℕ) (s : List ℕ) (vs : List (Option ℤ)) → values_of count (first_line s) ≡ some vs → right_fields count s ≡ vs
unfolding values_of
right-line zero s vs e = absurd (none-ne-some vs (sym (no-line-of-none reading s) ∙ e))
right-line (suc m) s vs e = all_read (suc m) s vs (sym (line-left reading m s) ∙ e)
