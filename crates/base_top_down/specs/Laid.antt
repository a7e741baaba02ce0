-- A form laid out in rows from row n on, whatever stands before and after; and the laws of top-down numbering.
use Rattle.std.specs.Prelude.{◌≡◌, true, List, ◌++◌, ℕ, suc, ◌+◌, ◌-◌, ◌*◌, ◌<◌, ℤ, pos, length, get_or}
use Rattle.std.proofs.Math.Option.{none}
use Rattle.meaning.specs.Rows.{row_count, field_at}
use Rattle.meaning.specs.Declarations.{declarations}
use Rattle.meaning.specs.Verdict.{form_fault, tree_fault, limit_fault}
use Rattle.base_top_down.specs.Forms.{Form, absent, number, row, form_at, form_size, written_field, row_of_b, row_of_c, rows_from, form_of, top_down, forms, Shaped, is_row}

-- the rows of a form stand in a table from row n on
unfoldable pub Laid : List ℤ → ℕ → Form → Type 0
Laid rows n absent = Unit {0}
Laid rows n (number z) = Unit {0}
Laid rows n (row k a b c) =
    ((n < row_count rows) × (field_at rows n 0 ≡ pos k) × (field_at rows n 1 ≡ written_field (suc n) a) × (field_at rows n 2 ≡ written_field (row_of_b n a) b) × (field_at rows n 3 ≡ written_field (row_of_c n a b) c))
    × ((Laid rows (suc n) a × Laid rows (row_of_b n a) b) × Laid rows (row_of_c n a b) c)

-- 1
unfoldable pub FlattenLength : Type 0
FlattenLength = (n : ℕ) (f : Form) → length (rows_from n f) ≡ 4 * form_size f

-- 2: what is flattened is decoded, with anything before and after; and every row between to its own form
unfoldable pub FlattenDecodes : Type 0
FlattenDecodes =
    (before after : List ℤ) (d : ℕ) (f : Form) → length before ≡ 4 * d → Shaped f → is_row f ≡ true → form_at (before ++ rows_from d f ++ after) d ≡ f

unfoldable pub EachDecodes : Type 0
EachDecodes =
    (before after : List ℤ) (d : ℕ) (f : Form) → length before ≡ 4 * d → Shaped f → (i : ℕ) → i < form_size f → form_at (before ++ rows_from d f ++ after) (d + i) ≡ get_or (forms f) i absent

-- what is decoded is so shaped
unfoldable pub DecodedShaped : Type 0
DecodedShaped = (rows : List ℤ) (r : ℕ) → Shaped (form_at rows r)

-- 3, of any rows
unfoldable pub SameForm : Type 0
SameForm = (rows : List ℤ) → form_of (top_down rows) ≡ form_of rows

unfoldable pub TopDownAgain : Type 0
TopDownAgain = (rows : List ℤ) → top_down (top_down rows) ≡ top_down rows

-- 4
unfoldable pub FormKept : Type 0
FormKept = (rows : List ℤ) → form_fault rows ≡ none → tree_fault rows ≡ none → form_fault (top_down rows) ≡ none

unfoldable pub TreeKept : Type 0
TreeKept = (rows : List ℤ) → form_fault rows ≡ none → tree_fault rows ≡ none → tree_fault (top_down rows) ≡ none

-- and stage 6 answers the same, for any rows
unfoldable pub LimitKept : Type 0
LimitKept = (rows : List ℤ) → limit_fault (top_down rows) ≡ limit_fault rows

-- 5, whatever stage 4 says
unfoldable pub SizeIsCount : Type 0
SizeIsCount = (rows : List ℤ) → tree_fault rows ≡ none → form_size (form_of rows) ≡ row_count rows - declarations rows

-- so that a table and its top-down numbering have as many rows
unfoldable pub SameCount : Type 0
SameCount = (rows : List ℤ) → tree_fault rows ≡ none → row_count (top_down rows) ≡ row_count rows
