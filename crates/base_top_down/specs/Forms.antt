-- A row with all beneath it as one form, driven by the table of kinds; its rows in top-down numbering; a table numbered so.
use Rattle.std.specs.Prelude.{Bool, true, false, List, [], ◌∷◌, ◌++◌, ℕ, suc, ◌+◌, ◌*◌, ℤ, pos, negsuc, take}
use Rattle.std.proofs.Math.Option.{Option, none, some}
use Rattle.meaning.specs.Rows.{row_count, field_at, kind_at}
use Rattle.meaning.specs.Kinds.{Field, unused, literal_value, within, elements, capacity, operator, variable, channel, reference, link, Shape, shape, shape_of}
use Rattle.meaning.specs.Declarations.{declarations, root}
use Rattle.meaning.specs.HigherRows.{at_row}

-- what a field holds: nothing (−1, or a reference to no higher row), a number or name, or a row with its kind and what its fields hold
pub data Form : Type 0 where
  absent : Form
  number : ℤ → Form
  row : ℕ → Form → Form → Form → Form

-- does a field refer to a row
unfoldable pub is_reference : Field → Bool
is_reference unused = false
is_reference literal_value = false
is_reference (within lo hi) = false
is_reference elements = false
is_reference capacity = false
is_reference operator = false
is_reference variable = false
is_reference (channel roles) = false
is_reference (reference kinds) = true
is_reference (link kinds) = true

-- the shape of a kind; the fields of an unknown kind are numbers
abbrev pub or_plain : Option Shape → Shape
or_plain none = shape 0 unused unused unused
or_plain (some s) = s

abbrev pub shape_for : ℕ → Shape
shape_for k = or_plain (shape_of k)

-- what a field holds, from what stands at higher rows
abbrev pub referred : (ℕ → Form) → ℤ → Form
referred at (pos t) = at t
referred at (negsuc i) = absent

abbrev pub item_of : (ℕ → Form) → Bool → ℤ → Form
item_of at true z = referred at z
item_of at false z = number z

abbrev pub item_at : List ℤ → ℕ → (ℕ → Form) → Field → ℕ → Form
item_at rows r at f j = item_of at (is_reference f) (field_at rows r j)

abbrev pub form_step : List ℤ → ℕ → (ℕ → Form) → Form
form_step rows r at =
    let s = shape_for (kind_at rows r) in
    row (kind_at rows r) (item_at rows r at s.a 1) (item_at rows r at s.b 2) (item_at rows r at s.c 3)

-- the form that stands at row r, with all beneath it; past the last row there is none
unfoldable pub form_at : List ℤ → ℕ → Form
form_at rows r = at_row absent (form_step rows) (row_count rows) r

-- how many rows a form is
unfoldable pub form_size : Form → ℕ
form_size absent = 0
form_size (number z) = 0
form_size (row k a b c) = suc (form_size a + form_size b + form_size c)

-- what is written in a field whose form gets row n
abbrev pub written_field : ℕ → Form → ℤ
written_field n absent = negsuc 0
written_field n (number z) = z
written_field n (row k a b c) = pos n

-- the first rows of the forms in the fields of row n
abbrev pub row_of_b : ℕ → Form → ℕ
row_of_b n a = suc n + form_size a

abbrev pub row_of_c : ℕ → Form → Form → ℕ
row_of_c n a b = suc n + form_size a + form_size b

-- the rows of a form, the first of number n: the row itself, then those of its fields a, b, c in turn
unfoldable pub rows_from : ℕ → Form → List ℤ
rows_from n absent = []
rows_from n (number z) = []
rows_from n (row k a b c) =
    pos k ∷ written_field (suc n) a ∷ written_field (row_of_b n a) b ∷ written_field (row_of_c n a b) c
    ∷ (rows_from (suc n) a ++ rows_from (row_of_b n a) b ++ rows_from (row_of_c n a b) c)

-- the form of a table: that of its root
unfoldable pub form_of : List ℤ → Form
form_of rows = form_at rows (root rows)

-- the declarations, as they stand
unfoldable pub declared : List ℤ → List ℤ
declared rows = take (4 * declarations rows) rows

-- the declarations of a table, and after them the rows of a form
unfoldable pub table_of : List ℤ → Form → List ℤ
table_of rows f = declared rows ++ rows_from (declarations rows) f

-- a table in top-down numbering. (Request 05: the variables of blocks follow the other declarations in the order of their blocks, so that `declared`
-- becomes the declarations in that order, and names in the form are renamed by it before it is flattened.)
unfoldable pub top_down : List ℤ → List ℤ
top_down rows = table_of rows (form_of rows)

-- the forms of all rows of a form, in that order
unfoldable pub forms : Form → List Form
forms absent = []
forms (number z) = []
forms (row k a b c) = row k a b c ∷ (forms a ++ forms b ++ forms c)

-- a form as decoding gives it: where the kind's field refers to rows there is a row or nothing, elsewhere a number
abbrev pub Suits : Bool → Form → Type 0
Suits true absent = Unit {0}
Suits true (number z) = ⊥
Suits true (row k a b c) = Unit {0}
Suits false absent = ⊥
Suits false (number z) = Unit {0}
Suits false (row k a b c) = ⊥

unfoldable pub Shaped : Form → Type 0
Shaped absent = Unit {0}
Shaped (number z) = Unit {0}
Shaped (row k a b c) =
    ((Suits (is_reference (shape_for k).a) a × Shaped a) × (Suits (is_reference (shape_for k).b) b × Shaped b)) × (Suits (is_reference (shape_for k).c) c × Shaped c)

abbrev pub is_row : Form → Bool
is_row absent = false
is_row (number z) = false
is_row (row k a b c) = true
