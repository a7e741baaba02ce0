-- A table prepared for the run: six numbers a row. 0 what it is; 1 a row, a cell or an operator; 2 and 3 rows that it refers to; 4 one more than its parent's row, of an option its ALT's; 5 its next link.
-- 1,024 rows, and one more, where nothing stands. A row that is none is 1,024, a note of none is 0.
-- What a row is: 1 a literal: 2 and 3 the low and the high sixteen bits of its number plus 2,147,483,648; 2 a cell, its number; 3 a subscript outside its array;
-- 4 an element: the row of the variable, the subscript's row; 5 a monadic and 6 a dyadic operator: its number and its operands' rows;
-- 46, 47, 48 an assignment to a cell, outside the array, to an element: third the value's row; 23 an input and 24 an output: the row of the channel, the subscript's row, the row of the target or value;
-- 35 a block: the row of the variable, its process's row;
-- from 20 to 43 else the row's kind, with the rows of its fields; 0 a declaration or nothing that a run looks at.
-- A declaration: 1 its first cell or element; 2 how many; 3 one more than its host channel number; 4 its capacity; 5 where its strip begins.
use Rattle.std.specs.Prelude.{◌≡◌, List, [], ◌∷◌, ◌++◌, ℕ, zero, suc, ◌+◌, ◌*◌, ◌/◌, ◌%◌, ℤ, pos, nat_abs, ◌+ℤ◌, ◌-ℤ◌, get_or, ltb, eqb}
use Rattle.std.proofs.Math.Option.{none}
use Rattle.meaning.specs.declared.Value.TheVariants.{Number}
use Rattle.meaning.specs.declared.Index.{Index}
use Rattle.meaning.specs.declared.Index.TheVariants.{At, Fails}
use Rattle.meaning.specs.Basics.{if_else}
use Rattle.meaning.specs.Rows.{row_count, field_at, natural_at, kind_at}
use Rattle.meaning.specs.Declarations.{Variable, Channel, is_variable, has_role, variable_at, source_at, sink_at}
use Rattle.meaning.specs.Values.{in_array}
use Rattle.meaning.specs.State.{program}
use Rattle.meaning.specs.Answers.{check}
use Rattle.base_layout.specs.Operands.{operand_at}
use Rattle.run_parents.specs.declared.shape.Shape.{Shape}
use Rattle.run_parents.specs.declared.shape.Shape.TheVariants.{Ending, Single, Link, Neither}
use Rattle.run_parents.specs.Shapes.{shape_at}
use Rattle.machine.specs.Upward.{parent_of}
use Rattle.machine.specs.RowSteps.{alt_of}
use Rattle.machine.specs.Held.{strip_start}
use Rattle.run_parents.specs.Marks.{row_note}
use Rattle.run_parents.specs.Parents.{next_link, if_parent}
use Rattle.run_code.specs.declared.Row.{Row}

-- a row of an expression
abbrev pub row : ℕ → ℕ → ℕ → ℕ → Row
row w a b c = record { what = w; first = a; second = b; third = c; parent = 0; next = 0 }

-- nothing
abbrev pub no_row : Row
no_row = row 0 0 0 0

-- a number of 32 bits plus 2,147,483,648: not below 0
abbrev pub raised : ℤ → ℕ
raised x = nat_abs (x +ℤ pos 2147483648)

-- a literal
abbrev pub literal_row : ℤ → Row
literal_row x = row 1 0 (raised x % 65536) (raised x / 65536)

-- the cell that a subscript with a value means
abbrev pub fixed : Index → Row
fixed (At i) = row 2 i 0 0
fixed (Fails k) = row 3 0 0 0

-- one more than a host channel's number, 0 of an inner channel
abbrev pub host_note : Channel → ℕ
host_note c = if_else c.host (suc c.number) 0

-- the declaration of a variable; of a channel whose strip begins at n
abbrev pub variable_row : Variable → Row
variable_row v = row 0 v.first v.size 0

abbrev pub channel_row : Channel → ℕ → Row
channel_row c n = record { what = 0; first = c.first; second = c.size; third = host_note c; parent = c.capacity; next = n }

module _ (rows : List ℤ) where
  -- the kind of row r; 0 past the table
  unfoldable pub kind_in : ℕ → ℕ
  kind_in r = if_else (ltb r (row_count rows)) (kind_at rows r) 0

  -- row n, or 1,024 where it is past the table
  unfoldable pub present_row : ℕ → ℕ
  present_row n = if_else (ltb n (row_count rows)) n 1024

  -- the higher row that number j of row r refers to; 1,024 where that is no higher row
  abbrev pub referred_row : ℕ → ℕ → ℕ
  referred_row r j = present_row (operand_at rows r j)

  -- an element of the variable of row a whose subscript is the expression of row b: a literal subscript is turned into its cell
  unfoldable pub subscripted_row : ℕ → ℕ → Row
  subscripted_row a b =
      let v = variable_at rows a in
      if_else (eqb (kind_in b) 10) (fixed (in_array v.first v.size (Number (field_at rows b 1)))) (row 4 a b 0)

  -- one more than the row of the process that row r is a member of, of an option than its ALT's, or 0
  unfoldable pub owner_note : ℕ → ℕ → ℕ
  owner_note k r = if_else (eqb k 42) (row_note (alt_of (program rows) r)) (row_note (parent_of (program rows) r))

  -- the link to the members after row r; 0 where it has no parent
  unfoldable pub next_note : ℕ → ℕ
  next_note r = if_parent (parent_of (program rows) r) (next_link rows r) 0

  -- where the strip of a channel begins; 0 of one that is not the host's
  unfoldable pub strip_of : Channel → ℕ
  strip_of c = if_else c.host (strip_start rows c.number) 0

  module _ (r : ℕ) where
    -- a declaration; nothing where there is none
    unfoldable pub declared_row : Row
    declared_row =
        if_else (is_variable rows r) (variable_row (variable_at rows r))
        (if_else (has_role 2 rows r) (channel_row (sink_at rows r) (strip_of (sink_at rows r)))
        (channel_row (source_at rows r) 0))

    -- an element
    abbrev pub element_row : Row
    element_row = subscripted_row (natural_at rows r 1) (referred_row r 2)

    -- an assignment to what row e is
    abbrev pub assigned_row : Row → Row
    assigned_row e = record { what = 44 + e.what; first = e.first; second = e.second; third = referred_row r 3; parent = owner_note 22 r; next = next_note r }

    -- a row of kind k whose first number is n, with the rows of its other fields
    abbrev pub kept_row : ℕ → ℕ → Row
    kept_row k n = record { what = k; first = n; second = referred_row r 2; third = referred_row r 3; parent = owner_note k r; next = next_note r }

    -- row r, if it is of kind k
    abbrev pub row_of_kind : ℕ → Row
    row_of_kind k =
        if_else (eqb k 10) (literal_row (field_at rows r 1))
        (if_else (eqb k 11) element_row
        (if_else (eqb k 12) (row 5 (natural_at rows r 1) (referred_row r 2) 0)
        (if_else (eqb k 13) (row 6 (natural_at rows r 1) (referred_row r 2) (referred_row r 3))
        (if_else (eqb k 22) (assigned_row element_row)
        (if_else (eqb k 23) (kept_row 23 (natural_at rows r 1))
        (if_else (eqb k 24) (kept_row 24 (natural_at rows r 1))
        (if_else (eqb k 35) (kept_row 35 (natural_at rows r 1))
        (if_else (ltb k 20) declared_row
        (if_else (ltb k 44) (kept_row k (referred_row r 1))
        no_row)))))))))

  unfoldable pub row_at : ℕ → Row
  row_at r = row_of_kind r (kind_in r)

-- its six numbers
abbrev pub numbers_of : Row → List ℕ
numbers_of w = w.what ∷ w.first ∷ w.second ∷ w.third ∷ w.parent ∷ w.next ∷ []

-- the numbers of n rows, of 1,025 rows
unfoldable pub prepared_to : List ℤ → ℕ → List ℕ
prepared_to rows zero = []
prepared_to rows (suc n) = prepared_to rows n ++ numbers_of (row_at rows n)

unfoldable pub prepared : List ℤ → List ℕ
prepared rows = prepared_to rows 1025

-- an accepted table, prepared
pub record Prepared (rows : List ℤ) (code : List ℕ) : Type 0 where
  pub accepted : check rows ≡ none
  pub same : code ≡ prepared rows

-- number j of row r of what is prepared
abbrev pub place_at : List ℕ → ℕ → ℕ → ℕ
place_at code r j = get_or code (6 * r + j) 0

-- the number of a literal of row r
abbrev pub literal_of : List ℕ → ℕ → ℤ
literal_of code r = pos (place_at code r 2 + 65536 * place_at code r 3) -ℤ pos 2147483648

-- of the declaration that row r names: its first cell or element, how many, one more than its host channel number, its capacity, where its strip begins
module _ (code : List ℕ) (r : ℕ) where
  abbrev pub first_of : ℕ
  first_of = place_at code (place_at code r 1) 1

  abbrev pub size_of : ℕ
  size_of = place_at code (place_at code r 1) 2

  abbrev pub host_of : ℕ
  host_of = place_at code (place_at code r 1) 3

  abbrev pub capacity_of : ℕ
  capacity_of = place_at code (place_at code r 1) 4

  abbrev pub strip_at : ℕ
  strip_at = place_at code (place_at code r 1) 5

-- a row's part in settling, where a row that is none is 1,024
abbrev pub shape_to : List ℤ → Shape → Shape
shape_to rows (Ending m f) = Ending m (present_row rows f)
shape_to rows (Single b) = Single (present_row rows b)
shape_to rows (Link p q) = Link (present_row rows p) (present_row rows q)
shape_to rows Neither = Neither

unfoldable pub shape_in : List ℤ → ℕ → Shape
shape_in rows r = shape_to rows (shape_at rows r)
