-- The new number of each row: where its form stands in the table that is numbered top down.
use Rattle.std.specs.Prelude.{◌≡◌, List, ℕ, suc, ◌+◌, ◌*◌, ◌≤◌, ◌<◌, ℤ, pos, ltb, length, get_or}
use Rattle.std.proofs.Math.Option.{none}
use Rattle.meaning.specs.Basics.{if_else}
use Rattle.meaning.specs.Rows.{row_count, kind_at}
use Rattle.meaning.specs.Declarations.{declarations}
use Rattle.meaning.specs.Verdict.{form_fault, tree_fault}
use Rattle.meaning.specs.References.{Column, of-a, of-b, of_c, field_of, number_of, Refers, Beneath}
use Rattle.base_top_down.specs.Forms.{Form, absent, is_reference, shape_for, item_of, form_at, form_size, row_of_b, row_of_c, top_down}
use Rattle.base_top_down.specs.Laid.{Laid}

-- rows in which the stages 3, 4 and 5 find nothing
pub record FormPassed (rows : List ℤ) : Type 0 where
  pub few : row_count rows ≤ 1024
  pub form : form_fault rows ≡ none
  pub tree : tree_fault rows ≡ none

-- the sizes of the forms of all rows from r on
pub record Sizes (rows : List ℤ) (r : ℕ) (sizes : List ℕ) : Type 0 where
  pub room : row_count rows ≤ length sizes
  pub short : length sizes ≤ 1024
  pub right : (t : ℕ) → r ≤ t → t < row_count rows → get_or sizes t 0 ≡ form_size (form_at rows t)

-- what field p of row r holds
abbrev pub item_of_row : List ℤ → ℕ → Column → Form
item_of_row rows r p = item_of (λ t. if_else (ltb r t) (form_at rows t) absent) (is_reference (field_of (shape_for (kind_at rows r)) p)) (number_of rows r p)

-- where that begins, if row r gets the number m
abbrev pub child_row : List ℤ → ℕ → Column → ℕ → ℕ
child_row rows r of-a m = suc m
child_row rows r of-b m = row_of_b m (item_of_row rows r of-a)
child_row rows r of_c m = row_of_c m (item_of_row rows r of-a) (item_of_row rows r of-b)

-- the new number of a row: the root keeps its own, and each row gives theirs to the rows that it refers to
pub data New (rows : List ℤ) : ℕ → ℕ → Type 0 where
  at-root : New rows (declarations rows) (declarations rows)
  at-child : {r m t : ℕ} (p : Column) → New rows r m → Refers rows r p t → New rows t (child_row rows r p m)

-- its form stands there in the table that is numbered top down
unfoldable pub NewStands : Type 0
NewStands = (rows : List ℤ) (t m : ℕ) → New rows t m → Laid (top_down rows) m (form_at rows t)

-- every row after the declarations has one new number, and every number from the root on is that of a row
unfoldable pub NewEach : Type 0
NewEach = (rows : List ℤ) → tree_fault rows ≡ none → (t : ℕ) → declarations rows ≤ t → t < row_count rows → (m : ℕ) × New rows t m

unfoldable pub NewOne : Type 0
NewOne = (rows : List ℤ) → tree_fault rows ≡ none → (t m n : ℕ) → New rows t m → New rows t n → m ≡ n

unfoldable pub NewOnto : Type 0
NewOnto = (rows : List ℤ) → tree_fault rows ≡ none → (m : ℕ) → declarations rows ≤ m → m < row_count rows → (t : ℕ) × New rows t m × (declarations rows ≤ t) × (t < row_count rows)

-- the number of row t in a list is right
unfoldable pub RightAt : List ℤ → List ℕ → ℕ → Type 0
RightAt rows numbers t = New rows t (get_or numbers t 0)

-- numbers after row r has given theirs to the rows that it refers to: these are right, and none that was right is wrong
pub record Numbered (rows : List ℤ) (r : ℕ) (before after : List ℕ) : Type 0 where
  pub long : length after ≡ length before
  pub kept : (t : ℕ) → RightAt rows before t → RightAt rows after t
  pub given : (p : Column) (t : ℕ) → Refers rows r p t → RightAt rows after t

-- the new numbers of all rows after the declarations
pub record Numbers (rows : List ℤ) (numbers : List ℕ) : Type 0 where
  pub room : row_count rows ≤ length numbers
  pub short : length numbers ≤ 1024
  pub right : (t : ℕ) → declarations rows ≤ t → t < row_count rows → RightAt rows numbers t

-- number p of some rows is that of the table that is numbered top down
unfoldable pub RightNumber : List ℤ → List ℤ → ℕ → Type 0
RightNumber rows out p = get_or out p (pos 0) ≡ get_or (top_down rows) p (pos 0)

-- rows after row m was written: it is right, and nothing that was right is wrong
pub record Wrote (rows : List ℤ) (m : ℕ) (before after : List ℤ) : Type 0 where
  pub long : length after ≡ length before
  pub kept : (p : ℕ) → RightNumber rows before p → RightNumber rows after p
  pub given : (j : ℕ) → j < 4 → RightNumber rows after (4 * m + j)

-- no two rows have one new number
unfoldable pub NewApart : Type 0
NewApart = (rows : List ℤ) → tree_fault rows ≡ none → (t u m : ℕ) → New rows t m → New rows u m → t ≡ u

-- the rows beneath a row are those whose numbers follow its own, as many as its form has (request 05: a name stands beneath its block)
unfoldable pub BeneathInside : Type 0
BeneathInside =
    (rows : List ℤ) → tree_fault rows ≡ none → (r t m n : ℕ) → New rows r m → New rows t n
    → (Beneath rows r t → (m < n) × (n < m + form_size (form_at rows r))) × ((m < n) × (n < m + form_size (form_at rows r)) → Beneath rows r t)
