-- The parent of each row, noted once for a table: the process that it is a member of, and the link to the members after it.
use Rattle.std.specs.Prelude.{◌≡◌, ◌⊎◌, Bool, false, List, map, ℕ, ◌+◌, ◌<◌, ℤ, length, get_or, set, ltb, eqb}
use Rattle.std.proofs.Math.Option.{Option, none, some}
use Rattle.meaning.specs.Basics.{if_else, among, lowest}
use Rattle.meaning.specs.Rows.{row_count}
use Rattle.meaning.specs.Tree.{Processes, content_at, processes_in, process_rows}
use Rattle.meaning.specs.Usage.{numbers_from}
use Rattle.meaning.specs.State.{program, process_at}
use Rattle.run_parents.specs.declared.shape.Shape.{Shape}
use Rattle.run_parents.specs.declared.shape.Shape.TheVariants.{Ending, Single, Link, Neither}
use Rattle.run_parents.specs.Members.{only_process}
use Rattle.run_parents.specs.Shapes.{shape_at}
use Rattle.machine.specs.Upward.{parent_of}
use Rattle.run_parents.specs.Marks.{row_note, first_note}

-- row t, or the row after the last where it is past the table
abbrev pub in_table : List ℤ → ℕ → ℕ
in_table rows t = if_else (ltb t (row_count rows)) t (row_count rows)

-- is a row, by its part in settling, the link to the member of row p
abbrev pub is_link_to : ℕ → Shape → Bool
is_link_to p (Ending m f) = false
is_link_to p (Single b) = false
is_link_to p (Link q t) = eqb q p
is_link_to p Neither = false

-- the link after a link
abbrev pub link_after : List ℤ → Shape → ℕ
link_after rows (Ending m f) = row_count rows
link_after rows (Single b) = row_count rows
link_after rows (Link q t) = in_table rows t
link_after rows Neither = row_count rows

abbrev pub link_after_row : List ℤ → Option ℕ → ℕ
link_after_row rows none = row_count rows
link_after_row rows (some t) = link_after rows (shape_at rows t)

-- the link after the one to the member of row p; the row after the last where there is none, or p is the process of a WHILE or a block
unfoldable pub next_link : List ℤ → ℕ → ℕ
next_link rows p = link_after_row rows (lowest (λ t. is_link_to p (shape_at rows t)) (row_count rows))

-- a number for a row that has a parent, the old one for any other
abbrev pub if_parent : Option ℕ → ℕ → ℕ → ℕ
if_parent none new old = old
if_parent (some q) new old = new

-- one more than the parent of each of n rows, 0 where it has none
unfoldable pub parent_notes : List ℤ → ℕ → List ℕ
parent_notes rows n = map (λ r. row_note (parent_of (program rows) r)) (numbers_from 0 n)

-- the next link of each row that has a parent, in place of old numbers
unfoldable pub next_notes : List ℤ → List ℕ → List ℕ
next_notes rows old = map (λ r. if_parent (parent_of (program rows) r) (next_link rows r) (get_or old r 0)) (numbers_from 0 (length old))

-- a number at row p of a list, where row p has no parent yet
abbrev pub where_free : List ℕ → ℕ → List ℕ → ℕ → List ℕ
where_free parents p l n = if_else (eqb (get_or parents p 0) 0) (set l p n) l

-- a parent is noted at each row of a list that has none yet; other notes stay
pub record NotedAtEach (list : List ℕ) (note : ℕ) (parents parents_left : List ℕ) : Type 0 where
  pub parent : (j : ℕ) → get_or parents_left j 0 ≡ first_note (among j list) note (get_or parents j 0)

-- a parent is noted at each of some members
abbrev pub ProcessesNoted : Processes → ℕ → List ℕ → List ℕ → Type 0
ProcessesNoted ms = NotedAtEach (process_rows ms)

-- each row's notes are as they were, or new: a parent, and a number n at row j of which `At j n`
pub record ParentsNumbered (At : ℕ → ℕ → Type 0) (parents nexts parents_left nexts_left : List ℕ) : Type 0 where
  pub number : (j : ℕ) → ((get_or parents_left j 0 ≡ get_or parents j 0) × (get_or nexts_left j 0 ≡ get_or nexts j 0)) ⊎ ((get_or parents_left j 0 ≡ 0 → ⊥) × At j (get_or nexts_left j 0))

module _ (rows : List ℤ) where
  -- the link after the one to row j, or the row after the last if j is the process of a WHILE or a block
  abbrev pub NextOf : ℕ → ℕ → Type 0
  NextOf j n = (j < row_count rows) × (((t q : ℕ) × (t < row_count rows) × (shape_at rows t ≡ Link j q) × (n ≡ in_table rows q)) ⊎ ((w : ℕ) × (w < row_count rows) × (shape_at rows w ≡ Single j) × (n ≡ row_count rows)))

  -- link t at row p
  abbrev pub NextIs : ℕ → ℕ → ℕ → ℕ → Type 0
  NextIs p t j n = (j ≡ p) × (p < row_count rows) × (n ≡ in_table rows t)

  -- a parent is noted at row p, if a process stands there
  abbrev pub ProcessNoted : ℕ → ℕ → List ℕ → List ℕ → Type 0
  ProcessNoted p = ProcessesNoted (only_process (content_at rows p).process)

  -- row r is noted at each member of its process
  abbrev pub RowNoted : ℕ → List ℕ → List ℕ → Type 0
  RowNoted r = ProcessesNoted (processes_in (process_at (program rows) r)) (r + 1)
