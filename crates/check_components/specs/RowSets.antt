-- The sets of rows, sixteen words for each: those of the PARs from a row on, and of their components.
use Rattle.std.specs.Prelude.{◌≡◌, ℕ, ◌+◌, ◌*◌, ◌<◌, ◌≤◌, ℤ, length, take, drop, ltb}
use mathlib.Core.List.{List, ◌++◌, Memᴰ}
use Rattle.meaning.specs.Basics.{if_else}
use Rattle.meaning.specs.Rows.{row_count, kind_at}
use Rattle.meaning.specs.Tree.{process_rows, content_at}
use Rattle.base_layout.specs.Operands.{operand_at}
use Rattle.base_sets.specs.Sets.{with_all, no_numbers, sets_at}
use Rattle.check_components.specs.Marks.{all_marks}

-- sets with sixteen words put in the place of those of row r
abbrev pub stored_at : List ℕ → ℕ → List ℕ → List ℕ
stored_at ws r own = take (16 * r) ws ++ (own ++ drop (16 * r + 16) ws)

module _ (rows : List ℤ) where
  -- what the process at row p counts for
  abbrev pub process_sets : ℕ → List ℕ
  process_sets p = with_all no_numbers (all_marks (content_at rows p).process)

  -- the sets of row p are those of its process
  abbrev pub HasSets : List ℕ → ℕ → Type 0
  HasSets ws p = sets_at ws p ≡ process_sets p

  -- the rows of the components of the PAR at row r
  abbrev pub component_rows : ℕ → List ℕ
  component_rows r = process_rows (content_at rows (operand_at rows r 1)).listed

  -- the sets of every PAR from row r on are there
  abbrev pub ParsHave : List ℕ → ℕ → Type 0
  ParsHave ws r = (length ws ≡ 16 * row_count rows) × ((k : ℕ) → r ≤ k → k < row_count rows → kind_at rows k ≡ 31 → HasSets ws k)

  -- and those of its components
  pub record SetsFrom (ws : List ℕ) (r : ℕ) : Type 0 where
    pub pars : ParsHave ws r
    pub components : (k p : ℕ) → r ≤ k → k < row_count rows → kind_at rows k ≡ 31 → Memᴰ p (component_rows k) → HasSets ws p

  -- sets with those of the process at row p, if that is a row of the table
  abbrev pub with_component : List ℕ → ℕ → List ℕ
  with_component ws p = if_else (ltb p (row_count rows)) (stored_at ws p (process_sets p)) ws
