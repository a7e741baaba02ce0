-- What is noted of the rows of a table before it is prepared, a row put into the list, and the list filled up to a row.
use Rattle.std.specs.Prelude.{◌≡◌, List, ℕ, suc, ◌+◌, ◌*◌, ◌<◌, ℤ, length, get_or, set}
use Rattle.meaning.specs.Basics.{if_else}
use Rattle.meaning.specs.Rows.{row_count}
use Rattle.meaning.specs.State.{program}
use Rattle.machine.specs.Upward.{parent_of}
use Rattle.machine.specs.RowSteps.{alt_of}
use Rattle.base_layout.specs.declared.Name.{Name}
use Rattle.base_layout.specs.declared.Sort.TheVariants.{Source, Sink}
use Rattle.base_layout.specs.Names.{same_sort}
use Rattle.run_parents.specs.Marks.{row_note}
use Rattle.run_code.specs.declared.Row.{Row}
use Rattle.run_code.specs.Prepared.{next_note, prepared_to}

-- of each row the parent and the next link, and the ALT whose option it is
pub record Noted (rows : List ℤ) (parents nexts owners : List ℕ) : Type 0 where
  pub parent : (r : ℕ) → r < row_count rows → get_or parents r 0 ≡ row_note (parent_of (program rows) r)
  pub next : (r : ℕ) → r < row_count rows → get_or nexts r 0 ≡ next_note rows r
  pub owner : (r : ℕ) → r < row_count rows → get_or owners r 0 ≡ row_note (alt_of (program rows) r)

-- a list with the six numbers of row r put in
abbrev pub row_put : List ℕ → ℕ → Row → List ℕ
row_put l r w = set (set (set (set (set (set l (6 * r) w.what) (6 * r + 1) w.first) (6 * r + 2) w.second) (6 * r + 3) w.third) (6 * r + 4) w.parent) (6 * r + 5) w.next

-- a declaration with the note of a host channel, and where its strip begins
abbrev pub declaration_row : Name → ℕ → ℕ → Row
declaration_row n host strip = record { what = 0; first = n.first; second = n.size; third = host; parent = n.capacity; next = strip }

-- the declaration of a name: a host channel has a note, one to the host a strip
abbrev pub named_row : Name → ℕ → Row
named_row n strip = if_else (same_sort n.sort Source) (declaration_row n (suc n.number) 0) (if_else (same_sort n.sort Sink) (declaration_row n (suc n.number) strip) (declaration_row n 0 0))

-- a list of 6,150 numbers holds the rows below n, prepared, and then zeros
abbrev pub Filled : List ℤ → ℕ → List ℕ → Type 0
Filled rows n code = (length code ≡ 6150) × ((i : ℕ) → get_or code i 0 ≡ get_or (prepared_to rows n) i 0)
