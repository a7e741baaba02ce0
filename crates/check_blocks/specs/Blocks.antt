-- Whether a table has a block; the lowest block of each name as the code's list holds it, and what the code's three lists hold together.
use Rattle.std.specs.Prelude.{◌≡◌, ◌⊎◌, Bool, ◌&&◌, List, ℕ, ◌≤◌, ◌<◌, ℤ, length, get_or, set, eqb, Option, Some, None, is_none}
use Rattle.meaning.specs.Basics.{if_else, is_some, lowest}
use Rattle.meaning.specs.Rows.{row_count, natural_at, kind_at}
use Rattle.meaning.specs.Declarations.{declarations}
use Rattle.meaning.specs.Verdict.{is_block}
use Rattle.base_rows.specs.Places.{place_of}
use Rattle.base_top_down.specs.New.{FormPassed, Sizes, Numbers}

module _ (rows : List ℤ) where
  -- is there a block
  unfoldable pub has_block : Bool
  has_block = is_some (lowest (is_block rows) (row_count rows))

  -- a row of the table that is no declaration
  abbrev pub FromRoot : ℕ → Type 0
  FromRoot r = (declarations rows ≤ r) × (r < row_count rows)

  -- an element or an assignment: it names a variable
  abbrev pub NamesVariable : ℕ → Type 0
  NamesVariable r = (kind_at rows r ≡ 11) ⊎ (kind_at rows r ≡ 22)

  -- is row k a block of the name v
  abbrev pub is_block_of : ℕ → ℕ → Bool
  is_block_of v k = is_block rows k && eqb (natural_at rows k 1) v

  -- the lowest block of each name among the first n rows
  unfoldable pub BlocksNoted : ℕ → List (Option ℕ) → Type 0
  BlocksNoted n blocks = (length blocks ≡ 1024) × ((v : ℕ) → v < 1024 → get_or blocks v None ≡ place_of (lowest (is_block_of v) n))

  -- row r is noted for its name if it is a block and no lower row is noted
  unfoldable pub with_row : ℕ → List (Option ℕ) → List (Option ℕ)
  with_row r blocks = let v = natural_at rows r 1 in if_else (is_block rows r && is_none (get_or blocks v None)) (set blocks v (Some r)) blocks

  -- rows that the stages 3, 4 and 5 pass, the lowest block of each name, and the numbers and sizes of all rows from the root on
  pub record BlockFacts (blocks : List (Option ℕ)) (numbers sizes : List ℕ) : Type 0 where
    pub passed : FormPassed rows
    pub lowest_noted : BlocksNoted (row_count rows) blocks
    pub numbered : Numbers rows numbers
    pub sized : Sizes rows (declarations rows) sizes
