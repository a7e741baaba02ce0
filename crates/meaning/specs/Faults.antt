-- Refusals 4, 5, 6 and 14 as statements: what it is for a row to be right, with no test and no order of looking.
use Rattle.std.specs.Prelude.{◌≡◌, ◌⊎◌, ℕ, suc, ◌≤◌, ◌<◌, ℤ, pos, negsuc, ◌≤ℤ◌}
use mathlib.Core.List.{List, Memᴰ}
use Rattle.meaning.specs.Limits.{max_cells, max_elements, max_host_channels, max_capacity, min_number, max_number}
use Rattle.meaning.specs.Rows.{row_count, field_at, natural_at, kind_at}
use Rattle.meaning.specs.Declarations.{declarations, sum_below, cells_at, elements_at, host_channels_at, capacity_at}
use Rattle.meaning.specs.Kinds.{Field, unused, literal_value, within, elements, capacity, operator, variable, channel, reference, link, Shape, processes}
use Rattle.meaning.specs.References.{Column, field_of, number_of, IsOf, IsTarget, Refers, Beneath}

module _ (rows : List ℤ) where
  -- z is the row of a declaration of kind k, r
  abbrev pub Names : ℕ → ℤ → ℕ → Type 0
  Names k z r = (z ≡ pos r) × (r < declarations rows) × (kind_at rows r ≡ k)

  -- what a field of row r may hold as far as 4 says
  unfoldable pub MayHold : ℕ → Field → ℤ → Type 0
  MayHold r unused z = z ≡ pos 0
  MayHold r literal_value z = (min_number ≤ℤ z) × (z ≤ℤ max_number)
  MayHold r (within lo hi) z = (lo ≤ℤ z) × (z ≤ℤ hi)
  MayHold r elements z = ((pos 1 ≤ℤ z) × (z ≤ℤ pos 64)) × ((field_at rows r 2 ≡ pos 0) ⊎ (z ≡ pos 1))
  MayHold r capacity z = ((pos 0 ≤ℤ z) × (z ≤ℤ pos 256)) × ((field_at rows r 2 ≡ pos 2) ⊎ (z ≡ pos 0))
  MayHold r operator z = ((pos 0 ≤ℤ z) × (z ≤ℤ pos 2)) × ¬ ((z ≡ pos 2) × ((t : ℕ) × ((field_at rows r 2 ≡ pos t) × (t < row_count rows) × ¬ (kind_at rows t ≡ 11))))
  MayHold r variable z = (q : ℕ) × Names 1 z q
  MayHold r (channel roles) z = (q : ℕ) × Names 2 z q × ((role : ℕ) × Memᴰ role roles × (natural_at rows q 2 ≡ role))
  MayHold r (reference kinds) z = Unit {0}
  MayHold r (link kinds) z = Unit {0}

  -- 4: a row of a known kind, a declaration only where they come first, fields and names right, unused fields 0
  unfoldable pub WellFormed : ℕ → Type 0
  WellFormed r =
      (((kind_at rows r ≡ 1) ⊎ (kind_at rows r ≡ 2)) → r < declarations rows)
      × ((s : Shape) × IsOf rows r s × MayHold r s.a (field_at rows r 1) × MayHold r s.b (field_at rows r 2) × MayHold r s.c (field_at rows r 3))

  -- what a field of row r may hold as far as 5 says
  unfoldable pub Leads : ℕ → Field → ℤ → Type 0
  Leads r unused z = Unit {0}
  Leads r literal_value z = Unit {0}
  Leads r (within lo hi) z = Unit {0}
  Leads r elements z = Unit {0}
  Leads r capacity z = Unit {0}
  Leads r operator z = Unit {0}
  Leads r variable z = Unit {0}
  Leads r (channel roles) z = Unit {0}
  Leads r (reference kinds) z = (t : ℕ) × (z ≡ pos t) × IsTarget rows r kinds t
  Leads r (link kinds) z = (z ≡ negsuc 0) ⊎ ((t : ℕ) × (z ≡ pos t) × IsTarget rows r kinds t)

  -- "Each later row is referred to once": by one row and one of its fields, and by no other
  unfoldable pub Once : ℕ → Type 0
  Once t = (r : ℕ) × (p : Column) × Refers rows r p t × ((q : ℕ) (o : Column) → Refers rows q o t → (q ≡ r) × (o ≡ p))

  -- of a row after the declarations: its references lead to where they may; the root is a process and nothing refers to it;
  -- each other row is referred to once
  unfoldable pub Placed : ℕ → Type 0
  Placed r =
      ((s : Shape) → IsOf rows r s → (p : Column) → Leads r (field_of s p) (number_of rows r p))
      × ((r ≡ declarations rows) → Memᴰ (kind_at rows r) processes)
      × ((r ≡ declarations rows) → (q : ℕ) (o : Column) → ¬ Refers rows q o r)
      × (¬ (r ≡ declarations rows) → Once r)

  -- 5: such a row is placed so; the count of rows is a place at fault if there is no root
  unfoldable pub WellPlaced : ℕ → Type 0
  WellPlaced r = ((r ≡ row_count rows) → ¬ (declarations rows ≡ r)) × ((declarations rows ≤ r) × (r < row_count rows) → Placed r)

  -- 6: the sums up to and with row r are within the limits
  unfoldable pub WithinLimits : ℕ → Type 0
  WithinLimits r =
      (sum_below (cells_at rows) (suc r) ≤ max_cells)
      × (sum_below (elements_at rows) (suc r) ≤ max_elements)
      × (sum_below (host_channels_at 1 rows) (suc r) ≤ max_host_channels)
      × (sum_below (host_channels_at 2 rows) (suc r) ≤ max_host_channels)
      × (sum_below (capacity_at rows) (suc r) ≤ max_capacity)

  -- row k is a block of the variable v
  abbrev pub BlockOf : ℕ → ℕ → Type 0
  BlockOf v k = (k < row_count rows) × (kind_at rows k ≡ 35) × (natural_at rows k 1 ≡ v)

  -- row r, an element or assignment, names it
  abbrev pub NamesIt : ℕ → ℕ → Type 0
  NamesIt v r = ((kind_at rows r ≡ 11) ⊎ (kind_at rows r ≡ 22)) × (natural_at rows r 1 ≡ v)

  -- 14: a block is not the root, and no lower row is a block of its name; a row that names a variable stands beneath the lowest block of it
  unfoldable pub WellBlocked : ℕ → Type 0
  WellBlocked r =
      (kind_at rows r ≡ 35 → ¬ (r ≡ declarations rows) × ((k : ℕ) → BlockOf (natural_at rows r 1) k → r ≤ k))
      × ((v : ℕ) → NamesIt v r → (k : ℕ) → BlockOf v k → ((j : ℕ) → BlockOf v j → k ≤ j) → Beneath rows k r)
