-- References: what a field of a row refers to, which row refers to which, and the rows beneath a row. "Every reference goes to a higher row of the kind named."
use Rattle.std.specs.Prelude.{◌≡◌, ℕ, ◌<◌, ℤ, pos}
use mathlib.Core.List.{List, Memᴰ}
use Rattle.std.proofs.Math.Option.{some}
use Rattle.meaning.specs.Rows.{row_count, field_at, kind_at}
use Rattle.meaning.specs.Kinds.{Field, unused, literal_value, within, elements, capacity, operator, variable, channel, reference, link, Shape, shape_of}

-- a field of a row: a, b or c
pub data Column : Type 0 where
  of-a : Column
  of-b : Column
  of_c : Column

abbrev pub field_of : Shape → Column → Field
field_of s of-a = s.a
field_of s of-b = s.b
field_of s of_c = s.c

module _ (rows : List ℤ) where
  -- what it holds
  abbrev pub number_of : ℕ → Column → ℤ
  number_of r of-a = field_at rows r 1
  number_of r of-b = field_at rows r 2
  number_of r of_c = field_at rows r 3

  -- row r is of a kind of the table of kinds, with this shape
  abbrev pub IsOf : ℕ → Shape → Type 0
  IsOf r s = shape_of (kind_at rows r) ≡ some s

  -- row t is a higher row of one of the kinds
  abbrev pub IsTarget : ℕ → List ℕ → ℕ → Type 0
  IsTarget r kinds t = (r < t) × (t < row_count rows) × Memᴰ (kind_at rows t) kinds

  -- a field of row r refers to row t, rightly; "such a name is not counted as a reference"
  unfoldable pub RefersBy : ℕ → Field → ℤ → ℕ → Type 0
  RefersBy r unused z t = ⊥
  RefersBy r literal_value z t = ⊥
  RefersBy r (within lo hi) z t = ⊥
  RefersBy r elements z t = ⊥
  RefersBy r capacity z t = ⊥
  RefersBy r operator z t = ⊥
  RefersBy r variable z t = ⊥
  RefersBy r (channel roles) z t = ⊥
  RefersBy r (reference kinds) z t = (z ≡ pos t) × IsTarget r kinds t
  RefersBy r (link kinds) z t = (z ≡ pos t) × IsTarget r kinds t

  -- row r refers to row t, by one of its fields
  unfoldable pub Refers : ℕ → Column → ℕ → Type 0
  Refers r p t = (s : Shape) × IsOf r s × RefersBy r (field_of s p) (number_of r p) t

-- rows beneath a row: those that it refers to, and those beneath them
pub data Beneath (rows : List ℤ) (r : ℕ) : ℕ → Type 0 where
  direct : {t : ℕ} (p : Column) → Refers rows r p t → Beneath rows r t
  further : {s t : ℕ} (p : Column) → Beneath rows r s → Refers rows s p t → Beneath rows r t
