-- The pairs of components of the PARs as relations on the rows: their order, which of them clash, and which are compared. No walk, no sets.
use Rattle.std.specs.Prelude.{◌≡◌, ℕ, suc, ◌≤◌, ◌<◌, ℤ}
use mathlib.Core.List.{List, [], ◌∷◌, Memᴰ}
use Rattle.meaning.specs.Rows.{kind_at}
use Rattle.meaning.specs.References.{of-a, of-b, Refers}
use Rattle.meaning.specs.Clash.{Counts, Changed, Used, InputFrom, OutputTo}

-- a pair to be compared: the refusal number for whose sort it is, the PAR's row, and the first and the second member by their places in the PAR's list, from 0 on
pub record MemberPair : Type 0 where
  pub number : ℕ
  pub row : ℕ
  pub first : ℕ
  pub second : ℕ

-- "the order that the refusal table gives, pairs in one PAR by first, then second member": one goes before another
pub data Earlier (x y : MemberPair) : Type 0 where
  by_number : x.number < y.number → Earlier x y
  by_row : x.number ≡ y.number → x.row < y.row → Earlier x y
  by_first : x.number ≡ y.number → x.row ≡ y.row → x.first < y.first → Earlier x y
  by-second : x.number ≡ y.number → x.row ≡ y.row → x.first ≡ y.first → x.second < y.second → Earlier x y

-- pairs in that order, each once: each goes before all that follow it
abbrev pub InOrder : List MemberPair → Type 0
InOrder [] = Unit {0}
InOrder (x ∷ l) = ((y : MemberPair) → Memᴰ y l → Earlier x y) × InOrder l

module _ (rows : List ℤ) where
  -- member i of the PAR at row r is row m: "a first member", and of each member "b next"
  pub data MemberAt (r : ℕ) : ℕ → ℕ → Type 0 where
    first_member : {m : ℕ} → kind_at rows r ≡ 31 → Refers rows r of-a m → MemberAt r 0 m
    next-member : {i m n : ℕ} → MemberAt r i m → Refers rows m of-b n → MemberAt r (suc i) n

  -- component i of the PAR at row r, its member's process, stands at row p
  pub data ComponentAt (r i p : ℕ) : Type 0 where
    component : {m : ℕ} → MemberAt r i m → Refers rows m of-a p → ComponentAt r i p

  -- a pair of the table: of two components of a PAR, "in each of the three sorts"
  pub record IsPair (x : MemberPair) : Type 0 where
    pub sort : (7 ≤ x.number) × (x.number ≤ 9)
    pub apart : x.first < x.second
    pub one : (p : ℕ) × ComponentAt x.row x.first p
    pub other : (q : ℕ) × ComponentAt x.row x.second q

  -- components i and j of the PAR at row r clash as the refusal of this number names it
  pub data ClashOf (r i j : ℕ) : ℕ → Type 0 where
    first-changes : {p q v k : ℕ} → ComponentAt r i p → ComponentAt r j q → Changed rows (Counts rows) p v k → Used rows (Counts rows) q v k → ClashOf r i j 7
    second-changes : {p q v k : ℕ} → ComponentAt r i p → ComponentAt r j q → Changed rows (Counts rows) q v k → Used rows (Counts rows) p v k → ClashOf r i j 7
    both-input : {p q c k : ℕ} → ComponentAt r i p → ComponentAt r j q → InputFrom rows (Counts rows) p c k → InputFrom rows (Counts rows) q c k → ClashOf r i j 8
    both-output : {p q c k : ℕ} → ComponentAt r i p → ComponentAt r j q → OutputTo rows (Counts rows) p c k → OutputTo rows (Counts rows) q c k → ClashOf r i j 9

  abbrev pub PairClashes : MemberPair → Type 0
  PairClashes x = ClashOf x.row x.first x.second x.number

  -- "compare no pair of components after it has its clash": the pairs before which none clashes
  abbrev pub Compared : MemberPair → Type 0
  Compared x = IsPair x × ((y : MemberPair) → IsPair y → Earlier y x → ¬ PairClashes y)
