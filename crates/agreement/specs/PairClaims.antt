-- The pairs of components and the count of those compared, as types: the list of comparisons is in the order of the refusal table, and the count is exact. To be proved of every table.
use Rattle.std.specs.Prelude.{◌≡◌, ◌⊎◌, ◌↔◌, ℕ, ◌-◌, ◌*◌, ◌≤◌, ◌<◌, ℤ, length}
use mathlib.Core.List.{List, [], ◌∷◌, Memᴰ}
use Rattle.std.proofs.Math.Option.{Option, none, some}
use Rattle.meaning.specs.Refusals.{Refusal}
use Rattle.meaning.specs.TableBytes.{rows_of}
use Rattle.meaning.specs.Rows.{row_count}
use Rattle.meaning.specs.Declarations.{sum_below}
use Rattle.meaning.specs.Tree.{Process, content_at}
use Rattle.meaning.specs.MemberPairs.{MemberPair, InOrder, ComponentAt, IsPair, Compared}
use Rattle.meaning.specs.Usage.{Comparison, comparisons, pairs_compared}
use Rattle.meaning.specs.Answers.{check, check_bytes, verdict_of, check_counted, check_bytes_counted}
use Rattle.agreement.specs.VerdictClaims.{Passed}

module _ (rows : List ℤ) where
  -- component i of the PAR at row r is this process
  abbrev pub ComponentIs : ℕ → ℕ → Process → Type 0
  ComponentIs r i x = (p : ℕ) × ComponentAt rows r i p × ((content_at rows p).process ≡ some x)

  -- a comparison is that of a pair of the table
  pub record ComparisonOf (c : Comparison) (x : MemberPair) : Type 0 where
    pub number_is : c.number ≡ x.number
    pub row_is : c.row ≡ x.row
    pub one-is : ComponentIs x.row x.first c.pair.one
    pub other-is : ComponentIs x.row x.second c.pair.other

  -- comparisons and pairs, one by one
  pub data OneByOne : List Comparison → List MemberPair → Type 0 where
    no_more : OneByOne [] []
    one_more : {c : Comparison} {x : MemberPair} {l : List Comparison} {m : List MemberPair} → ComparisonOf c x → OneByOne l m → OneByOne (c ∷ l) (x ∷ m)

  -- there are so many pairs of which P holds
  abbrev pub CountOf : (MemberPair → Type 0) → ℕ → Type 0
  CountOf P k = (l : List MemberPair) × InOrder l × ((x : MemberPair) → Memᴰ x l ↔ P x) × (length l ≡ k)

-- the comparisons are the pairs of the table, in the order of the refusal table, each once
abbrev pub ComparisonsInOrder : Type 0
ComparisonsInOrder = (rows : List ℤ) → Passed rows → (l : List MemberPair) × InOrder l × ((x : MemberPair) → Memᴰ x l ↔ IsPair rows x) × OneByOne rows (comparisons rows) l

-- the count is that of the pairs compared
abbrev pub CountExact : Type 0
CountExact = (rows : List ℤ) → Passed rows → CountOf rows (Compared rows) (pairs_compared rows)

-- the count that a check gives beside its verdict
pub data CountBeside (rows : List ℤ) : Option Refusal → ℕ → Type 0 where
  -- "all in each of the three sorts if there is no clash"
  of-all-pairs : {k : ℕ} → CountOf rows (IsPair rows) k → CountBeside rows none k
  -- "up to that one, it included"
  up-to-clash : {number place k : ℕ} → 7 ≤ number → number ≤ 9 → CountOf rows (Compared rows) k → CountBeside rows (some (number, place)) k
  -- none is compared in a table that an earlier stage refuses
  refused-before : {number place : ℕ} → (number < 7) ⊎ (number ≡ 14) → CountBeside rows (some (number, place)) 0

-- of rows, and of bytes: "Beside the verdict, which stays the same"
abbrev pub CountsOfChecks : Type 0
CountsOfChecks = ((rows : List ℤ) → ((check_counted rows).verdict ≡ verdict_of (check rows)) × CountBeside rows (check rows) (check_counted rows).pairs)
    × ((table : List ℕ) → ((check_bytes_counted table).verdict ≡ verdict_of (check_bytes table)) × CountBeside (rows_of table) (check_bytes table) (check_bytes_counted table).pairs)

-- in closed form, for an accepted table: three times half of m (m - 1) for each PAR of m components
abbrev pub CountOfAccepted : Type 0
CountOfAccepted = (rows : List ℤ) (m : ℕ → ℕ) → check rows ≡ none → ((r i : ℕ) → (i < m r) ↔ ((p : ℕ) × ComponentAt rows r i p))
    → 2 * pairs_compared rows ≡ 3 * sum_below (λ r. m r * (m r - 1)) (row_count rows)
