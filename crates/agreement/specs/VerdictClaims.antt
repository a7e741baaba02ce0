-- The verdict as statements on the rows: what is right in an accepted table, and what a refusal says. To be proved of every table.
use Rattle.std.specs.Prelude.{◌≡◌, ◌↔◌, List, ℕ, suc, ◌≤◌, ◌<◌, ◌%◌, min, ℤ, length}
use Rattle.std.proofs.Math.Option.{none, some}
use Rattle.meaning.specs.Basics.{Lowest}
use Rattle.meaning.specs.Limits.{max_rows}
use Rattle.meaning.specs.Rows.{row_count}
use Rattle.meaning.specs.TableBytes.{numbers_fault}
use Rattle.meaning.specs.Declarations.{declarations}
use Rattle.meaning.specs.Verdict.{form_fault, tree_fault, limit_fault}
use Rattle.meaning.specs.References.{Beneath}
use Rattle.meaning.specs.Faults.{WellFormed, WellPlaced, WithinLimits, WellBlocked, Once}
use Rattle.meaning.specs.Clash.{Clash}
use Rattle.meaning.specs.Usage.{usage_fault}
use Rattle.meaning.specs.Answers.{check}

-- the stages 3 to 6 find nothing: what usage needs, blocks or not
abbrev pub Passed : List ℤ → Type 0
Passed rows = (numbers_fault rows ≡ none) × (form_fault rows ≡ none) × (tree_fault rows ≡ none) × (limit_fault rows ≡ none)

-- r is the lowest of n places that is not right
abbrev pub LowestWrong : (ℕ → Type 0) → ℕ → ℕ → Type 0
LowestWrong Right n r = Lowest (λ q. ¬ Right q) n (some r)

module _ (rows : List ℤ) where
  -- "four to each", 1,024 at most
  abbrev pub WholeRows : Type 0
  WholeRows = (length rows % 4 ≡ 0) × (row_count rows ≤ max_rows)

  abbrev pub EachFormed : Type 0
  EachFormed = (r : ℕ) → r < row_count rows → WellFormed rows r

  abbrev pub EachPlaced : Type 0
  EachPlaced = (r : ℕ) → r < suc (row_count rows) → WellPlaced rows r

  abbrev pub EachLimited : Type 0
  EachLimited = (r : ℕ) → r < declarations rows → WithinLimits rows r

  -- "A name has one block at most, and then stands only beneath it", and no block is the root
  abbrev pub EachBlocked : Type 0
  EachBlocked = (r : ℕ) → r < row_count rows → WellBlocked rows r

  abbrev pub NoClash : Type 0
  NoClash = (r k : ℕ) → ¬ Clash rows r k

  -- "lowest PAR with a clash of that sort; a 7 anywhere goes before an 8, an 8 before a 9"
  abbrev pub LowestClash : ℕ → ℕ → Type 0
  LowestClash number r = Lowest (λ q. Clash rows q number) (row_count rows) (some r) × ((q k : ℕ) → k < number → ¬ Clash rows q k)

  -- the refusals by number and place: each of the first stage with a fault, at the lowest place at fault
  pub data RefusedWith : ℕ → ℕ → Type 0 where
    not-whole : ¬ WholeRows → RefusedWith 3 (min (row_count rows) max_rows)
    not-formed : {r : ℕ} → WholeRows → LowestWrong (WellFormed rows) (row_count rows) r → RefusedWith 4 r
    not-placed : {r : ℕ} → WholeRows → EachFormed → LowestWrong (WellPlaced rows) (suc (row_count rows)) r → RefusedWith 5 r
    over-limit : {r : ℕ} → WholeRows → EachFormed → EachPlaced → LowestWrong (WithinLimits rows) (declarations rows) r → RefusedWith 6 r
    not-blocked : {r : ℕ} → WholeRows → EachFormed → EachPlaced → EachLimited → LowestWrong (WellBlocked rows) (row_count rows) r → RefusedWith 14 r
    clash : {r number : ℕ} → WholeRows → EachFormed → EachPlaced → EachLimited → EachBlocked → LowestClash number r → RefusedWith number r

-- of a table that the stages 3 to 6 pass, the usage stage finds nothing exactly if there is no clash, and else the lowest
abbrev pub UsagePasses : Type 0
UsagePasses = (rows : List ℤ) → Passed rows → (usage_fault rows ≡ none) ↔ NoClash rows

abbrev pub UsageFaults : Type 0
UsageFaults = (rows : List ℤ) → Passed rows → (number r : ℕ) → (usage_fault rows ≡ some (number, r)) ↔ LowestClash rows number r

abbrev pub UsageExact : Type 0
UsageExact = UsagePasses × UsageFaults

-- "A table is accepted if these rules refuse nothing in it"
abbrev pub VerdictExact : Type 0
VerdictExact = (rows : List ℤ) → (check rows ≡ none) ↔ (WholeRows rows × EachFormed rows × EachPlaced rows × EachLimited rows × EachBlocked rows × NoClash rows)

-- a table is refused with a number and a place exactly if the first stage with a fault gives them
abbrev pub RefusalLeast : Type 0
RefusalLeast = (rows : List ℤ) (number place : ℕ) → (check rows ≡ some (number, place)) ↔ RefusedWith rows number place

-- the rows of an accepted table from the root on are the nodes of one tree: every later row is beneath the root, and one field of one
-- row refers to it
abbrev pub OneTreeOfRows : Type 0
OneTreeOfRows = (rows : List ℤ) → check rows ≡ none → (r : ℕ) → declarations rows < r → r < row_count rows → Beneath rows (declarations rows) r × Once rows r
