-- Constant subscripts (request 07): what a subscript counts for, told by the machine's own evaluation; and that every table that document 01 accepts is accepted still.
use Rattle.std.specs.Prelude.{◌≡◌, ◌↔◌, ◌≢◌, ℕ, ◌<◌, ℤ, pos}
use Rattle.std.proofs.Math.Option.{none}
use mathlib.Core.List.{List, Memᴰ}
use Rattle.meaning.specs.declared.Value.TheVariants.{Number, Missing}
use Rattle.meaning.specs.declared.Index.TheVariants.{At}
use Rattle.meaning.specs.Rows.{row_count, field_at, kind_at}
use Rattle.meaning.specs.Kinds.{expressions}
use Rattle.meaning.specs.Clash.{Constant, Counts, ClashBy}
use Rattle.meaning.specs.Tree.{content_at}
use Rattle.meaning.specs.Values.{Message, value, index}
use Rattle.meaning.specs.Answers.{check}
use Rattle.agreement.specs.VerdictClaims.{Passed, WholeRows, EachFormed, EachPlaced, EachLimited, EachBlocked}

-- what the subscript at row b counts for in an array of n, whatever the cells hold
pub record SubscriptCounts (rows : List ℤ) (b n : ℕ) (cells : List Message) : Type 0 where
  -- "A subscript made only of literals and operators now counts as its value", and for "nothing if it is outside the array"
  pub by_value : Constant rows b → (x : ℤ) → value cells (content_at rows b).expr ≡ Number x → (i : ℕ) → Counts rows n b i ↔ ((x ≡ pos i) × (i < n))
  -- "If it has no value it counts as every number of the name, as before"
  pub without-value : Constant rows b → (k : ℕ) → value cells (content_at rows b).expr ≡ Missing k → (i : ℕ) → Counts rows n b i ↔ (i < n)
  -- "with any other, every number of the name"
  pub any-other : ¬ Constant rows b → (i : ℕ) → Counts rows n b i ↔ (i < n)
  -- the number that it means in a step is one that it counts for
  pub meant : (i : ℕ) → index cells 0 n (content_at rows b).expr ≡ At i → Counts rows n b i

abbrev pub SubscriptsCount : Type 0
SubscriptsCount = (rows : List ℤ) → Passed rows → (b : ℕ) → b < row_count rows → Memᴰ (kind_at rows b) expressions → (n : ℕ) (cells : List Message) → SubscriptCounts rows b n cells

-- document 01's rule: "With a literal subscript only that number of that name counts, and nothing if it is outside the array; with any other, every number of the name"
pub data LiteralCounts (rows : List ℤ) (n b i : ℕ) : Type 0 where
  literal-only : kind_at rows b ≡ 10 → field_at rows b 1 ≡ pos i → i < n → LiteralCounts rows n b i
  not-literal : kind_at rows b ≢ 10 → i < n → LiteralCounts rows n b i

-- a clash by that rule
abbrev pub LiteralClash : List ℤ → ℕ → ℕ → Type 0
LiteralClash rows = ClashBy rows (LiteralCounts rows)

-- "All sheets accepted until now are accepted still"
abbrev pub AcceptedStill : Type 0
AcceptedStill = (rows : List ℤ) → WholeRows rows × EachFormed rows × EachPlaced rows × EachLimited rows × EachBlocked rows × ((r k : ℕ) → ¬ LiteralClash rows r k) → check rows ≡ none
