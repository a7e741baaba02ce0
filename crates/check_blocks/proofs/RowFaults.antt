-- A row at fault by its kind, and the lowest that is; a table without blocks has none.
use mathlib.Core.Path.{◌≡◌, sym}
use mathlib.Core.Logic.{inl, inr}
use mathlib.Core.Bool.{true, false, or-false}
use mathlib.Core.List.{List}
use mathlib.Core.Option.{none}
use Prim.Native.Nat.{ℕ, ◌<◌}
use lib.IntN.{ℤ}
use lib.Dec.{eqb}
use borrow.Author.Tests.{eq-eqb, ne_eqb}
use Rattle.meaning.specs.Basics.{among}
use Rattle.meaning.specs.Rows.{row_count, natural_at, kind_at}
use Rattle.meaning.specs.Declarations.{declarations}
use Rattle.meaning.specs.Verdict.{rows_under, is_block, names_variable, block_of, some_not, block_fault_at, block_fault}
use Rattle.meaning.specs.Answers.{verdict_of}
use Rattle.meaning.specs.declared.Verdict.TheVariants.{Accepted, Rejected}
use Rattle.base_kinds.proofs.Truth.{and-false}
use Rattle.base_rows.proofs.LowestFound.{lowest-none, lowest-some, none-passes}
use Rattle.check_blocks.specs.Blocks.{has_block, NamesVariable, is_block_of}

module _ (rows : List ℤ) (d r : ℕ) where
  pub name-fault : NamesVariable rows r → some_not (λ k. among r (rows_under rows k)) (block_of rows (natural_at rows r 1)) ≡ block_fault_at rows d r
  name-fault (inl e) = rw e
  name-fault (inr e) = rw e

  pub root-fault : kind_at rows r ≡ 35 → r ≡ d → true ≡ block_fault_at rows d r
  root-fault e i = rw (e, eq-eqb r d i)

  pub second-fault : kind_at rows r ≡ 35 → ¬ (r ≡ d) → some_not (λ k. eqb k r) (block_of rows (natural_at rows r 1)) ≡ block_fault_at rows d r
  second-fault e n = rw (e, ne_eqb r d n) (sym (or-false (some_not (λ k. eqb k r) (block_of rows (natural_at rows r 1)))))

  pub other-right : ¬ (kind_at rows r ≡ 11) → ¬ (kind_at rows r ≡ 22) → ¬ (kind_at rows r ≡ 35) → false ≡ block_fault_at rows d r
  other-right a b c = rw (ne_eqb (kind_at rows r) 11 a, ne_eqb (kind_at rows r) 22 b, ne_eqb (kind_at rows r) 35 c)

-- the lowest row at fault
module _ (rows : List ℤ) where
  pub fault-at : (r : ℕ) → r < row_count rows
      → ((j : ℕ) → j < r → block_fault_at rows (declarations rows) j ≡ false) → block_fault_at rows (declarations rows) r ≡ true → Rejected 14 r ≡ verdict_of (block_fault rows)
  unfolding block_fault
  fault-at r l f e = rw (lowest-some (block_fault_at rows (declarations rows)) (row_count rows) r l f e)

  pub no-fault : ((j : ℕ) → j < row_count rows → block_fault_at rows (declarations rows) j ≡ false) → Accepted ≡ verdict_of (block_fault rows)
  unfolding block_fault
  no-fault f = rw (lowest-none (block_fault_at rows (declarations rows)) (row_count rows) f)

-- a table without blocks
module _ (rows : List ℤ) where
  no_blocks : has_block rows ≡ false → (r : ℕ) → r < row_count rows → is_block rows r ≡ false
  unfolding has_block
  no_blocks = none-passes (is_block rows) (row_count rows)

  pub no-block-fault : has_block rows ≡ false → block_fault rows ≡ none
  unfolding block_fault block_of
  no-block-fault e = rw (lowest-none (block_fault_at rows (declarations rows)) (row_count rows) right-row)
    where
      none_of : (v : ℕ) → block_of rows v ≡ none
      none_of v = lowest-none (is_block_of rows v) (row_count rows) (λ k l. rw (no_blocks e k l))

      right-row : (r : ℕ) → r < row_count rows → block_fault_at rows (declarations rows) r ≡ false
      right-row r l = rw (no_blocks e r l, none_of (natural_at rows r 1)) (and-false (names_variable rows r))
