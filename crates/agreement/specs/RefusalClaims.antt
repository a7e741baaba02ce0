-- The numbered refusals, 1 to 11 and 14, each with its place, as types: which numbers a call may be refused with, and where their places are.
use Rattle.std.specs.Prelude.{◌≡◌, ◌≢◌, ◌⊎◌, List, ℕ, ◌≤◌, ◌<◌, ◌+◌, ℤ}
use Rattle.std.proofs.Math.Option.{some}
use Rattle.meaning.specs.declared.Answer.TheVariants.{Refused}
use Rattle.meaning.specs.Limits.{max_rows, max_lines}
use Rattle.meaning.specs.Rows.{row_count, kind_at}
use Rattle.meaning.specs.TableBytes.{rows_of}
use Rattle.meaning.specs.Declarations.{declarations}
use Rattle.meaning.specs.Buffers.{Buffers}
use Rattle.meaning.specs.Answers.{Task, check, check_bytes, reply, reply_to_bytes}

module _ (rows : List ℤ) where
  -- a row of a table of at most 1,024
  abbrev pub RowWithin : ℕ → Type 0
  RowWithin r = (r < row_count rows) × (row_count rows ≤ max_rows)

  -- a refusal of the table: its number and its place
  pub data TableRefusal : ℕ → ℕ → Type 0 where
    -- 2, "line, 0 if too long": of 2 and 3 found in bytes the earlier line wins, so it is at most line 1,026
    malformed-line : {line : ℕ} → line ≤ max_rows + 2 → TableRefusal 2 line
    -- 3, "1,024" and "whole rows, 1,024 at most"
    rows-not-whole : {count : ℕ} → count ≤ max_rows → TableRefusal 3 count
    -- 4, "lowest row at fault"
    wrong-form : {r : ℕ} → RowWithin r → TableRefusal 4 r
    -- 5, "lowest row at fault, or the count of rows if there is no root"
    wrong-place : {r : ℕ} → r ≤ row_count rows → row_count rows ≤ max_rows → TableRefusal 5 r
    -- 6, "declaration that passes a limit"
    passing-declaration : {r : ℕ} → r < declarations rows → RowWithin r → TableRefusal 6 r
    -- 14, "lowest such row": "A block as root, a second block for a name, or the name outside its block", so a block, an element or an assignment
    wrong-block : {r : ℕ} → (kind_at rows r ≡ 35) ⊎ ((kind_at rows r ≡ 11) ⊎ (kind_at rows r ≡ 22)) → RowWithin r → TableRefusal 14 r
    -- 7, 8, 9, "lowest PAR with a clash of that sort"
    clashing-par : {number r : ℕ} → 7 ≤ number → number ≤ 9 → kind_at rows r ≡ 31 → RowWithin r → TableRefusal number r

  -- a refusal of a call
  pub data CallRefusal : ℕ → ℕ → Type 0 where
    -- 1, "place 0"
    short-buffer : CallRefusal 1 0
    of-table : {number place : ℕ} → TableRefusal number place → CallRefusal number place
    -- 10, "line, 0 if too long": one line of channels, at most 128 of values, and the one after
    wrong-line : {line : ℕ} → line ≤ max_lines + 2 → CallRefusal 10 line
    -- 11, "place 0"
    budget-above : CallRefusal 11 0

-- the verdict on rows refuses with 3 to 9 or 14, that on bytes with 2 to 9 or 14
abbrev pub RowsRefused : Type 0
RowsRefused = (rows : List ℤ) (number place : ℕ) → check rows ≡ some (number, place) → TableRefusal rows number place × (number ≢ 2)

abbrev pub BytesRefused : Type 0
BytesRefused = (table : List ℕ) (number place : ℕ) → check_bytes table ≡ some (number, place) → TableRefusal (rows_of table) number place

-- a call on rows refuses with one of these, never with 2; a call on bytes with one of these
abbrev pub RowsCallRefused : Type 0
RowsCallRefused = (t : Task) (b : Buffers) (number place : ℕ) → (reply t b).answer ≡ Refused number place → CallRefusal t.rows number place × (number ≢ 2)

abbrev pub BytesCallRefused : Type 0
BytesCallRefused = (table sheet choices : List ℕ) (budget : ℕ) (b : Buffers) (number place : ℕ)
    → (reply_to_bytes table sheet choices budget b).answer ≡ Refused number place → CallRefusal (rows_of table) number place

-- so the number is from 1 to 11, or 14, and the place at most 1,026
abbrev pub NumbersKnown : Type 0
NumbersKnown = (rows : List ℤ) (number place : ℕ) → CallRefusal rows number place → (1 ≤ number) × ((number ≤ 11) ⊎ (number ≡ 14)) × (place ≤ max_rows + 2)
