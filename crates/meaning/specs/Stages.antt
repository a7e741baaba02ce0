-- The stages of a call, in their order: the one list of which the verdicts, the answers and the sheet runner are made.
-- The first stage at fault answers. A new refusal is one more line, in its place.
use Rattle.std.specs.Prelude.{List, [], ◌∷◌, ◌++◌, map, ℕ, ℤ, ltb}
use Rattle.std.proofs.Math.Option.{Option, none, some}
use Rattle.meaning.specs.Basics.{if_else}
use Rattle.meaning.specs.Limits.{max_budget}
use Rattle.meaning.specs.Refusals.{Stage}
use Rattle.meaning.specs.TableBytes.{bytes_fault, rows_of, numbers_fault}
use Rattle.meaning.specs.Verdict.{form_fault, tree_fault, limit_fault, block_fault}
use Rattle.meaning.specs.Usage.{usage_fault}
use Rattle.meaning.specs.Sheet.{sheet_fault}
use Rattle.meaning.specs.Buffers.{Buffers, too_short}

-- the limits in which calls differ
pub record Limits : Type 0 where
  pub budget : ℕ

-- those of the paper: "budget 65,536"
abbrev pub limits : Limits
limits = record { budget = max_budget }

-- a table: "rows lent as numbers", or "table bytes"
pub data Table : Type 0 where
  of_numbers : List ℤ → Table
  of_bytes : List ℕ → Table

-- its rows
abbrev pub rows_given : Table → List ℤ
rows_given (of_numbers rows) = rows
rows_given (of_bytes table) = rows_of table

-- "a table, a readings sheet, a list of choices and a step budget", with the buffers that are lent, if any are
pub record Call : Type 0 where
  pub lent : Option Buffers
  pub table : Table
  pub sheet : List ℕ
  pub choices : List ℕ
  pub budget : ℕ

-- a stage that looks at the lent buffers, if there are any
abbrev pub in_lent : Stage Buffers → Stage (Option Buffers)
in_lent stage none = none
in_lent stage (some b) = stage b

-- one that looks at the bytes of a table, if it is bytes
abbrev pub in_bytes : Stage (List ℕ) → Stage Table
in_bytes stage (of_numbers rows) = none
in_bytes stage (of_bytes table) = stage table

-- one that looks at its rows
abbrev pub in_rows : Stage (List ℤ) → Stage Table
in_rows stage t = stage (rows_given t)

-- one that looks at the table of a call
abbrev pub on_table : Stage Table → Stage Call
on_table stage c = stage c.table

-- 1: "a lent buffer is too short"
unfoldable pub buffer_fault : Stage Buffers
buffer_fault b = if_else (too_short b) (some (1, 0)) none

-- 11: "budget above 65,536"
unfoldable pub budget_fault : ℕ → Stage ℕ
budget_fault limit budget = if_else (ltb limit budget) (some (11, 0)) none

-- The lent buffers
abbrev pub lent_stages : List (Stage Call)
lent_stages =
    -- 1, place 0: "a lent buffer is too short"
    (λ c. in_lent buffer_fault c.lent)
    ∷ []

-- What is given as a table
abbrev pub input_stages : List (Stage Table)
input_stages =
    -- 2, "line, 0 if too long": "table bytes not as above"; 3, 1,024: "more rows (in bytes, line 1,026 exists)"
    in_bytes bytes_fault
    -- 3, "whole rows, 1,024 at most": "rows lent as numbers, not four to each", or more than 1,024
    ∷ in_rows numbers_fault
    ∷ []

-- Its rows, before components are compared
abbrev pub stages_before_usage : List (Stage (List ℤ))
stages_before_usage =
    -- 4, "lowest row at fault": "unknown kind, late declaration, operator or value out of range, a name that is no declaration ..."
    form_fault
    -- 5, "lowest row at fault, or the count of rows if there is no root": "reference wrong ..., a root that is no process, or a row referred to other than once"
    ∷ tree_fault
    -- 6, "declaration that passes a limit": "cells, elements, host channels, capacities"
    ∷ limit_fault
    -- 14, "lowest such row": "A block as root, a second block for a name, or the name outside its block"
    ∷ block_fault
    ∷ []

-- Its rows
abbrev pub row_stages : List (Stage (List ℤ))
row_stages =
    stages_before_usage
    -- 7, 8, 9, "lowest PAR with a clash of that sort": "7 cell, 8 input, 9 output"
    ++ (usage_fault ∷ [])

-- The table: what the verdict looks at
abbrev pub table_stages : List (Stage Table)
table_stages = input_stages ++ map in_rows row_stages

-- What else is given, beside an accepted table
abbrev pub call_stages : Limits → List (Stage Call)
call_stages l =
    -- 10, "line, 0 if too long": "readings not as above"
    (λ c. sheet_fault (rows_given c.table) c.sheet)
    -- 11, place 0: "budget above 65,536"
    ∷ (λ c. budget_fault l.budget c.budget)
    ∷ []

-- All of them
abbrev pub stages : Limits → List (Stage Call)
stages l = lent_stages ++ (map on_table table_stages ++ call_stages l)
