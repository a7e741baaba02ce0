-- What a traced run shows: for each of its steps how many were ready and the row that orders the one taken; and the calls that hand it out.
use Rattle.std.specs.Prelude.{Bool, ◌||◌, List, [], ◌∷◌, map, ℕ, zero, suc, ℤ, length, drop, ltb}
use Rattle.std.proofs.Math.Option.{none, some}
use Rattle.meaning.specs.Basics.{if_else}
use Rattle.meaning.specs.Limits.{max_budget}
use Rattle.meaning.specs.Refusals.{Stage}
use Rattle.meaning.specs.State.{State, Program, program}
use Rattle.meaning.specs.Labels.{Label, order_row}
use Rattle.meaning.specs.Readings.{Sheet}
use Rattle.meaning.specs.Settle.{start}
use Rattle.meaning.specs.Ready.{ready, after}
use Rattle.meaning.specs.Order.{chosen_step}
use Rattle.meaning.specs.Sheet.{readings}
use Rattle.meaning.specs.Buffers.{Buffers, lent}
use Rattle.meaning.specs.Stages.{limits, of_bytes, rows_given, Call}
use Rattle.meaning.specs.Answers.{Result, refused, ran, unless, result_of, Task, on_rows, on_bytes, Reply, reply_of}

-- a step of a run: how many steps were ready, and the row that orders the one taken
pub record Shown : Type 0 where
  pub ready : ℕ
  pub row : ℕ

module _ (P : Program) (sheet : Sheet) where
  -- on from a state, with these steps ready: the steps that `go_from` takes
  unfoldable pub shown_from : ℕ → List ℕ → State → List Label → List Shown
  shown_from zero choices s l = []
  shown_from (suc budget) choices s [] = []
  shown_from (suc budget) choices s (x ∷ l) =
      let y = chosen_step choices x l in
      let t = after P sheet y s in
      record { ready = length (x ∷ l); row = order_row y } ∷ shown_from budget (drop 1 choices) t (ready P sheet t)

-- what a run shows, step by step
unfoldable pub trace : List ℤ → Sheet → List ℕ → ℕ → List Shown
trace rows sheet choices budget = let P = program rows in shown_from P sheet budget choices (start P) (ready P sheet (start P))

-- the two lists lent for a trace
pub record TraceLists : Type 0 where
  pub ready_counts : List ℕ
  pub taken_rows : List ℕ

-- each must have a place for every step that a budget allows
abbrev pub lists_too_short : TraceLists → Bool
lists_too_short l = ltb (length l.ready_counts) max_budget || ltb (length l.taken_rows) max_budget

-- 1, place 0: "a lent buffer is too short", of the two lists
unfoldable pub lists_fault : Stage TraceLists
lists_fault l = if_else (lists_too_short l) (some (1, 0)) none

-- a trace in the lent lists: its numbers, then 0 up to place 65,536; what is past that is untouched
unfoldable pub listed : List Shown → TraceLists → TraceLists
listed shown l =
    record {
      ready_counts = lent max_budget 0 (map (λ (x : Shown). x.ready) shown) l.ready_counts;
      taken_rows = lent max_budget 0 (map (λ (x : Shown). x.row) shown) l.taken_rows;
    }

-- what the run of a call shows: `run_of` is that run
abbrev pub trace_of : Call → List Shown
trace_of c = trace (rows_given c.table) (readings (rows_given c.table) c.sheet) c.choices c.budget

-- what a traced call answers and leaves in the lent buffers, and in the two lists
pub record TracedReply : Type 0 where
  pub reply : Reply
  pub lists : TraceLists

-- "Refused calls write to no lent buffer", nor to the two lists
abbrev pub lists_after : Result → List Shown → TraceLists → TraceLists
lists_after (refused f) shown l = l
lists_after (ran r) shown l = listed shown l

-- by the result of a call that lends these buffers and these lists: as an untraced call (`reply_of`), and the lists
abbrev pub traced_reply_of : List ℤ → Buffers → TraceLists → List Shown → Result → TracedReply
traced_reply_of rows b l shown r = record { reply = reply_of rows b r; lists = lists_after r shown l }

-- the traced entry for rows lent as numbers: lists that are too short are refused as buffers are; else the result is that of `reply`
unfoldable pub reply_traced : Task → Buffers → TraceLists → TracedReply
reply_traced t b l =
    let c = on_rows t (some b) in
    traced_reply_of t.rows b l (trace_of c) (unless (lists_fault l) (result_of limits c))

-- the traced entry for a table's bytes
unfoldable pub reply_to_bytes_traced : List ℕ → List ℕ → List ℕ → ℕ → Buffers → TraceLists → TracedReply
reply_to_bytes_traced table sheet choices budget b l =
    let c = on_bytes table sheet choices budget (some b) in
    traced_reply_of (rows_given (of_bytes table)) b l (trace_of c) (unless (lists_fault l) (result_of limits c))
