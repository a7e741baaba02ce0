-- A task's answer and arrays before they are put into the lent buffers, and how they are put there.
use Rattle.std.specs.Prelude.{Bool, ◌||◌, Result, Ok, Err, List, ◌++◌, ℕ, ◌≤◌, length, drop, ltb}
use Rattle.meaning.specs.Limits.{max_rows, max_cells, max_host_channels, max_capacity}
use Rattle.meaning.specs.Buffers.{Buffers}
use Rattle.meaning.specs.Answers.{Reply}
use Rattle.meaning.specs.declared.Answer.{Answer}
use Rattle.meaning.specs.declared.Answer.TheVariants.{Refused, Ran}
use Rattle.machine.specs.Held.{blank}
use Rattle.run_steps.specs.declared.result.Run.{Run}
use Rattle.run_steps.specs.Ran.{arrays_in}
use Rattle.write_buffers.specs.declared.Refusal.{Refusal}

-- what a task comes to, as a reply to a call that lent arrays of zeros
abbrev pub reply_in : Result Run Refusal → Reply
reply_in (Ok r) = record { answer = Ran r.outcome r.steps r.ready; buffers = arrays_in r }
reply_in (Err f) = record { answer = Refused f.number f.place; buffers = blank }

-- a list over the first places of another, with what is past them
abbrev pub past : {A : Type 0} → List A → List A → List A
past l old = l ++ drop (length l) old

-- arrays over the first places of the lent buffers: "what is past the limit is untouched"
abbrev pub over : Buffers → Buffers → Buffers
over a b =
    record {
      cells = past a.cells b.cells;
      marks = past a.marks b.marks;
      states = past a.states b.states;
      places = past a.places b.places;
      numbers = past a.numbers b.numbers;
      counts = past a.counts b.counts;
      output_marks = past a.output_marks b.output_marks;
    }

-- "Refused calls write to no lent buffer"
abbrev pub written_unless_refused : Answer → Buffers → Buffers → Buffers
written_unless_refused (Refused n p) a b = b
written_unless_refused (Ran o k n) a b = over a b

-- a reply put into the lent buffers
abbrev pub put_reply : Reply → Buffers → Reply
put_reply r b = record { answer = r.answer; buffers = written_unless_refused r.answer r.buffers b }

-- whether a lent buffer is shorter than its limit, by the lengths of cells, marks, row states, places, numbers, counts and output marks
abbrev pub any_short : ℕ → ℕ → ℕ → ℕ → ℕ → ℕ → ℕ → Bool
any_short a b c d e f g = ltb a max_cells || ltb b max_cells || ltb c max_rows || ltb d max_host_channels || ltb e max_capacity || ltb f max_host_channels || ltb g max_capacity

-- "Each lent buffer must be as long as its limit": the same said of each
pub record Long (b : Buffers) : Type 0 where
  pub cells : max_cells ≤ length b.cells
  pub marks : max_cells ≤ length b.marks
  pub states : max_rows ≤ length b.states
  pub places : max_host_channels ≤ length b.places
  pub numbers : max_capacity ≤ length b.numbers
  pub counts : max_host_channels ≤ length b.counts
  pub output_marks : max_capacity ≤ length b.output_marks
