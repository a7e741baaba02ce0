-- What the exported functions answer: a reply with its answer as one number, and the strip of an output channel as one number.
use Rattle.std.specs.Prelude.{List, ℕ, ◌+◌, ◌*◌, min, ℤ, get_or}
use Rattle.meaning.specs.Buffers.{Buffers, capacities}
use Rattle.meaning.specs.Answers.{Reply}
use Rattle.meaning.specs.Trace.{TraceLists, TracedReply}
use Rattle.machine.specs.Held.{strip_start}
use Rattle.occam_table.specs.Packing.{answer_number}

-- a call's answer as one number, with what it leaves in the lent buffers
pub record Packed : Type 0 where
  pub number : ℕ
  pub buffers : Buffers

abbrev pub packed : Reply → Packed
packed r = record { number = answer_number r.answer; buffers = r.buffers }

-- of a traced call: the two lists besides
pub record PackedTraced : Type 0 where
  pub reply : Packed
  pub lists : TraceLists

abbrev pub packed_traced : TracedReply → PackedTraced
packed_traced r = record { reply = packed r.reply; lists = r.lists }

-- where the strip of an output channel in row order begins, and its capacity: begin + 65536 * capacity, neither above 65535, which only a table that is not accepted passes
unfoldable pub strip_number : List ℤ → ℕ → ℕ
strip_number rows channel = min (strip_start rows channel) 65535 + 65536 * min (get_or (capacities rows) channel 0) 65535
