-- Where the strip of an output channel begins and its capacity, no more than a limit.
use Rattle.std.specs.Prelude.{List, ℕ, ◌-◌, min, ℤ, get_or}
use Rattle.meaning.specs.Buffers.{capacities}
use Rattle.machine.specs.Held.{strip_start}
use Rattle.write_strips.specs.declared.Span.{Span}

-- of the channel-th output channel in row order; a table that is not accepted may pass the limit
unfoldable pub span_of : List ℤ → ℕ → ℕ → Span
span_of rows channel limit = record { start = min (strip_start rows channel) limit; size = min (get_or (capacities rows) channel 0) limit }

-- the part of that strip within the limit
unfoldable pub held_span : List ℤ → ℕ → ℕ → Span
held_span rows channel limit =
    let start = min (strip_start rows channel) limit in
    record { start = start; size = min (get_or (capacities rows) channel 0) (limit - start) }
