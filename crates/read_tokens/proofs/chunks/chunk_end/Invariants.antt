use mathlib.Core.Path.{◌≡◌}
use Prim.Native.Nat.{◌+◌}
use lib.ListN.{drop}
use Rattle.read_tokens.specs.Chunks.{chunk_size}
use Rattle.read_tokens.proofs.chunks.chunk_end.Given as goal

abbrev pub invariant-loop-last : goal.invariant-loop-last
invariant-loop-last l = l.last + chunk_size (drop l.last l.text) ≡ l.from + chunk_size (drop l.from l.text)
