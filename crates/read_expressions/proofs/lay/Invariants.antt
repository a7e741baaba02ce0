use mathlib.Core.Path.{◌≡◌}
use lib.ListN.{length}
use Rattle.read_tokens.specs.Held.{tokens_resolved}
use Rattle.read_expressions.specs.Expressions.{end_of, with_rows}
use Rattle.read_expressions.proofs.LayLoop.{LayLoop}
use Rattle.read_expressions.proofs.lay.Given as goal

abbrev pub invariant-loop-k : goal.invariant-loop-k
invariant-loop-k l = (length l.free ≡ length l.initial.free) × (length l.rows ≡ length l.initial.rows) × LayLoop l.sorts l.values (end_of (tokens_resolved l.sorts l.values) l.n) (with_rows (tokens_resolved l.sorts l.values) l.n l.initial.rows) l.k l.height l.r l.had l.free l.rows
