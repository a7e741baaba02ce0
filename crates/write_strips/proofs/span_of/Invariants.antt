use mathlib.Core.Path.{◌≡◌}
use Rattle.meaning.specs.Declarations.{declarations}
use Rattle.write_strips.proofs.Spans.{Passed}
use Rattle.write_strips.proofs.span_of.Given as goal

abbrev pub invariant-loop-r : goal.invariant-loop-r
invariant-loop-r l = (l.d ≡ declarations l.rows) × Passed l.rows l.channel l.limit l.r l.port l.start
