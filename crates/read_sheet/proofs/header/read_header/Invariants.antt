use mathlib.Core.Path.{◌≡◌}
use Rattle.meaning.specs.Declarations.{declarations}
use Rattle.read_sheet.proofs.HeaderLaws.{Matched}
use Rattle.read_sheet.proofs.header.read_header.Given as goal

abbrev pub invariant-loop-r : goal.invariant-loop-r
invariant-loop-r l = (l.declared ≡ declarations l.rows) × Matched l.rows l.sheet l.at l.count l.r
