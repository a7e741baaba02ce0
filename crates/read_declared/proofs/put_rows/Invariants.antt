use Rattle.read_levels.specs.Listing.{listing}
use Rattle.read_declared.proofs.GatherSteps.{Putting}
use Rattle.read_declared.proofs.put_rows.Given as goal

abbrev pub invariant-loop-line : goal.invariant-loop-line
invariant-loop-line l = Putting l.count (listing l.kinds l.ends l.sorts l.values) l.initial.rows l.line l.first l.found l.rows
