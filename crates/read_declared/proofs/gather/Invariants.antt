use mathlib.Core.Path.{◌≡◌}
use lib.ListN.{length}
use Rattle.read_levels.specs.Listing.{listing}
use Rattle.read_declared.proofs.GatherSteps.{Gathering}
use Rattle.read_declared.proofs.gather.Given as goal

abbrev pub invariant-loop-line : goal.invariant-loop-line
invariant-loop-line l = Gathering l.count (listing l.kinds l.ends l.sorts l.values) l.line l.first l.found l.froms l.sizes l.roles × (length l.froms ≡ length l.initial.froms) × (length l.sizes ≡ length l.initial.sizes) × (length l.roles ≡ length l.initial.roles)
