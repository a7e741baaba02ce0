use mathlib.Core.Path.{◌≡◌}
use lib.ListN.{length}
use Rattle.base_layout.specs.Names.{sums_below, names_of}
use Rattle.base_layout.proofs.NameLists.{Begins}
use Rattle.base_layout.proofs.note_names.Given as goal

abbrev pub invariant-loop-r : goal.invariant-loop-r
invariant-loop-r l = (l.s ≡ sums_below l.rows l.r) × (length l.names ≡ length l.initial.names) × Begins l.names (names_of l.rows l.r)
