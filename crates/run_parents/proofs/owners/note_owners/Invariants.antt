use mathlib.Core.Path.{◌≡◌}
use Prim.Native.Nat.{ℕ, ◌<◌, ◌≤◌}
use lib.ListN.{length, get_or}
use Rattle.meaning.specs.Basics.{lowest}
use Rattle.meaning.specs.Rows.{row_count}
use Rattle.run_parents.specs.Marks.{row_note}
use Rattle.run_parents.proofs.OptionLinks.{is_option_of}
use Rattle.run_parents.proofs.owners.note_owners.Given as goal

abbrev pub invariant-loop-r : goal.invariant-loop-r
invariant-loop-r l = (l.r ≤ row_count l.rows) × (length l.owners ≡ length l.initial.owners) × ((j : ℕ) → j < length l.initial.owners → get_or l.owners j 0 ≡ row_note (lowest (is_option_of l.rows j) l.r))
