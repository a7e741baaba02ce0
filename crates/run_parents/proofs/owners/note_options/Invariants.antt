use mathlib.Core.Path.{◌≡◌}
use Prim.Native.Nat.{ℕ, ◌<◌, ◌-◌}
use lib.ListN.{length, get_or}
use Rattle.meaning.specs.Basics.{among}
use Rattle.meaning.specs.Rows.{row_count}
use Rattle.run_parents.specs.Marks.{first_note}
use Rattle.run_parents.proofs.OptionLinks.{options_from}
use Rattle.run_parents.proofs.owners.note_options.Given as goal

abbrev pub invariant-loop-t : goal.invariant-loop-t
invariant-loop-t l = (length l.owners ≡ length l.initial.owners) × ((j : ℕ) → j < length l.initial.owners → first_note (among j (options_from l.rows l.first)) l.note (get_or l.initial.owners j 0) ≡ first_note (among j (options_from l.rows l.t)) l.note (get_or l.owners j 0))

abbrev pub decreases-loop-t : goal.decreases-loop-t
decreases-loop-t l = row_count l.rows - l.t
