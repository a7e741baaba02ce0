use mathlib.Core.Path.{◌≡◌}
use mathlib.Core.List.{List}
use Prim.Native.Nat.{ℕ}
use lib.ListN.{length}
use Rattle.read_levels.specs.Listing.{listing, start_of}
use Rattle.read_processes.specs.Written.{Placed}
use Rattle.read_processes.proofs.WriteSteps.{Writing}
use Rattle.read_processes.proofs.write_lines.Given as goal

abbrev pub invariant-loop-line : goal.invariant-loop-line
invariant-loop-line l =
    (length l.marks ≡ length l.initial.marks) × (length l.stack ≡ length l.initial.stack) × (length l.rows ≡ length l.initial.rows) × (l.first ≡ start_of l.lines.ends.now l.line)
    × ((text : List ℕ) → Placed text l.lines.count (listing l.lines.kinds.now l.lines.ends.now l.lines.sorts.now l.lines.values.now) l.spots.starts.now l.spots.beneath.now l.spots.after.now l.spots.rest.now → Writing text l.initial.rows l.line l.rows)
