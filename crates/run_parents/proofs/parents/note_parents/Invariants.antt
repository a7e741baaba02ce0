use mathlib.Core.Path.{◌≡◌}
use Prim.Native.Nat.{◌≤◌}
use lib.ListN.{length}
use Rattle.meaning.specs.Rows.{row_count}
use Rattle.run_parents.specs.Parents.{ParentsNumbered, NextOf}
use Rattle.run_parents.proofs.MemberNotes.{NotedBelow}
use Rattle.run_parents.proofs.parents.note_parents.Given as goal

abbrev pub invariant-loop-r : goal.invariant-loop-r
invariant-loop-r l = (l.r ≤ row_count l.rows) × (length l.parents ≡ length l.initial.parents) × (length l.nexts ≡ length l.initial.nexts) × NotedBelow l.rows l.r l.parents × ParentsNumbered (NextOf l.rows) l.initial.parents l.initial.nexts l.parents l.nexts
