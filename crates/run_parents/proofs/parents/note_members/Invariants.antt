use mathlib.Core.Path.{◌≡◌}
use mathlib.Core.List.{List}
use Prim.Native.Nat.{ℕ, ◌-◌}
use lib.ListN.{length}
use Rattle.meaning.specs.Rows.{row_count}
use Rattle.meaning.specs.Tree.{content_at}
use Rattle.run_parents.specs.Parents.{ParentsNumbered, NextOf, ProcessesNoted}
use Rattle.run_parents.proofs.parents.note_members.Given as goal

abbrev pub invariant-loop-t : goal.invariant-loop-t
invariant-loop-t l =
    (length l.parents ≡ length l.initial.parents)
    × (length l.nexts ≡ length l.initial.nexts)
    × ((p : List ℕ) → ProcessesNoted (content_at l.rows l.t).listed l.note l.parents p → ProcessesNoted (content_at l.rows l.m).listed l.note l.initial.parents p)
    × ParentsNumbered (NextOf l.rows) l.initial.parents l.initial.nexts l.parents l.nexts

abbrev pub decreases-loop-t : goal.decreases-loop-t
decreases-loop-t l = row_count l.rows - l.t
