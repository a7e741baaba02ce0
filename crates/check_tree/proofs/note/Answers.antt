-- The count of the row is one more, up to two. Assumes nothing.
use Rattle.std.proofs.Common.{rules, length, get_or}
use borrow.Author.Tests.{lt-ltb, le-ltb}
use Rattle.check_tree.specs.Counts.{one_more_for}
use Rattle.check_tree.proofs.note.Goals.{else-t-counts-via-then-t-counts+else-counts-t-lt2, else-t-counts-via-else-t-counts}
use Rattle.check_tree.proofs.note.Goals as goal

pub returns-then-counts-t-lt2 : goal.returns-then-counts-t-lt2
unfolding one_more_for
returns-then-counts-t-lt2 c =
    let counts = c.args.counts.now in
    rw c.in-Some.is (simp (lt-ltb c.in-Some.t (length counts) c.if-t-counts.true, lt-ltb (get_or counts c.in-Some.t 0) 2 c.if-counts-t-lt2.true))

pub returns-else-t-counts : goal.returns-else-t-counts
unfolding one_more_for
returns-else-t-counts c =
    let counts = c.args.counts.now in
    let t = c.in-Some.t in
    rw c.in-Some.is
    (elim c.else-t-counts.branch [
      | else-t-counts-via-then-t-counts+else-counts-t-lt2 w ↦ simp (lt-ltb t (length counts) w.if-t-counts.true, le-ltb (get_or counts t 0) 2 w.if-counts-t-lt2.false)
      | else-t-counts-via-else-t-counts w ↦ simp (le-ltb t (length counts) w.if-t-counts.false)
    ])

pub returns-in_default : goal.returns-in_default
unfolding one_more_for
returns-in_default c = search rules
