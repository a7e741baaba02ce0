-- By whether an operand has been read, and by the token. Assumes nothing.
use mathlib.Core.Path.{refl, sym, ◌∙◌}
use native.Mathlib.Omega.{arith}
use lib.ListN.{length-set}
use Rattle.read_marks.specs.Marks.{starts_after, marks_after}
use Rattle.read_marks.proofs.marks.note.Goals as goal

pub returns-then-not-had : goal.returns-then-not-had
unfolding starts_after marks_after
returns-then-not-had c = rw (c.if-not-had.true) (refl, refl)

pub overflow_cast-marks : goal.overflow_cast-marks
overflow_cast-marks c = omega (arith, c.slice_known-then-is_between-1.given c.args.depth)

pub bounds-marks-starts : goal.bounds-marks-starts
bounds-marks-starts c =
    let h = c.requires.3 (c.if-not-had.false) in
    omega (arith, h, length-set c.args.marks.now c.args.k 0)

pub returns-then-is_between : goal.returns-then-is_between
unfolding starts_after marks_after
returns-then-is_between c = rw (c.if-not-had.false, sym c.is_between.ensures ∙ c.if-is_between.true) (refl, refl)

pub returns-else-is_between : goal.returns-else-is_between
unfolding starts_after marks_after
returns-else-is_between c = rw (c.if-not-had.false, sym c.is_between.ensures ∙ c.if-is_between.false) (refl, refl)
