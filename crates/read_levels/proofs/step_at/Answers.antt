-- The tests in turn, and then the tables. Assumes nothing.
use Rattle.read_levels.proofs.StepSteps.{step-too-deep, step-unended, step-untold, step-told}
use Rattle.read_levels.proofs.step_at.Goals as goal
use Rattle.read_levels.proofs.step_at.Goals.{then-depth-level-via-then-depth-level, then-depth-level-via-else-depth-level+then-not-ended_to}

pub returns-then-depth-level : goal.returns-then-depth-level
returns-then-depth-level c =
    let a = c.args in
    elim c.then-depth-level.branch [
      | then-depth-level-via-then-depth-level w ↦ step-too-deep a.stack.now a.depth a.level a.class w.if-depth-level.true
      | then-depth-level-via-else-depth-level+then-not-ended_to w ↦
          step-unended a.stack.now a.depth a.level a.class w.if-depth-level.false w.ended_to.result w.ended_to.ensures w.if-not-ended_to.true
    ]

pub returns-then-beneath-eq-NONE : goal.returns-then-beneath-eq-NONE
returns-then-beneath-eq-NONE c =
    let a = c.args in
    step-untold a.stack.now a.depth a.level a.class c.if-depth-level.false c.ended_to.result c.ended_to.ensures c.beneath-beneath.result c.beneath-beneath.ensures
    c.if-not-ended_to.false c.if-beneath-eq-NONE.true

pub returns : goal.returns
returns c =
    let a = c.args in
    step-told a.stack.now a.depth a.level a.class c.if-depth-level.false c.ended_to.result c.ended_to.ensures c.beneath-beneath.result c.beneath-beneath.ensures
    c.if-not-ended_to.false c.if-beneath-eq-NONE.false c.after.result c.after.ensures
