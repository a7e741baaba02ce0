-- The class by the first mark, or by no mark. Assumes nothing.
use mathlib.Core.Path.{◌∙◌}
use Rattle.read_classes.specs.Rules.{class_by_mark}
use Rattle.read_classes.specs.LineClasses.{class_by_sorts}
use Rattle.read_classes.proofs.MarkSteps.{parts-short, marked, unmarked}
use Rattle.read_classes.proofs.class_of.Goals as goal

pub returns-then-sorts-at : goal.returns-then-sorts-at
unfolding class_by_sorts
returns-then-sorts-at c =
    c.class_by_mark.ensures ∙ unmarked class_by_mark c.args.sorts.now c.first_mark-at.result c.first_mark-at.ensures c.if-sorts-at.true

pub class_by_mark-requires-2 : goal.class_by_mark-requires-2
class_by_mark-requires-2 c =
    parts-short c.args.sorts.now c.first_mark-at.result c.if-sorts-at.false c.requires

pub returns : goal.returns
unfolding class_by_sorts
returns c =
    c.class_by_mark-2.ensures ∙ marked class_by_mark c.args.sorts.now c.first_mark-at.result c.first_mark-at.ensures
