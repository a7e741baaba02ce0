-- The marks, then the rows. Assumes nothing.
use mathlib.Core.Path.{◌∙◌}
use Rattle.read_expressions.proofs.ExpressionLaws.{spelt, phrase-sorts}
use Rattle.read_expressions.proofs.write_phrase.Goals as goal

pub mark-requires : goal.mark-requires
mark-requires c =
    let sorts = c.args.sorts.now in
    let values = c.args.values.now in
    let (even, short, marks, stack) = c.requires.1 in
    (phrase-sorts sorts values (spelt sorts values even c.requires.0.0), short, stack, marks)

pub returns : goal.returns
returns c =
    let m = c.mark.ensures in
    let l = c.lay.ensures in
    ((m.1, l.0 ∙ m.0), l.1, l.2)
