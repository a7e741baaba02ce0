-- By the sort of the first mark. Assumes nothing.
use mathlib.Core.Path.{sym, ◌∙◌}
use lib.Seq.{length-take-le}
use native.Mathlib.Omega.{arith}
use lib.ListN.{get_or}
use Rattle.read_classes.specs.Rules.{event_by_mark}
use Rattle.read_classes.proofs.MarkSteps.{sorts_before, sorts_after, parts-short, marked, unmarked}
use Rattle.read_classes.proofs.RuleSteps.{event-skips, event-asks, event-other}
use Rattle.read_classes.proofs.parts.is_event.Goals as goal

pub returns-then-part-at : goal.returns-then-part-at
returns-then-part-at c =
    unmarked event_by_mark c.args.part.now c.first_mark-at.result c.first_mark-at.ensures c.if-part-at.true

pub slice_bounds-before-end : goal.slice_bounds-before-end
slice_bounds-before-end c = sym (length-take-le _ _ (omega (arith, c.if-part-at.false)))

pub is_exchange-requires : goal.is_exchange-requires
is_exchange-requires c =
    parts-short c.args.part.now c.first_mark-at.result c.if-part-at.false c.requires

pub returns-in-13 : goal.returns-in-13
returns-in-13 c =
    let ss = c.args.part.now in
    let at = c.first_mark-at.result in
    c.is_alone.ensures ∙ event-skips (get_or ss at 0) (sorts_before ss at) (sorts_after ss at) c.in-13.is ∙ marked event_by_mark ss at c.first_mark-at.ensures

pub returns-in-21 : goal.returns-in-21
returns-in-21 c =
    let ss = c.args.part.now in
    let at = c.first_mark-at.result in
    c.is_exchange.ensures ∙ event-asks (get_or ss at 0) (sorts_before ss at) (sorts_after ss at) c.in-21.is ∙ marked event_by_mark ss at c.first_mark-at.ensures

pub returns-in_default : goal.returns-in_default
returns-in_default c =
    let ss = c.args.part.now in
    let at = c.first_mark-at.result in
    let n = c.in_default.in_default-own.rest in
    event-other (get_or ss at 0) (sorts_before ss at) (sorts_after ss at) n.0.1 n.1 ∙ marked event_by_mark ss at c.first_mark-at.ensures
