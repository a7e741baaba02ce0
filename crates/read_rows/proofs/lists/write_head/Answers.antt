-- A declaration writes nothing. Assumes nothing.
use mathlib.Core.Path.{refl, ap}
use Rattle.grammar.specs.Outline.{heads}
use Rattle.read_tokens.specs.Held.{tokens_resolved}
use Rattle.read_rows.specs.LinesLaid.{expect_of}
use Rattle.read_rows.proofs.StandSteps.{stands_at}
use Rattle.read_rows.proofs.LineCases.{head-declares, head-process}
use Rattle.read_rows.proofs.LineTold.{sorts-held}
use Rattle.read_rows.proofs.lists.write_head.Goals as goal

pub returns-then-kind-le-OTHER_DECLARATION : goal.returns-then-kind-le-OTHER_DECLARATION
unfolding expect_of
returns-then-kind-le-OTHER_DECLARATION c =
    let os = tokens_resolved c.args.sorts.now c.args.values.now in
    let at = stands_at c.args.kind os c.args.spot c.args.rows.now c.requires.1 heads (ap expect_of c.requires.0) in
    ((refl, refl), head-declares c.args.kind os c.args.spot c.args.rows.now at c.if-kind-le-OTHER_DECLARATION.true)

pub write_process-requires : goal.write_process-requires
unfolding expect_of
write_process-requires c =
    let os = tokens_resolved c.args.sorts.now c.args.values.now in
    let at = stands_at c.args.kind os c.args.spot c.args.rows.now c.requires.1 heads (ap expect_of c.requires.0) in
    let p = head-process c.args.kind os c.args.spot c.args.rows.now at c.if-kind-le-OTHER_DECLARATION.false in
    (sorts-held c.args.sorts.now c.args.values.now at.line c.requires.2.0 at.is-line, p.writable, c.requires.2)

pub returns : goal.returns
unfolding expect_of
returns c =
    let os = tokens_resolved c.args.sorts.now c.args.values.now in
    let at = stands_at c.args.kind os c.args.spot c.args.rows.now c.requires.1 heads (ap expect_of c.requires.0) in
    let p = head-process c.args.kind os c.args.spot c.args.rows.now at c.if-kind-le-OTHER_DECLARATION.false in
    let w = c.write_process in
    (w.ensures.0, p.laid _ w.ensures.1.1)
