-- A block's row, or a process. Assumes nothing.
use mathlib.Core.Path.{refl}
use Rattle.read_tokens.specs.Held.{tokens_resolved}
use Rattle.read_rows.proofs.LineCases.{single-case}
use Rattle.read_rows.proofs.LineTold.{sorts-held}
use Rattle.read_rows.proofs.lists.write_single.Goals as goal

pub write_block-requires : goal.write_block-requires
write_block-requires c =
    let os = tokens_resolved c.args.sorts.now c.args.values.now in
    let s = single-case c.args.kind os c.args.spot c.args.rows.now c.requires.4 c.requires.0 c.requires.1 c.requires.2 c.requires.3 in
    let b = s.block c.if-kind-eq-VARIABLE_LINE.true in
    (c.requires.5.0, (b.declares, b.low, b.fits))

pub returns-then-kind-eq-VARIABLE_LINE : goal.returns-then-kind-eq-VARIABLE_LINE
returns-then-kind-eq-VARIABLE_LINE c =
    let os = tokens_resolved c.args.sorts.now c.args.values.now in
    let s = single-case c.args.kind os c.args.spot c.args.rows.now c.requires.4 c.requires.0 c.requires.1 c.requires.2 c.requires.3 in
    let b = s.block c.if-kind-eq-VARIABLE_LINE.true in
    ((refl, refl), b.laid _ c.write_block.ensures)

pub write_process-requires : goal.write_process-requires
write_process-requires c =
    let os = tokens_resolved c.args.sorts.now c.args.values.now in
    let s = single-case c.args.kind os c.args.spot c.args.rows.now c.requires.4 c.requires.0 c.requires.1 c.requires.2 c.requires.3 in
    let p = s.process c.if-kind-eq-VARIABLE_LINE.false in
    (sorts-held c.args.sorts.now c.args.values.now c.requires.4.line c.requires.5.0 c.requires.4.is-line, p.writable, c.requires.5)

pub returns : goal.returns
returns c =
    let os = tokens_resolved c.args.sorts.now c.args.values.now in
    let s = single-case c.args.kind os c.args.spot c.args.rows.now c.requires.4 c.requires.0 c.requires.1 c.requires.2 c.requires.3 in
    let p = s.process c.if-kind-eq-VARIABLE_LINE.false in
    let w = c.write_process in
    (w.ensures.0, p.laid _ w.ensures.1.1)
