-- By the row's kind, and by what is noted for its name. Assumes nothing.
use Rattle.std.proofs.Common.{rules, arith, sym, ◌∙◌}
use Rattle.check_blocks.proofs.NamedRows.{block-below}
use Rattle.check_blocks.proofs.LowestBlocks.{row-noted, lower-noted, not_noted}
use Rattle.check_blocks.proofs.note_row.Goals as goal

pub bounds-blocks-v : goal.bounds-blocks-v
bounds-blocks-v c =
    let l = block-below c.args.rows.now c.requires.0 c.args.r c.requires.1 (sym c.kind.ensures ∙ c.if-kind-eq35.true) in
    omega (arith, c.natural_field-v.ensures)

pub bounds-blocks-v-then-is_none : goal.bounds-blocks-v-then-is_none
bounds-blocks-v-then-is_none c =
    let l = block-below c.args.rows.now c.requires.0 c.args.r c.requires.1 (sym c.kind.ensures ∙ c.if-kind-eq35.true) in
    omega (arith, c.natural_field-v.ensures)

pub returns-then-is_none : goal.returns-then-is_none
returns-then-is_none c =
    row-noted c.args.rows.now c.args.r c.natural_field-v.result c.args.blocks.now (sym c.kind.ensures ∙ c.if-kind-eq35.true) c.natural_field-v.ensures (search rules)

pub returns-else-is_none : goal.returns-else-is_none
returns-else-is_none c =
    lower-noted c.args.rows.now c.args.r c.natural_field-v.result c.args.blocks.now c.natural_field-v.ensures (search rules)

pub returns-else-kind-eq35 : goal.returns-else-kind-eq35
returns-else-kind-eq35 c =
    not_noted c.args.rows.now c.args.r c.args.blocks.now (λ e. c.if-kind-eq35.false (c.kind.ensures ∙ e))
