-- By whether the field refers to a row, and whether that is in the list. Assumes nothing.
use mathlib.Core.Path.{◌≡◌, sym, ◌∙◌}
use mir.Syntax.{w32}
use mir.ValLaws.{to_z-of_z}
use Rattle.meaning.specs.Rows.{natural_of}
use Rattle.base_kinds.specs.Table.{field_meant}
use Rattle.base_top_down.specs.Forms.{is_reference}
use Rattle.base_numbering.proofs.Entries.{held-there, held-past, held-not}
use Rattle.base_numbering.proofs.held.Goals as goal

pub returns-then-t-sizes : goal.returns-then-t-sizes
returns-then-t-sizes c =
    let means : c.natural-t.result ≡ natural_of c.args.z = rw (to_z-of_z w32 c.args.z c.ranges.z) at c.natural-t.ensures in
    held-there c.args.sizes.now (is_reference (field_meant c.args.entry)) c.args.z c.natural-t.result (sym c.refers.ensures ∙ c.if-refers.true) (means)

pub returns-else-t-sizes : goal.returns-else-t-sizes
returns-else-t-sizes c =
    let means : c.natural-t.result ≡ natural_of c.args.z = rw (to_z-of_z w32 c.args.z c.ranges.z) at c.natural-t.ensures in
    held-past c.args.sizes.now (is_reference (field_meant c.args.entry)) c.args.z c.natural-t.result (sym c.refers.ensures ∙ c.if-refers.true) (means) c.if-t-sizes.false

pub returns-else-refers : goal.returns-else-refers
returns-else-refers c =
    held-not c.args.sizes.now (is_reference (field_meant c.args.entry)) c.args.z (sym c.refers.ensures ∙ c.if-refers.false)
