-- By whether the field refers to a row, and whether that is in the list. Assumes nothing.
use mathlib.Core.Path.{◌≡◌, sym, ◌∙◌}
use mir.Syntax.{w32}
use mir.ValLaws.{to_z-of_z}
use Rattle.meaning.specs.Rows.{natural_of}
use Rattle.base_kinds.specs.Table.{field_meant}
use Rattle.base_top_down.specs.Forms.{is_reference}
use Rattle.base_numbering.proofs.Entries.{placed-there, placed_past, placed-not}
use Rattle.base_numbering.proofs.place.Goals as goal

pub returns-then-t-numbers : goal.returns-then-t-numbers
returns-then-t-numbers c =
    let means : c.natural-t.result ≡ natural_of c.args.z = rw (to_z-of_z w32 c.args.z c.ranges.z) at c.natural-t.ensures in
    placed-there c.args.numbers.now (is_reference (field_meant c.args.entry)) c.args.z c.natural-t.result c.args.v (sym c.refers.ensures ∙ c.if-refers.true) (means)

pub returns-else-t-numbers : goal.returns-else-t-numbers
returns-else-t-numbers c =
    let means : c.natural-t.result ≡ natural_of c.args.z = rw (to_z-of_z w32 c.args.z c.ranges.z) at c.natural-t.ensures in
    placed_past c.args.numbers.now (is_reference (field_meant c.args.entry)) c.args.z c.natural-t.result c.args.v (sym c.refers.ensures ∙ c.if-refers.true) (means) c.if-t-numbers.false

pub returns-else-refers : goal.returns-else-refers
returns-else-refers c =
    placed-not c.args.numbers.now (is_reference (field_meant c.args.entry)) c.args.z c.args.v (sym c.refers.ensures ∙ c.if-refers.false)
