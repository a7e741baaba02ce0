-- By whether the field refers to a row, and whether that has a number. Assumes nothing.
use mathlib.Core.Path.{◌≡◌, sym, ap, ◌∙◌}
use Prim.Native.Nat.{ℕ, ◌<◌}
use native.Mathlib.Omega.{arith}
use lib.ListN.{get_or}
use mir.Syntax.{w32}
use mir.ValLaws.{to_z_pos, to_z-of_z}
use Rattle.meaning.specs.Rows.{natural_of}
use Rattle.base_kinds.specs.Table.{field_meant}
use Rattle.base_top_down.specs.Forms.{is_reference}
use Rattle.base_renumbering.proofs.Entries.{renumbered-there, renumbered-past, renumbered-not}
use Rattle.base_renumbering.proofs.renumbered.Goals as goal

pub overflow_cast-result : goal.overflow_cast-result
overflow_cast-result c =
    let means : c.natural-t.result ≡ natural_of c.args.z = rw (to_z-of_z w32 c.args.z c.ranges.z) at c.natural-t.ensures in
    let small : get_or c.args.numbers.now c.natural-t.result 0 < 2147483648 = let e = ap (λ (n : ℕ). get_or c.args.numbers.now n 0) (means) in
    let h = c.requires (sym c.refers.ensures ∙ c.if-refers.true) in
    omega arith in
    record { sfits = small }

pub returns-then-t-numbers : goal.returns-then-t-numbers
returns-then-t-numbers c =
    let means : c.natural-t.result ≡ natural_of c.args.z = rw (to_z-of_z w32 c.args.z c.ranges.z) at c.natural-t.ensures in
    let small : get_or c.args.numbers.now c.natural-t.result 0 < 2147483648 = let e = ap (λ (n : ℕ). get_or c.args.numbers.now n 0) (means) in
    let h = c.requires (sym c.refers.ensures ∙ c.if-refers.true) in
    omega arith in
    to_z_pos w32 (get_or c.args.numbers.now c.natural-t.result 0) (small)
    ∙ renumbered-there c.args.numbers.now (is_reference (field_meant c.args.entry)) c.args.z c.natural-t.result (sym c.refers.ensures ∙ c.if-refers.true) (means) c.if-t-numbers.true

pub returns-else-t-numbers : goal.returns-else-t-numbers
returns-else-t-numbers c =
    let means : c.natural-t.result ≡ natural_of c.args.z = rw (to_z-of_z w32 c.args.z c.ranges.z) at c.natural-t.ensures in
    to_z-of_z w32 c.args.z c.ranges.z ∙ renumbered-past c.args.numbers.now (is_reference (field_meant c.args.entry)) c.args.z c.natural-t.result (means) c.if-t-numbers.false

pub returns-else-refers : goal.returns-else-refers
returns-else-refers c =
    to_z-of_z w32 c.args.z c.ranges.z ∙ renumbered-not c.args.numbers.now (is_reference (field_meant c.args.entry)) c.args.z (sym c.refers.ensures ∙ c.if-refers.false)
