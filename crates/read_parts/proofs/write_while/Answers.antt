-- The expression, then the row before it. Assumes nothing.
use mathlib.Core.Path.{ap₂, ◌∙◌}
use mathlib.Core.List.{[], ◌∷◌}
use Prim.Native.Nat.{◌+◌, ◌*◌}
use native.Mathlib.Omega.{arith}
use lib.IntN.{ℤ, pos}
use mir.Syntax.{w32}
use mir.Val.{SFits}
use mir.ValLaws.{to_z_pos, to_z-of_z}
use Rattle.read_expressions.specs.Overlay.{overlay}
use Rattle.read_parts.proofs.TokenParts.{scratch_after}
use Rattle.read_parts.proofs.PartSteps.{while-asked, while-asked-row, while-done}
use borrow.Author.Rules.{rules}
use Rattle.read_parts.proofs.write_while.Goals as goal

pub write_phrase-end-requires : goal.write_phrase-end-requires
write_phrase-end-requires c =
    let ss = c.args.sorts.now in
    let vs = c.args.values.now in
    (while-asked ss vs c.requires.2.0 c.args.at c.args.n c.args.rows.now c.requires.1.0 c.requires.1.1, scratch_after ss vs c.requires.2.0 c.args.at c.args.marks.now c.args.stack.now c.requires.0 c.requires.2)

pub link_to-requires : goal.link_to-requires
link_to-requires c =
    let ss = c.args.sorts.now in
    let vs = c.args.values.now in
    let w = c.write_phrase-end in
    (while-asked-row ss vs c.requires.2.0 c.args.at c.args.n c.args.rows.now c.requires.1.0 c.requires.1.1 w.result _ w.ensures.1 w.ensures.2).0

pub write_row-requires : goal.write_row-requires
write_row-requires c =
    let ss = c.args.sorts.now in
    let vs = c.args.values.now in
    let w = c.write_phrase-end in
    let room = while-asked-row ss vs c.requires.2.0 c.args.at c.args.n c.args.rows.now c.requires.1.0 c.requires.1.1 w.result _ w.ensures.1 w.ensures.2 in
    (room.1, room.2)

pub returns : goal.returns
returns c =
    let ss = c.args.sorts.now in
    let vs = c.args.values.now in
    let n = c.args.n in
    let w = c.write_phrase-end in
    let one = w.new.rows in
    let room = while-asked-row ss vs c.requires.2.0 c.args.at c.args.n c.args.rows.now c.requires.1.0 c.requires.1.1 w.result _ w.ensures.1 w.ensures.2 in
    let link = c.link_to in
    let fits : SFits w32 link.result = search rules in
    let rows_told = c.write_row.ensures ∙ ap₂ (λ (i z : ℤ). overlay one (4 * n) (pos 33 ∷ i ∷ z ∷ pos 0 ∷ [])) (to_z_pos w32 (n + 1) (omega (arith, room.1))) (to_z-of_z w32 link.result fits ∙ link.ensures) in
    (w.ensures.0, while-done ss vs c.requires.2.0 c.args.at c.args.n c.args.rows.now c.requires.1.0 c.requires.1.1 w.result _ w.ensures.1 w.ensures.2 c.args.beneath _ rows_told)
