-- The invariant: the declarations and the rows below r are written. Assumes nothing.
use mathlib.Core.Path.{sym, ◌∙◌}
use native.Mathlib.Omega.{arith}
use Rattle.base_top_down.proofs.Again.{declarations-le}
use Rattle.base_renumbering.proofs.WriteLaws.{written-more, whole}
use Rattle.base_renumbering.proofs.renumber.Goals as goal

pub loop-r-init : goal.loop-r-init
loop-r-init c =
    let d = c.declarations-d.ensures in
    let e = c.row_count-n.ensures in
    let h = declarations-le c.args.rows.now in
    let x = c.copy_declarations.ensures in
    (d, e, omega arith, omega arith, x.0 ∙ c.requires.1.1, λ p l. x.1 p (omega arith), λ q a b j l. absurd (omega arith))

pub write_row-requires : goal.write_row-requires
write_row-requires c =
    let t = c.loop-r-test.true in
    let i = c.loop-r.invariant in
    let i0 = i.0 in
    let i1 = i.1 in
    let i2 = i.2 in
    (c.kind_table-table.ensures.meaning, (c.requires.0, (c.requires.1.0, ((omega arith, omega arith), i.4))))

pub loop-r-preserved : goal.loop-r-preserved
loop-r-preserved c =
    let t = c.loop-r-test.true in
    let i = c.loop-r.invariant in
    let i2 = i.2 in
    let x = c.write_row.ensures in
    (i.0, i.1, omega arith, omega arith, x.long ∙ i.4, λ p l. x.kept p (i.5 p l), written-more c.args.rows.now c.args.numbers.now c.loop-r.r c.loop-r.out _ i.6 x)

pub shape_of-out : goal.shape_of-out
shape_of-out c =
    c.loop-r.invariant.4 ∙ sym c.requires.1.1

pub returns : goal.returns
returns c =
    let h = c.loop-r-test.false in
    let i = c.loop-r.invariant in
    let i1 = i.1 in
    whole c.args.rows.now c.requires.0 c.args.numbers.now c.requires.1.0 c.loop-r.out i.4 i.5 (λ q d l. i.6 q d (omega arith))
