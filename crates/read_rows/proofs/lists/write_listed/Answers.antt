-- Its row. Assumes nothing.
use mathlib.Core.Path.{◌∙◌}
use Prim.Native.Nat.{◌+◌}
use native.Mathlib.Omega.{arith}
use mir.Syntax.{w32}
use mir.Val.{SFits}
use mir.ValLaws.{to_z_pos, to_z-of_z}
use Rattle.read_rows.proofs.ListCases.{listed-row}
use borrow.Author.Rules.{rules}
use Rattle.read_rows.proofs.lists.write_listed.Goals as goal

pub returns : goal.returns
returns c =
    let one = c.link_to in
    let two = c.link_to-2 in
    let f1 : SFits w32 one.result = search rules in
    let f2 : SFits w32 two.result = search rules in
    c.write_row.ensures
    ∙ listed-row c.args.kind c.args.n c.args.beneath c.args.later c.args.rows.now (to_z_pos w32 c.args.kind (omega (arith, c.ranges.kind)))
    (to_z-of_z w32 one.result f1 ∙ one.ensures) (to_z-of_z w32 two.result f2 ∙ two.ensures) (to_z_pos w32 (c.args.n + 1 + c.args.beneath + c.args.later) (omega (arith, c.requires.0)))
