-- By whether the token is a name. Assumes nothing.
use Prim.Native.Nat.{◌-◌}
use native.Mathlib.Omega.{arith}
use mir.Syntax.{w32}
use mir.Val.{SFits}
use mir.ValLaws.{to_z-of_z, to_z_pos}
use borrow.Author.Rules.{rules}
use borrow.Author.Tests.{eq-eqb, ne_eqb}
use Rattle.read_tokens.specs.Held.{placed}
use Rattle.read_lines.proofs.held_value.Goals as goal

pub returns-then-sort-eq-NAME : goal.returns-then-sort-eq-NAME
returns-then-sort-eq-NAME c =
    let a = c.args in
    let (h, k) = c.requires in
    rw (to_z_pos w32 (placed a.from (a.to - a.from)) (omega (arith, h, k)), eq-eqb _ _ c.if-sort-eq-NAME.true)

pub returns-else-sort-eq-NAME : goal.returns-else-sort-eq-NAME
returns-else-sort-eq-NAME c =
    let fits : SFits w32 c.args.value = search rules in
    rw (to_z-of_z w32 _ fits, ne_eqb _ _ c.if-sort-eq-NAME.false)
