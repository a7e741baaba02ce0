-- By the sort of the entry. Assumes nothing.
use mir.Syntax.{w32}
use mir.ValLaws.{to_z-of_z}
use Rattle.meaning.specs.Verdict.{target}
use Rattle.base_kinds.specs.Table.{field_meant}
use Rattle.base_kinds.proofs.Sorts.{no-reference}
use Rattle.check_tree.proofs.target.Goals as goal

pub returns-in-7 : goal.returns-in-7
unfolding target field_meant
returns-in-7 c = rw c.in-7.is (rw (to_z-of_z w32 c.args.z c.ranges.z) at c.followed.ensures.row)

pub returns-in-8 : goal.returns-in-8
unfolding target field_meant
returns-in-8 c = rw c.in-8.is (rw (to_z-of_z w32 c.args.z c.ranges.z) at c.followed-in-8.ensures.row)

pub returns-in_default : goal.returns-in_default
returns-in_default c = (no-reference c.args.rows.now c.args.r c.args.z c.args.entry c.in_default.in_default-own.rest.0.1 c.in_default.in_default-own.rest.1).1
