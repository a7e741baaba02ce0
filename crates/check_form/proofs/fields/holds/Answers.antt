-- Arm by arm, by the sort of the entry. Assumes nothing.
use mathlib.Core.Path.{◌∙◌}
use Prim.Native.Nat.{◌/◌, ◌%◌}
use mir.Syntax.{w32}
use mir.ValLaws.{to_z-of_z, to_z_pos}
use Rattle.meaning.specs.Verdict.{may_hold}
use Rattle.base_kinds.specs.Table.{field_meant}
use Rattle.base_kinds.proofs.Sorts.{other-sort}
use Rattle.base_rows.proofs.Signs.{no-bits}
use native.Mathlib.Omega.{arith}
use Rattle.check_form.proofs.FieldLaws.{value-inside}
use Rattle.check_form.proofs.fields.holds.Goals as goal

pub returns-in-1 : goal.returns-in-1
unfolding may_hold field_meant
returns-in-1 c = rw c.in-1.is (value-inside c.args.z c.ranges.z)

pub returns-in-2 : goal.returns-in-2
unfolding may_hold field_meant
returns-in-2 c =
    let m = c.args.entry / 16 in
    rw c.in-2.is (rw (to_z_pos w32 (m % 256) (omega arith), to_z_pos w32 (m / 256 % 256) (omega arith), to_z-of_z w32 c.args.z c.ranges.z) at c.inside.ensures)

pub returns-in-3 : goal.returns-in-3
unfolding may_hold field_meant
returns-in-3 c =
    let role = to_z-of_z w32 c.field.result (record { sfits = c.field.type_inv }) ∙ c.field.ensures in
    rw c.in-3.is (rw (role, to_z-of_z w32 c.args.z c.ranges.z) at c.by_role.ensures)

pub returns-in-4 : goal.returns-in-4
unfolding may_hold field_meant
returns-in-4 c =
    let role = to_z-of_z w32 c.field-in-4.result (record { sfits = c.field-in-4.type_inv }) ∙ c.field-in-4.ensures in
    rw c.in-4.is (rw (role, to_z-of_z w32 c.args.z c.ranges.z) at c.by_role-in-4.ensures)

pub returns-in-5 : goal.returns-in-5
unfolding may_hold field_meant
returns-in-5 c = rw c.in-5.is (rw (to_z-of_z w32 c.args.z c.ranges.z) at c.names_variable.ensures)

pub returns-in-6 : goal.returns-in-6
unfolding may_hold field_meant
returns-in-6 c = rw c.in-6.is (rw (to_z-of_z w32 c.args.z c.ranges.z) at c.names_channel.ensures)

pub returns-in-7 : goal.returns-in-7
unfolding may_hold field_meant
returns-in-7 c = rw c.in-7.is

pub returns-in-8 : goal.returns-in-8
unfolding may_hold field_meant
returns-in-8 c = rw c.in-8.is

pub returns-in-9 : goal.returns-in-9
unfolding may_hold field_meant
returns-in-9 c =
    let operand = to_z-of_z w32 c.field-in-9.result (record { sfits = c.field-in-9.type_inv }) ∙ c.field-in-9.ensures in
    rw c.in-9.is (rw (operand, to_z-of_z w32 c.args.z c.ranges.z) at c.is_operator.ensures)

pub returns-in_default : goal.returns-in_default
unfolding may_hold
returns-in_default c =
    let no = c.in_default.in_default-own.rest in
    rw (other-sort c.args.entry no.0.0.0.0.0.0.0.0.1 no.0.0.0.0.0.0.0.1 no.0.0.0.0.0.0.1 no.0.0.0.0.0.1 no.0.0.0.0.1 no.0.0.0.1 no.0.0.1 no.0.1 no.1)
    (no-bits c.args.z c.ranges.z)
