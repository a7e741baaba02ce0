-- The code's three tests are those of the definition. Assumes nothing.
use Rattle.std.proofs.Common.{◌≡◌, sym, ◌∙◌}
use mir.Syntax.{w32}
use mir.ValLaws.{to_z-of_z}
use borrow.Author.Tests.{ne_eqb}
use Rattle.meaning.specs.Basics.{inside}
use Rattle.base_rows.proofs.Signs.{bits-equal}
use Rattle.check_form.proofs.fields.by_role.Goals as goal

pub returns-else-role-free : goal.returns-else-role-free
returns-else-role-free c =
    let a = c.args in
    let r = c.ranges in
    let inside_is : c.inside.result ≡ inside a.lo a.hi a.z = rw (to_z-of_z w32 a.lo r.lo, to_z-of_z w32 a.hi r.hi, to_z-of_z w32 a.z r.z) at c.inside.ensures in
    simp (sym inside_is ∙ c.if-inside.true, sym (bits-equal a.role a.free r.role r.free) ∙ ne_eqb _ _ c.if-role-free.false) (bits-equal a.z a.only r.z r.only)
