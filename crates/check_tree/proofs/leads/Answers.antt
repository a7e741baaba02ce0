-- By the sort of the entry. Assumes nothing.
use Rattle.std.proofs.Common.{◌≡◌, true, false, sym, ◌∙◌}
use lib.IntN.{negsuc}
use mir.Syntax.{w32}
use mir.ValLaws.{to_z-of_z}
use Rattle.meaning.specs.Basics.{eq_z}
use Rattle.meaning.specs.Verdict.{leads}
use Rattle.base_kinds.specs.Table.{field_meant}
use Rattle.base_kinds.proofs.Sorts.{no-reference}
use Rattle.base_rows.proofs.Signs.{minus-one}
use borrow.Author.Tests.{eq-eqb, ne_eqb}
use Rattle.check_tree.proofs.leads.Goals as goal

pub returns-in-7 : goal.returns-in-7
unfolding leads field_meant
returns-in-7 c = rw c.in-7.is (c.is_some.ensures ∙ (rw (to_z-of_z w32 c.args.z c.ranges.z) at c.followed.ensures.right))

pub returns-then-z-eqminus1 : goal.returns-then-z-eqminus1
unfolding leads field_meant
returns-then-z-eqminus1 c =
    let e : eq_z c.args.z (negsuc 0) ≡ true = sym (minus-one c.args.z c.ranges.z) ∙ eq-eqb _ 4294967295 c.if-z-eqminus1.true in
    rw c.in-8.is (simp e (eq-eqb _ 4294967295 c.if-z-eqminus1.true))

pub returns-else-z-eqminus1 : goal.returns-else-z-eqminus1
unfolding leads field_meant
returns-else-z-eqminus1 c =
    let e : eq_z c.args.z (negsuc 0) ≡ false = sym (minus-one c.args.z c.ranges.z) ∙ ne_eqb _ 4294967295 c.if-z-eqminus1.false in
    rw c.in-8.is (simp e (c.is_some-else-z-eqminus1.ensures ∙ (rw (to_z-of_z w32 c.args.z c.ranges.z) at c.followed-else-z-eqminus1.ensures.right)))

pub returns-in_default : goal.returns-in_default
returns-in_default c = (no-reference c.args.rows.now c.args.r c.args.z c.args.entry c.in_default.in_default-own.rest.0.1 c.in_default.in_default-own.rest.1).0
