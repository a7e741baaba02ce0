-- The number that is read is put where there is room. Assumes nothing.
use mathlib.Core.Path.{sym, ◌∙◌}
use mir.Syntax.{w32}
use mir.ValLaws.{to_z-of_z}
use borrow.Author.Rules.{rules}
use Rattle.meaning.specs.Numerals.{number}
use Rattle.base_numbers.proofs.Options.{some-is, none-is}
use Rattle.test_leaves.proofs.Packing.{number-stored, number-without-room}
use Rattle.test_leaves.proofs.leaf_number.Goals as goal

pub returns-then-out-eq0 : goal.returns-then-out-eq0
returns-then-out-eq0 c =
    let field = c.args.field.now in
    rw (some-is (number field) c.in-Some.z (sym c.in-Some.is ∙ c.read_number-read.ensures))
    (number-without-room c.in-Some.z c.args.out.now c.if-out-eq0.true)

pub returns-in-None : goal.returns-in-None
returns-in-None c = rw (none-is (number c.args.field.now) (sym c.in-None.is ∙ c.read_number-read.ensures))

pub returns-else-out-eq0 : goal.returns-else-out-eq0
returns-else-out-eq0 c =
    let field = c.args.field.now in
    rw (to_z-of_z w32 c.in-Some.z (search rules), some-is (number field) c.in-Some.z (sym c.in-Some.is ∙ c.read_number-read.ensures))
    (number-stored c.in-Some.z c.args.out.now c.if-out-eq0.false)
