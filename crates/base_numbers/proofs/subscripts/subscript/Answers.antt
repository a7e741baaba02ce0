-- `subscript` meets its contract, by the tests on the subscript's number. Two 32-bit numbers have a sum that fits in 64 bits.
use borrow.Author.Rules.{rules}
use mathlib.Core.Path.{sym}
use mathlib.Core.Bool.{true, false}
use mir.Syntax.{w32}
use mir.Val.{SFits}
use mir.ValLaws.{to_z-of_z}
use Rattle.meaning.specs.Values.{in_array}
use Rattle.base_numbers.proofs.Casts.{sign-test, to-64-bits}
use Rattle.base_numbers.proofs.Places.{below-zero, inside, past_end}
use Rattle.base_numbers.proofs.subscripts.subscript.Goals as goal

pub returns-then-x-lt0 : goal.returns-then-x-lt0
returns-then-x-lt0 c =
    let f : SFits w32 c.in-Number.x = search rules in
    rw c.in-Number.is (sym (below-zero _ _ c.in-Number.x (sign-test _ f true c.if-x-lt0.true)))

pub overflow_cast-i : goal.overflow_cast-i
overflow_cast-i c = to-64-bits c.in-Number.x (search rules) c.if-x-lt0.false

pub returns-then-i-size : goal.returns-then-i-size
returns-then-i-size c =
    let f : SFits w32 c.in-Number.x = search rules in
    rw (c.in-Number.is, to_z-of_z w32 _ f) (sym (inside _ _ c.in-Number.x (sign-test _ f false c.if-x-lt0.false) (rw (to_z-of_z w32 _ f) at c.if-i-size.true)))

pub returns-in-Missing : goal.returns-in-Missing
unfolding in_array
returns-in-Missing c = rw c.in-Missing.is

pub returns-else-i-size : goal.returns-else-i-size
returns-else-i-size c =
    let f : SFits w32 c.in-Number.x = search rules in
    rw c.in-Number.is (sym (past_end _ _ c.in-Number.x (sign-test _ f false c.if-x-lt0.false) (rw (to_z-of_z w32 _ f) at c.if-i-size.false)))
