-- `monadic` meets its contract: each arm of its `match` is the operator of that number, and there is no other.
use mathlib.Core.Path.{sym, ap, ◌∙◌}
use lib.IntN.{neg_ℤ}
use borrow.Author.Tests.{ne_eqb}
use mir.Syntax.{w32, w64}
use mir.ValLaws.{to_z-of_z}
use Rattle.meaning.specs.Values.{fitted, truth, monadic_of}
use Rattle.base_numbers.proofs.Bits.{zero_test, not-not}
use Rattle.base_numbers.proofs.operators.monadic.Goals as goal

pub returns-in-0 : goal.returns-in-0
unfolding monadic_of
returns-in-0 c =
    rw c.in-0.is
    (c.fit.ensures
    ∙ ap fitted (to_z-of_z w64 _ (record { sfits = c.opposite.type_inv }) ∙ c.opposite.ensures ∙ ap neg_ℤ (to_z-of_z w32 _ c.ranges.x)))

pub returns-in-1 : goal.returns-in-1
unfolding monadic_of
returns-in-1 c =
    rw c.in-1.is
    (c.truth.ensures ∙ ap truth (zero_test _ c.ranges.x ∙ sym (not-not _)))

pub returns-in_default : goal.returns-in_default
unfolding monadic_of
returns-in_default c = simp (ne_eqb _ 0 c.in_default.in_default-own.rest.0.1, ne_eqb _ 1 c.in_default.in_default-own.rest.1)
