-- `decides` meets its contract: AND is settled by a false operand, OR by a true one, and nothing else is settled.
use mathlib.Core.Path.{◌≡◌, refl, sym, ap, ◌∙◌}
use mathlib.Core.Bool.{Bool, true, false, not, ◌||◌}
use borrow.Author.Tests.{ne_eqb}
use Rattle.meaning.specs.Values.{decides}
use Rattle.base_numbers.proofs.Bits.{zero_test, not-not}
use Rattle.base_numbers.proofs.operators.decides.Goals as goal

or-false : (t : Bool) → t ≡ (t || false)
or-false true = refl
or-false false = refl

pub returns-in-14 : goal.returns-in-14
unfolding decides
returns-in-14 c = rw c.in-14.is (zero_test _ c.ranges.x ∙ sym (not-not _) ∙ or-false _)

pub returns-in-15 : goal.returns-in-15
unfolding decides
returns-in-15 c = rw c.in-15.is (ap not (zero_test _ c.ranges.x))

pub returns-in_default : goal.returns-in_default
unfolding decides
returns-in_default c = simp (ne_eqb _ 14 c.in_default.in_default-own.rest.0.1, ne_eqb _ 15 c.in_default.in_default-own.rest.1)
