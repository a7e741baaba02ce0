-- Field by field. Assumes nothing.
use Rattle.std.proofs.Common.{rules}
use borrow.Author.Tests.{eq-eqb, ne_eqb}
use Rattle.base_kinds.specs.Table.{meant_shape}
use Rattle.check_form.proofs.fields.fits.Goals as goal

pub returns-then-s-eq-NO_KIND : goal.returns-then-s-eq-NO_KIND
unfolding meant_shape
returns-then-s-eq-NO_KIND c = λ k. simp (eq-eqb _ 10 c.if-s-eq-NO_KIND.true)

pub returns-then-holds-2 : goal.returns-then-holds-2
unfolding meant_shape
returns-then-holds-2 c = λ k. simp (ne_eqb c.args.s.a 10 c.if-s-eq-NO_KIND.false) (search rules)

pub returns-else-holds-2 : goal.returns-else-holds-2
unfolding meant_shape
returns-else-holds-2 c = λ k. simp (ne_eqb c.args.s.a 10 c.if-s-eq-NO_KIND.false) (search rules)
