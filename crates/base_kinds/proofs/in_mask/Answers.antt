-- The bit of the mask. Assumes nothing.
use mathlib.Core.Path.{sym, ◌∙◌}
use borrow.Author.Tests.{le-ltb}
use Rattle.base_kinds.proofs.Masks.{in-mask, past-mask}
use Rattle.base_kinds.proofs.in_mask.Goals as goal

pub returns-then-k-lt64 : goal.returns-then-k-lt64
returns-then-k-lt64 c = sym (in-mask c.args.mask c.args.k c.if-k-lt64.true)

pub returns-else-k-lt64 : goal.returns-else-k-lt64
returns-else-k-lt64 c = le-ltb c.args.k 64 c.if-k-lt64.false ∙ sym (past-mask c.args.mask c.args.k c.if-k-lt64.false)
