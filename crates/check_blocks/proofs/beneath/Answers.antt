-- By the law of the numbers. Assumes nothing.
use native.Mathlib.Omega.{arith}
use Rattle.std.proofs.Common.{◌∙◌, get_or}
use borrow.Author.Tests.{le-ltb}
use Rattle.check_blocks.proofs.NumbersInside.{after-it, not_after}
use Rattle.check_blocks.proofs.beneath.Goals as goal

pub returns-then-first-number : goal.returns-then-first-number
returns-then-first-number c =
    let h = c.requires in
    let l = c.if-first-number.true in
    after-it c.args.rows.now h.0 c.args.numbers.now c.args.sizes.now h.1.0 h.1.1.0 c.args.k c.args.r h.1.1.1.0 h.1.1.1.1 _ l (omega arith)

pub returns-else-first-number : goal.returns-else-first-number
returns-else-first-number c =
    let h = c.requires in
    le-ltb (get_or c.args.numbers.now c.args.k 0) (get_or c.args.numbers.now c.args.r 0) c.if-first-number.false ∙ not_after c.args.rows.now h.0 c.args.numbers.now c.args.sizes.now h.1.0 h.1.1.0 c.args.k c.args.r h.1.1.1.0 h.1.1.1.1 c.if-first-number.false
