-- `join` meets its contract. The loop has joined the words before i; the measure is what is left of them.
use mathlib.Core.Path.{sym, ◌∙◌}
use borrow.Author.Rules.{rules}
use Rattle.base_sets.proofs.SetLaws.{join-start, join_step, join-done}
use Rattle.base_sets.proofs.join.Goals as goal

pub loop-i-init : goal.loop-i-init
loop-i-init c = join-start c.args.sets.now c.args.more.now

pub loop-i-preserved : goal.loop-i-preserved
loop-i-preserved c = c.loop-i.invariant ∙ join_step c.loop-i.sets c.args.more.now c.loop-i.i (search rules) (search rules)

pub returns : goal.returns
returns c = sym (c.loop-i.invariant ∙ join-done c.loop-i.sets c.args.more.now c.loop-i.i (search rules))
