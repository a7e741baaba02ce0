-- `change_states` meets its contract: one change, and the end of the sender if there is one.
use mathlib.Core.Path.{ap, ◌∙◌}
use native.Mathlib.Omega.{arith}
use Rattle.meaning.specs.State.{program}
use Rattle.machine.specs.Counts.{change_up_counted}
use Rattle.run_starting.specs.Kept.{kept_lists, lists_forgotten}
use Rattle.run_settling.proofs.GoingUp.{noted-ends, none-ends}
use Rattle.run_settling.proofs.change_states.Goals as goal

pub change_up-requires : goal.change_up-requires
change_up-requires c =
    let P = c.requires.table in
    record { table = (P.0, (P.1.0, P.1.1.0)); row = c.requires.inside.0 }

pub change_up-requires-then-sender-ne0 : goal.change_up-requires-then-sender-ne0
change_up-requires-then-sender-ne0 c =
    let P = c.requires.table in
    record { table = (P.0, (P.1.0, P.1.1.1 c.if-sender-ne0.true)); row = omega (arith, c.requires.inside.1, c.if-sender-ne0.true) }

pub returns-then-sender-ne0 : goal.returns-then-sender-ne0
returns-then-sender-ne0 c =
    λ rows P i. noted-ends rows c.args.at c.args.n c.args.sender (lists_forgotten (kept_lists c.args.kept.now)) (c.change_up.ensures rows P i.0 ∙ ap (change_up_counted (program rows) c.args.at c.args.n) c.forget.ensures) c.if-sender-ne0.true
    (c.change_up-then-sender-ne0.ensures rows P (i.1 c.if-sender-ne0.true))

pub returns-else-sender-ne0 : goal.returns-else-sender-ne0
returns-else-sender-ne0 c =
    λ rows P i. none-ends rows c.args.at c.args.n c.args.sender (lists_forgotten (kept_lists c.args.kept.now)) (c.change_up.ensures rows P i.0 ∙ ap (change_up_counted (program rows) c.args.at c.args.n) c.forget.ensures) c.if-sender-ne0.false
