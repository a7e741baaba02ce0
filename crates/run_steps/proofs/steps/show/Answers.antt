-- `show` meets its contract: past the slice nothing is stored.
use mathlib.Core.Path.{sym}
use lib.Seq.{set_out}
use Rattle.run_steps.proofs.steps.show.Goals as goal

pub returns-else-i-list : goal.returns-else-i-list
returns-else-i-list c = sym (set_out c.args.list.now c.args.n c.args.x c.if-i-list.false)
