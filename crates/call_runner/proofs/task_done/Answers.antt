-- What the rows' task comes to, without the two lists. Assumes nothing.
use mathlib.Core.Path.{ap}
use Rattle.meaning.specs.Trace.{TracedReply}
use Rattle.call_runner.proofs.task_done.Goals as goal

pub returns : goal.returns
returns c = ap (λ (x : TracedReply). x.reply) c.do_rows.ensures
