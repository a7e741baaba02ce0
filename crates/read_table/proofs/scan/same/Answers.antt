-- `same` meets its contract: `==` compares one by one.
use mathlib.Core.Path.{◌∙◌}
use Rattle.read_table.proofs.ScanSteps.{equal-same}
use Rattle.read_table.proofs.scan.same.Goals as goal

pub returns : goal.returns
returns c = c.eq.ensures ∙ equal-same c.args.a.now c.args.b.now
