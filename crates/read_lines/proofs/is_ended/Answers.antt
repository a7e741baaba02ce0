-- By whether the line has tokens. Assumes nothing.
use mathlib.Core.Path.{sym, ap}
use mathlib.Core.Bool.{Bool, ◌&&◌}
use lib.ListN.{get_or}
use lib.Dec.{eqb}
use Rattle.read_lines.proofs.is_ended.Goals as goal

pub returns-then-begun : goal.returns-then-begun
returns-then-begun c =
    let a = c.args in
    sym (ap (λ (t : Bool). t && eqb (get_or a.text.now a.at 0) 10) c.if-begun.true)
