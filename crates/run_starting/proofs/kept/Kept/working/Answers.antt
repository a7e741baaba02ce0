-- `working` meets its contract: the rows before the count of the first list.
use mathlib.Core.Path.{◌≡◌, sym, ◌∙◌}
use native.Mathlib.Omega.{arith}
use lib.ListN.{length}
use Rattle.run_starting.specs.Rows.{numbers_of}
use Rattle.run_starting.proofs.Counting.{rows-listed}
use Rattle.run_starting.proofs.kept.Kept.working.Goals as goal

pub returns : goal.returns
returns c =
    let k = c.args.self.now in
    let h : length k.came.rows ≡ 2048 = omega arith in
    c.rows.ensures ∙ sym (rows-listed k.came.count k.came.rows (numbers_of k.blocks) h c.requires)
