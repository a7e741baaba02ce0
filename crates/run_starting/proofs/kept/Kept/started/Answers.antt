-- `started` meets its contract: the rows before the count of the second list.
use mathlib.Core.Path.{◌≡◌, sym, ◌∙◌}
use native.Mathlib.Omega.{arith}
use lib.ListN.{length}
use Rattle.run_starting.specs.Rows.{numbers_of}
use Rattle.run_starting.proofs.Counting.{second-count, blocks-listed}
use Rattle.run_starting.proofs.kept.Kept.started.Goals as goal

pub returns : goal.returns
returns c =
    let k = c.args.self.now in
    let h : length k.blocks.rows ≡ 2048 = omega arith in
    let g : length k.came.rows ≡ 2048 = omega arith in
    let e : length (numbers_of k.came) ≡ 2049 = omega arith in
    c.rows.ensures ∙ sym (blocks-listed (numbers_of k.came) k.blocks.count k.blocks.rows e h (rw (second-count (numbers_of k.came) (numbers_of k.blocks) e) at c.requires))
