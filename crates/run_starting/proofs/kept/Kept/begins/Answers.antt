-- `begins` meets its contract: the block is listed after the rows that come to work.
use mathlib.Core.Path.{◌≡◌, sym, ap, ◌∙◌}
use mathlib.Core.List.{List, ◌++◌}
use Prim.Native.Nat.{ℕ}
use native.Mathlib.Omega.{arith}
use lib.ListN.{length}
use Rattle.machine.specs.Counts.{kept_of}
use Rattle.run_starting.specs.Rows.{numbers_of}
use Rattle.run_starting.proofs.Counting.{block-listed}
use Rattle.run_starting.proofs.kept.Kept.begins.Goals as goal

pub returns : goal.returns
returns c =
    let k = c.args.self.now in
    let h : length k.came.rows ≡ 2048 = omega arith in
    ap (λ (l : List ℕ). kept_of k.states k.left l) (ap (λ (l : List ℕ). numbers_of k.came ++ l) c.push.ensures ∙ sym (block-listed (numbers_of k.came) (numbers_of k.blocks) (omega arith) c.args.r))
