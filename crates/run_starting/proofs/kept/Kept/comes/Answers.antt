-- `comes` meets its contract: the row is listed before the blocks that start.
use mathlib.Core.Path.{◌≡◌, sym, ap, ◌∙◌}
use mathlib.Core.List.{List, ◌++◌}
use Prim.Native.Nat.{ℕ}
use native.Mathlib.Omega.{arith}
use lib.ListN.{length}
use Rattle.machine.specs.Counts.{kept_of}
use Rattle.run_starting.specs.Rows.{numbers_of}
use Rattle.run_starting.proofs.Counting.{in-first}
use Rattle.run_starting.proofs.kept.Kept.comes.Goals as goal

pub returns : goal.returns
returns c =
    let k = c.args.self.now in
    let h : length k.came.rows ≡ 2048 = omega arith in
    ap (λ (l : List ℕ). kept_of k.states k.left l) (ap (λ (l : List ℕ). l ++ numbers_of k.blocks) c.push.ensures ∙ sym (in-first (numbers_of k.came) (numbers_of k.blocks) (omega arith) k.came.count c.args.r))
