-- `forget` meets its contract: the counts of both lists are 0.
use mathlib.Core.Path.{◌≡◌, sym, ap, ap₂, ◌∙◌}
use mathlib.Core.List.{List, ◌++◌}
use Prim.Native.Nat.{ℕ}
use native.Mathlib.Omega.{arith}
use lib.ListN.{length}
use Rattle.machine.specs.Counts.{kept_of}
use Rattle.run_starting.specs.Rows.{numbers_of}
use Rattle.run_starting.proofs.Counting.{both-forgotten}
use Rattle.run_starting.proofs.kept.Kept.forget.Goals as goal

pub returns : goal.returns
returns c =
    let k = c.args.self.now in
    let h : length k.came.rows ≡ 2048 = omega arith in
    ap (λ (l : List ℕ). kept_of k.states k.left l) (ap₂ (λ (a b : List ℕ). a ++ b) c.forget.ensures c.forget-2.ensures ∙ sym (both-forgotten (numbers_of k.came) (numbers_of k.blocks) (omega arith)))
