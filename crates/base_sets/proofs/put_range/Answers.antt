-- `put_range` meets its contract. The loop puts in the first k numbers of the range; the rest of it is still to be put in.
use mathlib.Core.Path.{sym, ap, ◌∙◌}
use mathlib.Core.List.{List}
use Prim.Native.Nat.{ℕ, ◌+◌, ◌-◌}
use native.Mathlib.Omega.{arith}
use borrow.Author.Rules.{rules}
use Rattle.meaning.specs.Usage.{numbers_from}
use Rattle.base_sets.specs.Sets.{with_all, in_sort}
use Rattle.base_sets.proofs.SetLaws.{range-start, with_none, with-next, range-next, range_none}
use Rattle.base_sets.proofs.put_range.Goals as goal

pub loop-k-init : goal.loop-k-init
loop-k-init c =
    let a = c.args in
    ap (λ (l : List ℕ). with_all a.sets.now (in_sort a.sort l)) (range-start a.first a.n)

pub loop-k-preserved : goal.loop-k-preserved
loop-k-preserved c =
    let a = c.args in
    let k = c.loop-k.k in
    c.loop-k.invariant
    ∙ ap (λ (l : List ℕ). with_all c.loop-k.sets (in_sort a.sort l)) (range-next a.first a.n k (omega arith))
    ∙ with-next c.loop-k.sets a.sort (a.first + k) (numbers_from (a.first + (k + 1)) (a.n - (k + 1))) (search rules)
    ∙ ap (λ (s : List ℕ). with_all s (in_sort a.sort (numbers_from (a.first + (k + 1)) (a.n - (k + 1))))) (sym c.put.ensures)

pub returns : goal.returns
returns c =
    let a = c.args in
    let k = c.loop-k.k in
    sym
    (c.loop-k.invariant
    ∙ ap (λ (l : List ℕ). with_all c.loop-k.sets (in_sort a.sort l)) (range_none (a.first + k) a.n k (omega arith))
    ∙ with_none c.loop-k.sets)
