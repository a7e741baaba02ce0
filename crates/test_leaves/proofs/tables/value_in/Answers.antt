-- The table is prepared, the cells are copied, and the expression is evaluated.
use mathlib.Core.Path.{ap, ap₂, ◌∙◌}
use Prim.Native.Nat.{ℕ}
use lib.IntN.{ℤ}
use mathlib.Core.List.{List}
use native.Mathlib.Omega.{arith}
use Rattle.meaning.specs.Tree.{content_at}
use Rattle.meaning.specs.Values.{value}
use Rattle.meaning.specs.Buffers.{decoded}
use Rattle.run_values.specs.declared.store.State.{State}
use Rattle.test_leaves.specs.Lent.{copied}
use Rattle.agreement.proofs.TableFit.{rows-limit}
use Rattle.test_leaves.proofs.tables.value_in.Goals as goal

pub eval-requires : goal.eval-requires
eval-requires c =
    let inside = c.requires.inside in
    let few = rows-limit c.args.rows.now c.requires.accepted in
    record { table = (c.args.rows.now, c.prepare.ensures); inside = omega arith }

pub returns : goal.returns
returns c =
    let a = c.args in
    let new = c.fresh-state.ensures.stored in
    let v = c.put_list.ensures ∙ ap (λ (s : State). copied a.values.now s.values) new in
    let m = c.put_list-2.ensures ∙ ap (λ (s : State). copied a.marks.now s.marks) new in
    c.eval.ensures a.rows.now c.prepare.ensures ∙ ap₂ (λ (xs : List ℤ) (ms : List ℕ). value (decoded xs ms) (content_at a.rows.now a.r).expr) v m
