-- By the class in the kind. Assumes nothing.
use mathlib.Core.Path.{ap₂, ◌∙◌}
use Prim.Native.Nat.{ℕ, ◌+◌, ◌/◌}
use native.Mathlib.Omega.{arith}
use Rattle.read_counts.proofs.TokenSteps.{rows_few}
use Rattle.read_counts.proofs.KindRows.{by-block, by-tokens, listed-few}
use Rattle.read_counts.proofs.line_rows.Goals as goal

pub returns-then-kind-le-OTHER_DECLARATION : goal.returns-then-kind-le-OTHER_DECLARATION
returns-then-kind-le-OTHER_DECLARATION c =
    let a = c.args in
    c.block_rows.ensures ∙ by-block a.kind a.sorts.now c.if-kind-le-OTHER_DECLARATION.true

pub overflow_add-result : goal.overflow_add-result
overflow_add-result c =
    omega (arith, c.listed_rows.ensures, c.token_rows.ensures, listed-few (c.args.kind / 16), rows_few c.args.sorts.now, c.requires)

pub returns-else-kind-le-OTHER_DECLARATION : goal.returns-else-kind-le-OTHER_DECLARATION
returns-else-kind-le-OTHER_DECLARATION c =
    let a = c.args in
    ap₂ (λ (m n : ℕ). m + n) c.listed_rows.ensures c.token_rows.ensures ∙ by-tokens a.kind a.sorts.now c.if-kind-le-OTHER_DECLARATION.false
