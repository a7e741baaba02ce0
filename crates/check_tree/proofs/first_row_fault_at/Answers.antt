-- No place so far is at fault. Assumes nothing.
use mathlib.Core.Path.{◌≡◌, sym, ap, ◌∙◌}
use mathlib.Core.Bool.{false}
use Prim.Native.Nat.{suc, ◌≤◌}
use borrow.Author.Count.{below_more}
use Rattle.meaning.specs.Rows.{row_count}
use Rattle.meaning.specs.Verdict.{targets_below, tree_fault_at}
use Rattle.std.specs.Prelude.{Some}
use Rattle.base_rows.specs.Places.{place_of}
use Rattle.base_rows.proofs.Leading.{declarations-at-most}
use Rattle.base_rows.proofs.LowestFound.{lowest-none, lowest-some}
use Rattle.check_tree.proofs.TreeLaws.{before_root, after-root, no-root, past-rows}
use native.Mathlib.Omega.{arith}
use Rattle.check_tree.proofs.first_row_fault_at.Goals as goal

pub loop-r-init : goal.loop-r-init
loop-r-init c =
    let h : c.args.d ≤ row_count c.args.rows.now = omega (arith, declarations-at-most c.args.rows.now, c.requires.1.1) in
    (c.row_count-n.ensures, omega (arith, c.row_count-n.ensures), before_root c.args.rows.now c.args.d (targets_below c.args.rows.now (row_count c.args.rows.now)) h)

pub row_fault_at-requires : goal.row_fault_at-requires
row_fault_at-requires c = (c.requires.0, (c.requires.1.0, omega arith))

pub returns-then-row_fault_at : goal.returns-then-row_fault_at
returns-then-row_fault_at c =
    let rows = c.args.rows.now in
    let refs = targets_below rows (row_count rows) in
    ap place_of (sym (lowest-some (tree_fault_at rows c.args.d refs) (suc (row_count rows)) c.loop-r.r (omega arith) c.loop-r.invariant.2 (after-root rows c.args.d refs (omega arith) c.loop-r.r (omega arith) (omega arith) ∙ sym c.row_fault_at.ensures ∙ c.if-row_fault_at.true)))

pub loop-r-preserved : goal.loop-r-preserved
loop-r-preserved c =
    let rows = c.args.rows.now in
    let refs = targets_below rows (row_count rows) in
    (c.loop-r.invariant.0, c.loop-r.invariant.1, below_more _ _ c.loop-r.invariant.2 (after-root rows c.args.d refs (omega arith) c.loop-r.r (omega arith) (omega arith) ∙ sym c.row_fault_at.ensures ∙ c.if-row_fault_at.false))

pub returns-then-d-n : goal.returns-then-d-n
returns-then-d-n c =
    let rows = c.args.rows.now in
    let refs = targets_below rows (row_count rows) in
    ap Some c.loop-r.invariant.0
    ∙ ap place_of (sym (lowest-some (tree_fault_at rows c.args.d refs) (suc (row_count rows)) (row_count rows) (omega arith) (λ j m. c.loop-r.invariant.2 j (omega arith)) (no-root rows c.args.d refs (omega arith) (omega (arith, c.if-d-n.true, c.loop-r.invariant.0)))))

pub returns-else-d-n : goal.returns-else-d-n
returns-else-d-n c =
    let rows = c.args.rows.now in
    let refs = targets_below rows (row_count rows) in
    ap place_of (sym (lowest-none (tree_fault_at rows c.args.d refs) (suc (row_count rows)) (λ j m. below_more (λ i. tree_fault_at rows c.args.d refs i ≡ false) (row_count rows) (λ i k. c.loop-r.invariant.2 i (omega arith)) (past-rows rows c.args.d refs (omega arith) (λ e. c.if-d-n.false (e ∙ sym c.loop-r.invariant.0))) j (omega arith))))
