-- No row so far is at fault. Assumes nothing.
use mathlib.Core.Path.{sym, ap, ◌∙◌}
use Prim.Native.Nat.{ℕ}
use native.Mathlib.Omega.{arith}
use borrow.Author.Count.{below_more}
use Rattle.meaning.specs.Verdict.{block_fault_at}
use Rattle.check_blocks.proofs.RowFaults.{fault-at, no-fault}
use Rattle.check_blocks.proofs.first_block_fault.Goals as goal

pub loop-r-init : goal.loop-r-init
loop-r-init c = (c.declarations-d.ensures, c.row_count-n.ensures, λ j l. absurd (omega arith))

pub block_fault_at-requires : goal.block_fault_at-requires
block_fault_at-requires c =
    let i = c.loop-r.invariant.1 in
    (c.requires, omega arith)

pub overflow_cast-result : goal.overflow_cast-result
overflow_cast-result c =
    let few = c.requires.passed.few in
    let i = c.loop-r.invariant.1 in
    omega arith

pub returns-then-block_fault_at : goal.returns-then-block_fault_at
returns-then-block_fault_at c =
    let rows = c.args.rows.now in
    let i = c.loop-r.invariant in
    let n = i.1 in
    fault-at rows c.loop-r.r (omega arith) i.2 (ap (λ (d : ℕ). block_fault_at rows d c.loop-r.r) (sym i.0) ∙ sym c.block_fault_at.ensures ∙ c.if-block_fault_at.true)

pub loop-r-preserved : goal.loop-r-preserved
loop-r-preserved c =
    let rows = c.args.rows.now in
    let i = c.loop-r.invariant in
    (i.0, i.1, below_more _ _ i.2 (ap (λ (d : ℕ). block_fault_at rows d c.loop-r.r) (sym i.0) ∙ sym c.block_fault_at.ensures ∙ c.if-block_fault_at.false))

pub returns : goal.returns
returns c =
    let i = c.loop-r.invariant in
    let n = i.1 in
    no-fault c.args.rows.now (λ j m. i.2 j (omega arith))
