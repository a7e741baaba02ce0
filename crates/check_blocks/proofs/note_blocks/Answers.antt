-- The invariant: the blocks of the rows so far are noted. Assumes nothing.
use mathlib.Core.Path.{◌≡◌, subst}
use Prim.Native.Nat.{ℕ}
use native.Mathlib.Omega.{arith}
use native.Mathlib.Numerals.{add-one}
use Rattle.meaning.specs.Rows.{row_count}
use Rattle.check_blocks.specs.Blocks.{BlocksNoted}
use Rattle.check_blocks.proofs.NamedRows.{block-below}
use Rattle.check_blocks.proofs.LowestBlocks.{noted_more}
use Rattle.check_blocks.proofs.note_blocks.Goals as goal

pub loop-r-init : goal.loop-r-init
loop-r-init c = (c.row_count-n.ensures, c.requires.1)

pub loop-r-preserved : goal.loop-r-preserved
loop-r-preserved c =
    let i = c.loop-r.invariant in
    let r = c.loop-r.r in
    (i.0, rw (add-one r, c.note_row.ensures) (noted_more c.args.rows.now r c.loop-r.blocks (block-below c.args.rows.now c.requires.0 r (omega arith)) i.1))

pub returns : goal.returns
returns c =
    let e : c.loop-r.r ≡ row_count c.args.rows.now = omega arith in
    subst (λ (x : ℕ). BlocksNoted c.args.rows.now x c.loop-r.blocks) e c.loop-r.invariant.1
