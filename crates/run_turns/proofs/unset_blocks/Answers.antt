-- `unset_blocks` meets its contract: each pass unsets the cells of one more of the blocks that are listed.
use mathlib.Core.Path.{◌≡◌, ap, ap₂, ◌∙◌}
use Prim.Native.Nat.{ℕ, ◌+◌, ◌<◌}
use lib.ListN.{get_or}
use Rattle.std.proofs.Common.{arith}
use Rattle.run_code.specs.Prepared.{place_at, first_of, size_of}
use Rattle.run_code.proofs.Codes.{block-cells}
use Rattle.run_values.specs.Cells.{with_unset}
use Rattle.run_turns.proofs.Unsetting.{variable-below, one-more-unset}
use Rattle.run_turns.proofs.unset_blocks.Goals as goal

-- the variable of the block is a row of the table
pub place-requires : goal.place-requires
place-requires c =
    let (rows, p) = c.requires.table in
    let (l, e) = c.requires.listed c.loop-b.b-index c.loop-b-test.true in
    record { inside = (omega (arith, c.place-v.ensures, variable-below p _ l e), omega arith) }

pub place-requires-in-loop-b : goal.place-requires-in-loop-b
place-requires-in-loop-b c =
    let (rows, p) = c.requires.table in
    let (l, e) = c.requires.listed c.loop-b.b-index c.loop-b-test.true in
    record { inside = (omega (arith, c.place-v.ensures, variable-below p _ l e), omega arith) }

-- what is prepared of the block: its first cell and how many there are
pub unset_range-state-requires : goal.unset_range-state-requires
unset_range-state-requires c =
    let code = c.args.code.now in
    let r = get_or c.args.blocks.now c.loop-b.b-index 0 in
    let v = c.place-v.ensures in
    let a : c.place.result ≡ first_of code r = c.place.ensures ∙ ap (λ (q : ℕ). place_at code q 1) v in
    let b : c.place-in-loop-b.result ≡ size_of code r = c.place-in-loop-b.ensures ∙ ap (λ (q : ℕ). place_at code q 2) v in
    let (rows, p) = c.requires.table in
    let (l, e) = c.requires.listed c.loop-b.b-index c.loop-b-test.true in
    omega (arith, block-cells p r (omega arith) e)

pub loop-b-preserved : goal.loop-b-preserved
loop-b-preserved c =
    let code = c.args.code.now in
    let r = get_or c.args.blocks.now c.loop-b.b-index 0 in
    let v = c.place-v.ensures in
    let a : c.place.result ≡ first_of code r = c.place.ensures ∙ ap (λ (q : ℕ). place_at code q 1) v in
    let b : c.place-in-loop-b.result ≡ size_of code r = c.place-in-loop-b.ensures ∙ ap (λ (q : ℕ). place_at code q 2) v in
    let l = c.loop-b in
    λ rows p. one-more-unset rows code c.args.blocks.now p c.requires.listed l.b-index c.loop-b-test.true c.args.state (l.invariant rows p)
    (c.unset_range-state.ensures ∙ ap₂ (λ (i n : ℕ). with_unset i n l.state) a b)
