-- The loop keeps where the chunk ends. Assumes nothing.
use mathlib.Core.Path.{sym, ◌∙◌}
use Prim.Native.Nat.{◌+◌, ◌<◌}
use native.Mathlib.Omega.{arith}
use lib.ListN.{length}
use Rattle.read_tokens.proofs.ChunkSteps.{chunk-past-end, chunk-of-last, chunk-stops, chunk-goes-on}
use Rattle.read_tokens.proofs.chunks.chunk_end.Goals as goal

pub returns-then-text-from : goal.returns-then-text-from
returns-then-text-from c = let e = chunk-past-end c.args.text.now c.args.from c.if-text-from.true in omega arith

pub returns-then-not-hang : goal.returns-then-not-hang
returns-then-not-hang c =
    let text = c.args.text.now in
    let h : c.loop-last.last + 1 < length text = omega arith in
    let e = chunk-stops text c.loop-last.last h (sym c.hang.ensures ∙ c.if-not-hang.true) in
    omega arith

pub loop-last-preserved : goal.loop-last-preserved
loop-last-preserved c =
    let text = c.args.text.now in
    let h : c.loop-last.last + 1 < length text = omega arith in
    let e = chunk-goes-on text c.loop-last.last h (sym c.hang.ensures ∙ c.if-not-hang.false) in
    omega arith

pub returns : goal.returns
returns c =
    let e = chunk-of-last c.args.text.now c.loop-last.last (omega arith) (omega arith) in
    omega arith
