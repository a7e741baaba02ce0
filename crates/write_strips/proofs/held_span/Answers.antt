-- The strip's end is cut at the limit. Assumes nothing.
use mathlib.Core.Path.{◌≡◌, ap}
use Prim.Native.Nat.{◌+◌, ◌≤◌, min}
use native.Mathlib.Omega.{arith}
use Rattle.write_strips.specs.Spans.{span_of}
use Rattle.write_strips.proofs.Spans.{held-within}
use Rattle.write_strips.proofs.held_span.Goals as goal

pub sum_at_most-end-requires : goal.sum_at_most-end-requires
unfolding span_of
sum_at_most-end-requires c =
    let begins : c.span_of-span.result.start ≤ c.args.limit = let e = ap (λ s. s.start) c.span_of-span.ensures in omega arith in
    begins

pub overflow_sub-result : goal.overflow_sub-result
unfolding span_of
overflow_sub-result c =
    let begins : c.span_of-span.result.start ≤ c.args.limit = let e = ap (λ s. s.start) c.span_of-span.ensures in omega arith in
    let start = begins in
    let end : c.sum_at_most-end.result ≡ min (c.span_of-span.result.start + c.span_of-span.result.size) c.args.limit = c.sum_at_most-end.ensures in
    omega arith

pub returns : goal.returns
returns c = held-within c.args.rows.now c.args.channel c.args.limit c.span_of-span.result c.sum_at_most-end.result c.span_of-span.ensures c.sum_at_most-end.ensures
