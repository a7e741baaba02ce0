-- The begin and the capacity as one number. Assumes nothing.
use mathlib.Core.Path.{ap}
use Prim.Native.Nat.{◌≤◌}
use native.Mathlib.Omega.{arith}
use borrow.Author.Rules.{rules}
use Rattle.write_strips.specs.Spans.{span_of}
use Rattle.occam_table.specs.Exports.{strip_number}
use Rattle.occam_table.proofs.occam_strip.Goals as goal

pub overflow_mul-result : goal.overflow_mul-result
unfolding span_of
overflow_mul-result c =
    let small : (c.span_of-span.result.start ≤ 65535) × (c.span_of-span.result.size ≤ 65535) = let start = ap (λ s. s.start) c.span_of-span.ensures in
    let size = ap (λ s. s.size) c.span_of-span.ensures in
    (omega arith, omega arith) in
    record { fits = omega (arith, small) }

pub overflow_add-result : goal.overflow_add-result
unfolding span_of
overflow_add-result c =
    let small : (c.span_of-span.result.start ≤ 65535) × (c.span_of-span.result.size ≤ 65535) = let start = ap (λ s. s.start) c.span_of-span.ensures in
    let size = ap (λ s. s.size) c.span_of-span.ensures in
    (omega arith, omega arith) in
    record { fits = omega (arith, small) }

pub returns : goal.returns
unfolding span_of strip_number
returns c = rw c.span_of-span.ensures
