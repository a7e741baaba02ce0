-- Sums that pass no limit have room for one row more. Assumes nothing.
use Prim.Native.Nat.{◌+◌}
use Rattle.meaning.specs.Declarations.{sum_below}
use Rattle.base_rows.proofs.LimitLaws.{small}
use native.Mathlib.Omega.{arith}
use Rattle.base_rows.proofs.limits.with_row.Goals as goal

pub overflow_add-result : goal.overflow_add-result
overflow_add-result c = omega (arith, small c.args.s c.requires.1.1, c.cells_at.type_inv)

pub overflow_add-result-2 : goal.overflow_add-result-2
overflow_add-result-2 c = omega (arith, small c.args.s c.requires.1.1, c.elements_at.type_inv)

pub overflow_add-result-3 : goal.overflow_add-result-3
overflow_add-result-3 c = omega (arith, small c.args.s c.requires.1.1, c.host_channels_at.type_inv)

pub overflow_add-result-4 : goal.overflow_add-result-4
overflow_add-result-4 c = omega (arith, small c.args.s c.requires.1.1, c.host_channels_at-2.type_inv)

pub overflow_add-result-5 : goal.overflow_add-result-5
overflow_add-result-5 c = omega (arith, small c.args.s c.requires.1.1, c.capacity_at.type_inv)

pub returns : goal.returns
unfolding sum_below
returns c =
    let p = c.requires.1.0 in
    λ i. record {
      cells = (p i).cells + c.cells_at.ensures i;
      elements = (p i).elements + c.elements_at.ensures i;
      sources = (p i).sources + c.host_channels_at.ensures i;
      sinks = (p i).sinks + c.host_channels_at-2.ensures i;
      capacity = (p i).capacity + c.capacity_at.ensures i;
    }
