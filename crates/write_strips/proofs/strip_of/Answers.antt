-- The part from the strip's begin on, cut to the elements that there are. Assumes nothing.
use Prim.Native.Nat.{◌+◌, ◌≤◌}
use native.Mathlib.Omega.{arith}
use lib.ListN.{length}
use borrow.Author.Rules.{rules}
use Rattle.write_strips.proofs.Spans.{part_held}
use Rattle.write_strips.proofs.strip_of.Goals as goal

pub overflow_add-end : goal.overflow_add-end
overflow_add-end g c =
    let within : c.held_span-held.result.start + c.held_span-held.result.size ≤ length c.args.list.now = (part_held c.args.list.now c.args.rows.now c.args.channel c.held_span-held.result c.held_span-held.ensures).0 in
    let h = within in search rules

pub offset_bounds-list-start : goal.offset_bounds-list-start
offset_bounds-list-start g c =
    let within : c.held_span-held.result.start + c.held_span-held.result.size ≤ length c.args.list.now = (part_held c.args.list.now c.args.rows.now c.args.channel c.held_span-held.result c.held_span-held.ensures).0 in
    let h = within in
    let start : c.held_span-held.result.start ≤ length c.args.list.now = omega arith in
    search rules

pub slice_bounds-result-end : goal.slice_bounds-result-end
slice_bounds-result-end g c = (part_held c.args.list.now c.args.rows.now c.args.channel c.held_span-held.result c.held_span-held.ensures).0

pub returns : goal.returns
returns g c = (part_held c.args.list.now c.args.rows.now c.args.channel c.held_span-held.result c.held_span-held.ensures).1
