-- One pass over the declarations: the output channels passed, and where the next strip begins. Assumes nothing.
use mathlib.Core.Path.{◌≡◌, sym, ap, ◌∙◌}
use Prim.Native.Nat.{ℕ, min}
use native.Mathlib.Omega.{arith}
use Rattle.meaning.specs.Declarations.{capacity_at}
use Rattle.write_strips.proofs.Spans.{one-port, none_passed, one-passed, here_found, all-passed}
use Rattle.write_strips.proofs.span_of.Goals as goal

pub loop-r-init : goal.loop-r-init
loop-r-init c = (c.declarations-d.ensures, none_passed c.args.rows.now c.args.channel c.args.limit)

pub returns-then-found_here : goal.returns-then-found_here
returns-then-found_here c =
    let size_is : c.min-size.result ≡ min (capacity_at c.args.rows.now c.loop-r.r) c.args.limit = c.min-size.ensures ∙ ap (λ (n : ℕ). min n c.args.limit) c.capacity_at.ensures in
    let a = c.args in
    let l = c.loop-r in
    here_found a.rows.now a.channel a.limit l.r l.port l.start c.host_channels_at-here.result c.min-size.result l.invariant.1 c.host_channels_at-here.ensures (size_is) (sym c.found_here.ensures ∙ c.if-found_here.true)

pub sum_at_most-start-requires : goal.sum_at_most-start-requires
sum_at_most-start-requires c = omega arith

pub overflow_add-port : goal.overflow_add-port
overflow_add-port c = omega (arith, one-port c.args.rows.now c.loop-r.r, c.host_channels_at-here.ensures)

pub loop-r-preserved : goal.loop-r-preserved
loop-r-preserved c =
    let size_is : c.min-size.result ≡ min (capacity_at c.args.rows.now c.loop-r.r) c.args.limit = c.min-size.ensures ∙ ap (λ (n : ℕ). min n c.args.limit) c.capacity_at.ensures in
    let a = c.args in
    let l = c.loop-r in
    let more = one-passed a.rows.now a.channel a.limit l.r l.port l.start c.host_channels_at-here.result c.min-size.result l.invariant.1 c.host_channels_at-here.ensures (size_is) (omega arith) (sym c.found_here.ensures ∙ c.if-found_here.false) in
    (l.invariant.0, rw c.sum_at_most-start.ensures more)

pub returns : goal.returns
returns c =
    let a = c.args in
    let l = c.loop-r in
    all-passed a.rows.now a.channel a.limit l.r l.port l.start l.invariant.1 (omega arith)
