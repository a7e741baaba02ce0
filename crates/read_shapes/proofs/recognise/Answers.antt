-- The loop keeps the answer: that of the state, for the sorts that are left. Assumes nothing.
use mathlib.Core.Path.{refl, sym, ◌∙◌}
use Prim.Native.Nat.{suc, ◌<◌}
use native.Mathlib.Omega.{arith}
use lib.ListN.{length}
use Rattle.read_shapes.specs.Phrases.{phrase_in}
use Rattle.read_shapes.specs.Numbers.{top_first}
use Rattle.read_shapes.proofs.RecogniseSteps.{answer-at-end, turn-stops, turn-small, turn-goes-on}
use Rattle.read_shapes.proofs.recognise.Goals as goal

pub loop-sort-init : goal.loop-sort-init
unfolding phrase_in top_first
loop-sort-init c = (omega arith, c.requires.0, refl)

pub returns-in_default : goal.returns-in_default
returns-in_default c =
    let l = c.loop-sort in
    let room : suc l.depth < length l.stack = omega arith in
    turn-stops c.args.sorts.now l.stack l.mode l.kind l.depth l.sort-index c.loop-sort-test.true c.turn.result c.turn.ensures room l.invariant.1 c.in_default.is
    ∙ l.invariant.2

pub loop-sort-preserved : goal.loop-sort-preserved
loop-sort-preserved c =
    let l = c.loop-sort in
    let room : suc l.depth < length l.stack = omega arith in
    let d = turn-small c.args.sorts.now l.stack l.mode l.kind l.depth l.sort-index c.loop-sort-test.true c.turn.result c.turn.ensures room l.invariant.1 c.in-Some.turn c.in-Some.is in (
      omega (arith, d.1, l.invariant.0),
      d.0,
      sym (turn-goes-on c.args.sorts.now l.stack l.mode l.kind l.depth l.sort-index c.loop-sort-test.true c.turn.result c.turn.ensures room l.invariant.1 c.in-Some.turn c.in-Some.is)
          ∙ l.invariant.2,
    )

pub returns : goal.returns
returns c =
    let l = c.loop-sort in
    c.complete.ensures ∙ answer-at-end c.args.sorts.now l.stack l.mode l.kind l.depth l.sort-index c.loop-sort-test.false ∙ l.invariant.2
