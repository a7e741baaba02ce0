-- `place` meets its contract: a turn takes the lowest bit off; after k turns the place is that of the lowest bit.
use Rattle.std.proofs.Common.{◌≡◌, ◌-◌, ◌+◌, ℕ, get_or, sym, ap, ◌∙◌, arith}
use Rattle.meaning.specs.Basics.{all_below}
use Rattle.run_ready_bits.specs.Bits.{on}
use Rattle.run_ready_bits.proofs.Places.{next_place, last-place}
use Rattle.run_ready_bits.proofs.place.Goals as goal

pub loop-preserved : goal.loop-preserved
loop-preserved c =
    let e : c.args.k - c.loop.counter - 1 ≡ c.args.k - (c.loop.counter + 1) = omega arith in
    c.loop.invariant ∙ next_place _ _ (c.args.k - c.loop.counter) (omega (arith, c.loop-test.true)) c.rest-w.ensures
    ∙ ap (λ (j : ℕ). get_or (all_below (on c.rest-w.result) 64) j 64) e

pub returns : goal.returns
returns c = sym (c.loop.invariant ∙ last-place _ (c.args.k - c.loop.counter) (omega (arith, c.loop-test.false)))
