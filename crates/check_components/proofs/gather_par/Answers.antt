-- The loop has gathered the components before the link at `at`. The measure is the rows left to the table's end. Assumes nothing.
use mathlib.Core.Path.{refl, sym, ◌∙◌}
use native.Mathlib.Omega.{arith}
use borrow.Author.Rules.{rules}
use Rattle.base_layout.proofs.Parts.{operand-higher}
use Rattle.check_components.proofs.Links.{link-below}
use Rattle.check_components.proofs.Gathering.{gathering-starts, gathering-pars, gathering-goes, gathering-ends, row_within}
use Rattle.check_components.proofs.gather_par.Goals as goal

pub loop-all-init : goal.loop-all-init
loop-all-init c = gathering-starts c.args.rows.now c.args.r c.requires.1 c.requires.3 c.operand-at.ensures

pub operand-requires : goal.operand-requires
operand-requires c = (link-below c.args.rows.now c.loop-all.at (sym c.is_link.ensures ∙ c.loop-all-test.true), search rules)

pub gather_component-requires : goal.gather_component-requires
gather_component-requires c =
    let rows = c.args.rows.now in
    let l = c.loop-all in
    let k = sym c.is_link.ensures ∙ c.loop-all-test.true in
    (c.requires.0, gathering-pars rows c.args.r l.sets l.all l.at l.invariant k c.operand.result _ c.operand.ensures refl, l.invariant.sized)

pub operand-at-requires-in-loop-all : goal.operand-at-requires-in-loop-all
operand-at-requires-in-loop-all c =
    let rows = c.args.rows.now in
    let l = c.loop-all in
    let k = sym c.is_link.ensures ∙ c.loop-all-test.true in
    (link-below rows l.at k, search rules)

pub loop-all-smaller : goal.loop-all-smaller
loop-all-smaller c =
    let rows = c.args.rows.now in
    let l = c.loop-all in
    let k = sym c.is_link.ensures ∙ c.loop-all-test.true in
    omega (arith, link-below rows l.at k, operand-higher rows l.at 2 (link-below rows l.at k), c.operand-at-in-loop-all.ensures)

pub loop-all-preserved : goal.loop-all-preserved
loop-all-preserved c =
    let rows = c.args.rows.now in
    let l = c.loop-all in
    let k = sym c.is_link.ensures ∙ c.loop-all-test.true in
    gathering-goes rows c.args.r l.sets l.all l.at l.invariant k c.operand.result c.operand-at-in-loop-all.result c.operand.ensures c.operand-at-in-loop-all.ensures c.gather_component.ensures.0 c.gather_component.ensures.1

pub slice_bounds-store-end : goal.slice_bounds-store-end
slice_bounds-store-end c = sym c.loop-all.invariant.sized

pub store-requires : goal.store-requires
store-requires c =
    let l = c.loop-all in
    (row_within c.args.rows.now l.sets l.invariant.higher.pars.0 c.args.r c.requires.1, l.invariant.sized)

pub returns : goal.returns
returns c =
    let l = c.loop-all in
    gathering-ends c.args.rows.now c.args.r l.sets l.all l.at l.invariant (sym c.is_link.ensures ∙ c.loop-all-test.false) c.requires.1 c.requires.2 c.store.ensures
