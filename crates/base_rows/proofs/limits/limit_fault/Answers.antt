-- No declaration so far passes a limit. Assumes nothing.
use mathlib.Core.Path.{◌≡◌, refl, sym, ap, ◌∙◌}
use native.Mathlib.Numerals.{add-one}
use borrow.Author.Count.{below_none, below_more}
use Rattle.meaning.specs.Declarations.{declarations, sum_below}
use Rattle.meaning.specs.Verdict.{over_limit}
use Rattle.base_rows.specs.Places.{place_of}
use Rattle.base_rows.specs.Sums.{limit_sums, sums_over}
use Rattle.base_rows.proofs.LowestFound.{lowest-none, lowest-some}
use native.Mathlib.Omega.{arith}
use Rattle.base_rows.proofs.limits.limit_fault.Goals as goal

pub loop-r-init : goal.loop-r-init
unfolding sum_below
loop-r-init c = (c.declarations-d.ensures, refl, refl, below_none _)

pub with_row-s-requires : goal.with_row-s-requires
with_row-s-requires c = (c.loop-r.invariant.0, (c.loop-r.invariant.1, c.loop-r.invariant.2))

pub returns-then-over : goal.returns-then-over
returns-then-over c =
    let over-is : c.over.result ≡ over_limit c.args.rows.now c.loop-r.r = c.over.ensures ∙ ap sums_over c.with_row-s.ensures in
    let rows = c.args.rows.now in
    ap place_of (sym (lowest-some (over_limit rows) (declarations rows) c.loop-r.r (omega arith) c.loop-r.invariant.3 (sym (over-is) ∙ c.if-over.true)))

pub loop-r-preserved : goal.loop-r-preserved
loop-r-preserved c =
    let over-is : c.over.result ≡ over_limit c.args.rows.now c.loop-r.r = c.over.ensures ∙ ap sums_over c.with_row-s.ensures in
    let rows = c.args.rows.now in
    (c.loop-r.invariant.0, c.with_row-s.ensures ∙ ap (limit_sums rows) (sym (add-one c.loop-r.r)), sym c.over.ensures ∙ c.if-over.false, below_more _ _ c.loop-r.invariant.3 (sym (over-is) ∙ c.if-over.false))

pub returns : goal.returns
returns c =
    let rows = c.args.rows.now in
    ap place_of (sym (lowest-none (over_limit rows) (declarations rows) (λ j m. c.loop-r.invariant.3 j (omega arith))))
