-- `members::members_of` meets its contract. The first `count` of `members` are the rows listed before the link at `at`; links go to higher rows.
use mathlib.Core.Path.{refl, sym, ◌∙◌}
use native.Mathlib.Omega.{arith}
use borrow.Author.Rules.{rules}
use Rattle.base_layout.proofs.Parts.{operand-higher}
use Rattle.check_components.proofs.Links.{link-below}
use Rattle.check_components.proofs.ListedProcesses.{process-below}
use Rattle.check_usage.proofs.MemberSteps.{put_one, put-none, put_all}
use Rattle.check_usage.proofs.members.members_of.Goals as goal
use Rattle.check_usage.proofs.members.members_of.Goals.{then-is_process, else-is_process}

pub loop-p-init : goal.loop-p-init
loop-p-init c = record { listed = refl; room = c.requires.1; passed = omega arith; within = omega arith }

pub is_link-requires : goal.is_link-requires
is_link-requires c = omega arith

pub operand-p-requires : goal.operand-p-requires
operand-p-requires c = (link-below c.args.rows.now c.loop-p.at (sym c.is_link.ensures ∙ c.loop-p-test.true), search rules)

pub is_process-requires : goal.is_process-requires
is_process-requires c = omega arith

pub overflow_cast-members : goal.overflow_cast-members
overflow_cast-members c =
    omega (arith, c.requires.0, process-below c.args.rows.now c.operand-p.result (sym c.is_process.ensures ∙ c.if-is_process.true))

pub offset_bounds-members-count : goal.offset_bounds-members-count
offset_bounds-members-count c = omega arith

pub bounds-members-count : goal.bounds-members-count
bounds-members-count c =
    omega (arith, c.requires.0, c.loop-p.invariant.room, c.loop-p.invariant.passed, link-below c.args.rows.now c.loop-p.at (sym c.is_link.ensures ∙ c.loop-p-test.true))

pub overflow_add-count : goal.overflow_add-count
overflow_add-count c = omega arith

pub operand-at-requires : goal.operand-at-requires
operand-at-requires c = (link-below c.args.rows.now c.loop-p.at (sym c.is_link.ensures ∙ c.loop-p-test.true), search rules)

pub loop-p-smaller : goal.loop-p-smaller
loop-p-smaller c =
    let rows = c.args.rows.now in
    let below = link-below rows c.loop-p.at (sym c.is_link.ensures ∙ c.loop-p-test.true) in
    omega (arith, c.operand-at.ensures, below, operand-higher rows c.loop-p.at 2 below)

pub loop-p-preserved : goal.loop-p-preserved
loop-p-preserved c =
    let rows = c.args.rows.now in
    let link = sym c.is_link.ensures ∙ c.loop-p-test.true in
    let first = c.operand-p.ensures in
    let there = c.is_process.ensures in
    elim c.if-is_process.branch [
      | then-is_process w ↦ rw (w.members-is, w.count-is) (put_one c.loop-p.invariant link first c.operand-at.ensures c.requires.0 (sym there ∙ w.if-is_process.true))
      | else-is_process w ↦ rw (w.members-is, w.count-is) (put-none c.loop-p.invariant link first c.operand-at.ensures (sym there ∙ w.if-is_process.false))
    ]

pub shape_of-members : goal.shape_of-members
shape_of-members c = omega arith

pub returns : goal.returns
returns c =
    (omega (arith, c.loop-p.invariant.within, c.requires.0), put_all c.loop-p.invariant (sym c.is_link.ensures ∙ c.loop-p-test.false))
