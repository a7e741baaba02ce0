-- The walk over processes and the walk over member lists, each of which calls the other, meet their contracts. The measure of both is the rows left to the table's end.
use mathlib.Core.Path.{sym, ◌∙◌, subst}
use mathlib.Core.Logic.{inl, inr}
use native.Mathlib.Omega.{arith}
use borrow.Author.Rules.{rules}
use Rattle.meaning.specs.Rows.{kind_at}
use Rattle.base_layout.proofs.Parts.{operand-higher}
use Rattle.base_sets.proofs.SetLaws.{no_call, one-call, two-calls}
use Rattle.check_components.proofs.Links.{link-below, link-marks, no-link-marks}
use Rattle.check_components.proofs.ProcessMarks.{Single, past-process, all-of-single, all-alone}
use Rattle.check_components.proofs.RowSets.{Listing, all-of-listing, all-again, all-sized, pars-higher, par-within, par-joined}
use Rattle.check_components.proofs.+walk_members_walk_process.Goals as goal

pub walk_members-operand-requires : goal.walk_members-operand-requires
walk_members-operand-requires t c =
    ((link-below c.args.rows.now c.args.m (sym c.is_link.ensures ∙ c.if-is_link.true)), search rules)

pub walk_members-walk_process-requires : goal.walk_members-walk_process-requires
walk_members-walk_process-requires t c =
    (omega (arith, c.decreases, c.operand.ensures, (link-below c.args.rows.now c.args.m (sym c.is_link.ensures ∙ c.if-is_link.true)), operand-higher c.args.rows.now c.args.m 1 (link-below c.args.rows.now c.args.m (sym c.is_link.ensures ∙ c.if-is_link.true))), (c.requires.0, pars-higher c.args.rows.now c.args.sets.now c.args.m c.requires.1 c.operand.result (omega (arith, c.operand.ensures, operand-higher c.args.rows.now c.args.m 1 (link-below c.args.rows.now c.args.m (sym c.is_link.ensures ∙ c.if-is_link.true)))), c.requires.2))

pub walk_members-operand-requires-then-is_link : goal.walk_members-operand-requires-then-is_link
walk_members-operand-requires-then-is_link t c =
    ((link-below c.args.rows.now c.args.m (sym c.is_link.ensures ∙ c.if-is_link.true)), search rules)

pub walk_members-walk_members-requires : goal.walk_members-walk_members-requires
walk_members-walk_members-requires t c =
    (omega (arith, c.decreases, c.operand-then-is_link.ensures, (link-below c.args.rows.now c.args.m (sym c.is_link.ensures ∙ c.if-is_link.true)), operand-higher c.args.rows.now c.args.m 2 (link-below c.args.rows.now c.args.m (sym c.is_link.ensures ∙ c.if-is_link.true))), (c.requires.0, pars-higher c.args.rows.now c.args.sets.now c.args.m c.requires.1 c.operand-then-is_link.result (omega (arith, c.operand-then-is_link.ensures, operand-higher c.args.rows.now c.args.m 2 (link-below c.args.rows.now c.args.m (sym c.is_link.ensures ∙ c.if-is_link.true)))), all-sized _ _ c.walk_process.ensures c.requires.2))

pub walk_members-returns-then-is_link : goal.walk_members-returns-then-is_link
walk_members-returns-then-is_link t c =
    two-calls _ _ _ c.walk_process.ensures c.walk_members.ensures (link-marks c.args.rows.now c.args.m (sym c.is_link.ensures ∙ c.if-is_link.true) c.operand.ensures c.operand-then-is_link.ensures)

pub walk_members-returns-else-is_link : goal.walk_members-returns-else-is_link
walk_members-returns-else-is_link t c =
    no_call _ (no-link-marks c.args.rows.now c.args.m (sym c.is_link.ensures ∙ c.if-is_link.false))

pub walk_process-returns-then-rows-r : goal.walk_process-returns-then-rows-r
walk_process-returns-then-rows-r t c =
    no_call _ (past-process c.args.rows.now c.args.r c.if-rows-r.true)

pub walk_process-join_row-requires : goal.walk_process-join_row-requires
walk_process-join_row-requires t c =
    (par-within c.args.rows.now c.args.sets.now c.args.r c.requires.1 c.if-rows-r.false, all-sized _ _ c.action.ensures c.requires.2)

pub walk_process-walk_members-requires : goal.walk_process-walk_members-requires
walk_process-walk_members-requires t c =
    let o = c.operand in
    let h = operand-higher c.args.rows.now c.args.r 1 c.if-rows-r.false in
    (omega (arith, c.decreases, o.ensures, h), (c.requires.0, pars-higher c.args.rows.now c.args.sets.now c.args.r c.requires.1 o.result (omega (arith, o.ensures, h)), all-sized _ _ c.action.ensures c.requires.2))

pub walk_process-walk_process-requires : goal.walk_process-walk_process-requires
walk_process-walk_process-requires t c =
    let o = c.operand-in-33 in
    let h = operand-higher c.args.rows.now c.args.r 2 c.if-rows-r.false in
    (omega (arith, c.decreases, o.ensures, h), (c.requires.0, pars-higher c.args.rows.now c.args.sets.now c.args.r c.requires.1 o.result (omega (arith, o.ensures, h)), all-sized _ _ c.action.ensures c.requires.2))

pub walk_process-returns-in-31 : goal.walk_process-returns-in-31
walk_process-returns-in-31 t c =
    let a = c.action in
    let h = c.if-rows-r.false in
    let k = sym c.natural.ensures ∙ c.in-31.is in
    two-calls _ _ _ a.ensures (par-joined c.args.rows.now c.args.sets.now c.args.r c.requires.1 h _ k (all-sized _ _ a.ensures c.requires.2) c.join_row.ensures) (all-again c.args.rows.now c.args.r h k)

pub walk_process-returns-in-30 : goal.walk_process-returns-in-30
walk_process-returns-in-30 t c =
    two-calls _ _ _ c.action.ensures c.walk_members.ensures (all-of-listing c.args.rows.now c.args.r c.if-rows-r.false (subst Listing c.natural.ensures c.in-30.is) c.operand.ensures)

pub walk_process-returns-in-33 : goal.walk_process-returns-in-33
walk_process-returns-in-33 t c =
    two-calls _ _ _ c.action.ensures c.walk_process.ensures (all-of-single c.args.rows.now c.args.r c.if-rows-r.false (subst Single c.natural.ensures c.in-33.is) c.operand-in-33.ensures)

pub walk_process-returns-in_default : goal.walk_process-returns-in_default
walk_process-returns-in_default t c =
    let e = c.natural.ensures in
    let other : Listing (kind_at c.args.rows.now c.args.r) → ⊥ = λ q. c.in_default.in_default-own.rest.0.1 (subst Listing (sym e) q) in
    one-call _ _ c.action.ensures (all-alone c.args.rows.now c.args.r c.if-rows-r.false (λ q. other (inl q)) (λ q. c.in_default.in_default-own.rest.0.0.1 (e ∙ q)) (λ q. other (inr (inl q))) (λ q. c.in_default.in_default-own.rest.1 (subst Single (sym e) q)) (λ q. other (inr (inr q))))
