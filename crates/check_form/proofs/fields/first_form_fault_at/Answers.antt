-- No row so far is at fault. Assumes nothing.
use mathlib.Core.Path.{sym, ap, ◌∙◌}
use borrow.Author.Count.{below_none, below_more}
use Rattle.meaning.specs.Rows.{row_count}
use Rattle.meaning.specs.Verdict.{form_fault_at}
use Rattle.base_rows.specs.Places.{place_of}
use Rattle.base_rows.proofs.LowestFound.{lowest-none, lowest-some}
use native.Mathlib.Omega.{arith}
use Rattle.check_form.proofs.fields.first_form_fault_at.Goals as goal

pub loop-r-init : goal.loop-r-init
loop-r-init c = (c.row_count-n.ensures, below_none _)

pub returns-then-form_fault_at : goal.returns-then-form_fault_at
returns-then-form_fault_at c = ap place_of (sym (lowest-some (form_fault_at c.args.rows.now c.args.d) (row_count c.args.rows.now) c.loop-r.r (omega arith) c.loop-r.invariant.1 (sym c.form_fault_at.ensures ∙ c.if-form_fault_at.true)))

pub loop-r-preserved : goal.loop-r-preserved
loop-r-preserved c = (c.loop-r.invariant.0, below_more _ _ c.loop-r.invariant.1 (sym c.form_fault_at.ensures ∙ c.if-form_fault_at.false))

pub returns : goal.returns
returns c = ap place_of (sym (lowest-none (form_fault_at c.args.rows.now c.args.d) (row_count c.args.rows.now) (λ j l. c.loop-r.invariant.1 j (omega arith))))
