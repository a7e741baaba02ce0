-- The budget's refusal, or the run on the readings that are kept, with the two lists cleared. Assumes nothing.
use mathlib.Core.Path.{refl, ap₂, ◌∙◌}
use mathlib.Core.List.{List}
use Prim.Native.Nat.{ℕ}
use Rattle.meaning.specs.Sheet.{readings}
use Rattle.meaning.specs.Run.{run}
use Rattle.meaning.specs.Trace.{trace}
use Rattle.run_turns.specs.Showing.{lists_lent, shown_from_place}
use Rattle.call_tasks.proofs.Stages.{task, budget-refused, task-run, held-reply, task-refused, task-ran}
use Rattle.call_tasks.proofs.run_readings.Goals as goal

pub returns-then-budget-gt65536 : goal.returns-then-budget-gt65536
returns-then-budget-gt65536 c =
    let a = c.args in
    λ sheet k. task-refused (task a.rows.now sheet a.choices.now a.budget) _ _ 11 0 (budget-refused a.rows.now sheet a.choices.now a.budget c.requires.accepted k.0 c.if-budget-gt65536.true) refl

pub returns : goal.returns
returns c =
    let a = c.args in
    λ sheet k.
    let e = k.0 in
    let K = k.1 in
    let held = c.run.ensures (readings a.rows.now sheet) K in
    let q = run a.rows.now (readings a.rows.now sheet) a.choices.now a.budget in
    let stored = held.1 ∙ ap₂ (λ (x y : List ℕ). shown_from_place 0 (trace a.rows.now (readings a.rows.now sheet) a.choices.now a.budget) (lists_lent x y)) c.clear.ensures c.clear-2.ensures in
    task-ran (task a.rows.now sheet a.choices.now a.budget) (lists_lent a.readied.now a.taken.now) _ q _ (task-run a.rows.now sheet a.choices.now a.budget c.requires.accepted e c.if-budget-gt65536.false) (held-reply a.rows.now q c.run.result held.0) stored
