-- The sheet's refusal, or the run on the readings of all its channels; the lists are not full. Assumes nothing.
use mathlib.Core.Path.{refl}
use Prim.Native.Nat.{ℕ}
use lib.IntN.{ℤ, pos}
use lib.ListN.{replicate, length-replicate}
use Rattle.meaning.specs.Sheet.{readings}
use Rattle.call_tasks.proofs.Stages.{task, sheet-refused, task-refused}
use Rattle.call_tasks.proofs.SheetStage.{sheet-fault, not_full, sheet-accepted, lines-few, sheet-kept}
use Rattle.call_tasks.proofs.run_wide.Goals as goal

pub run_readings-requires : goal.run_readings-requires
run_readings-requires c =
    let a = c.args in
    record {
      accepted = c.requires;
      kept = (readings a.rows.now a.sheet.now, sheet-kept a.rows.now a.sheet.now (replicate 1024 (pos 0)) (replicate 1024 0) c.read_sheet.result _ _ c.read_sheet.ensures c.in-Ok.lines c.in-Ok.is);
      few = lines-few a.rows.now a.sheet.now (replicate 1024 (pos 0)) (replicate 1024 0) c.read_sheet.result _ _ c.read_sheet.ensures c.in-Ok.lines c.in-Ok.is;
    }

pub returns-in-Err-Refused : goal.returns-in-Err-Refused
returns-in-Err-Refused c =
    let a = c.args in
    rw c.in-Err-Refused.place-is (task-refused (task a.rows.now a.sheet.now a.choices.now a.budget) _ _ 10 c.in-Err-Refused.place (sheet-refused a.rows.now a.sheet.now a.choices.now a.budget c.requires 10 c.in-Err-Refused.place (sheet-fault a.rows.now a.sheet.now (replicate 1024 (pos 0)) (replicate 1024 0) c.read_sheet.result _ _ c.read_sheet.ensures c.in-Err-Refused.place (cc))) refl)

pub returns-in-Err-Full : goal.returns-in-Err-Full
returns-in-Err-Full c =
    let a = c.args in
    absurd (not_full a.rows.now a.sheet.now (replicate 1024 (pos 0)) (replicate 1024 0) c.read_sheet.result _ _ c.read_sheet.ensures c.requires (length-replicate {A = ℤ} 1024 (pos 0)) (length-replicate {A = ℕ} 1024 0) (cc))

pub returns-in-Ok : goal.returns-in-Ok
returns-in-Ok c =
    let a = c.args in
    c.run_readings.ensures a.sheet.now (sheet-accepted a.rows.now a.sheet.now (replicate 1024 (pos 0)) (replicate 1024 0) c.read_sheet.result _ _ c.read_sheet.ensures c.in-Ok.lines c.in-Ok.is, sheet-kept a.rows.now a.sheet.now (replicate 1024 (pos 0)) (replicate 1024 0) c.read_sheet.result _ _ c.read_sheet.ensures c.in-Ok.lines c.in-Ok.is)
