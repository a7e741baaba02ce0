-- The laws of notes that a run uses, of accepted tables.
use mathlib.Core.Path.{◌≡◌}
use mathlib.Core.Option.{none}
use mathlib.Core.List.{List}
use Prim.Native.Nat.{ℕ}
use lib.IntN.{ℤ}
use Rattle.meaning.specs.Readings.{Sheet}
use Rattle.meaning.specs.Answers.{check}
use Rattle.machine.specs.Held.{KeptReadings}
use Rattle.run_notes.specs.declared.Notes.{Notes}
use Rattle.run_noted.proofs.Start.{start-noted}
use Rattle.run_changes.specs.declared.Change.{Change}
use Rattle.run_told.proofs.BitsTold.{bits-told}
use Rattle.run_told.proofs.NotesTell.{notes-tell}
use Rattle.run_told.proofs.RowsNoted.{row-noted}
use Rattle.run_told.proofs.StepsLeft.{StepLeft, left_one, left_both, step_left}
use Rattle.run_turns.specs.Turns.{leave_step}
use Rattle.run_turns.proofs.Stands.{NoteLaws}

-- a step's rows are taken off, one or two
step-is-left : (rows : List ℤ) (m k : Notes) (c : Change) → StepLeft rows m k c → leave_step rows c.owner c.sender m ≡ k
step-is-left rows m k c (left_one z h) = rw z h
step-is-left rows m k c (left_both p z h) = rw z h

pub note-laws : (rows : List ℤ) → check rows ≡ none → (sheet : Sheet) (readings : List ℤ) (given : List ℕ) (lines : ℕ) → KeptReadings rows sheet readings given lines → NoteLaws rows sheet lines
note-laws rows ok sheet readings given lines K =
    record {
      tells = λ l s o m e. notes-tell rows ok sheet l s o m e;
      shows = λ l s o m e. bits-told rows ok sheet l s o m e;
      leaves = λ l s o a c q. step-is-left rows _ _ c (step_left rows ok sheet l s o a c q);
      notes = λ l t o b h r i live w u bare. row-noted rows ok sheet l t o r live readings given lines K b h i w u bare;
      starts = start-noted rows;
    }
