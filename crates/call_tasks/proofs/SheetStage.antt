-- A sheet that was read into lists: its refusal, or the readings that the lists keep; with room for 8 channels the lists of an accepted table are not full.
use mathlib.Core.Path.{◌≡◌, sym, ap, ◌∙◌, subst}
use mathlib.Core.List.{List}
use mathlib.Core.Option.{none, some}
use Prim.Native.Nat.{ℕ, ◌≤◌}
use native.Mathlib.Omega.{arith}
use lib.IntN.{ℤ}
use lib.ListN.{length}
use Rattle.meaning.specs.Sheet.{sheet_fault, readings}
use Rattle.meaning.specs.Answers.{check}
use Rattle.machine.specs.Held.{KeptReadings}
use Rattle.machine.proofs.Declared.{room}
use Rattle.std.specs.Prelude.{Result, Ok, Err}
use Rattle.read_sheet.specs.declared.SheetError.{SheetError}
use Rattle.read_sheet.specs.declared.SheetError.TheVariants.{Full, Refused}
use Rattle.read_sheet.specs.SheetRead.{sheet_read}
use Rattle.read_sheet.proofs.KeptReadings.{never-full, refused-read, accepted-read, few-lines, kept-readings}

module _ (rows : List ℤ) (sheet : List ℕ) (values : List ℤ) (marks : List ℕ) (r : Result ℕ SheetError) (values' : List ℤ) (marks' : List ℕ) (e : (r, values', marks') ≡ sheet_read rows sheet values marks) where
  answer-is : (sheet_read rows sheet values marks).0 ≡ r
  answer-is = sym (ap (λ (w : Result ℕ SheetError × List ℤ × List ℕ). w.0) e)

  pub sheet-fault : (L : ℕ) → r ≡ Err (Refused L) → sheet_fault rows sheet ≡ some (10, L)
  sheet-fault L q = refused-read rows sheet values marks L (answer-is ∙ q)

  pub not_full : check rows ≡ none → length values ≡ 1024 → length marks ≡ 1024 → r ≡ Err Full → ⊥
  not_full ok v m q = never-full rows sheet values marks (omega (arith, (room rows ok).places)) (omega (arith, (room rows ok).places)) (answer-is ∙ q)

  module _ (n : ℕ) (q : r ≡ Ok n) where
    pub sheet-accepted : sheet_fault rows sheet ≡ none
    sheet-accepted = accepted-read rows sheet values marks n (answer-is ∙ q)

    pub lines-few : n ≤ 128
    lines-few = few-lines rows sheet values marks n (answer-is ∙ q)

    pub sheet-kept : KeptReadings rows (readings rows sheet) values' marks' n
    sheet-kept = subst (λ (w : Result ℕ SheetError × List ℤ × List ℕ). KeptReadings rows (readings rows sheet) w.1 w.2 n) (sym e) (kept-readings rows sheet values marks n (answer-is ∙ q))
