-- What is read is left in the buffers, with the line or the count of lines. Assumes nothing.
use mathlib.Core.Path.{◌≡◌, sym, ap, ◌∙◌}
use mathlib.Core.List.{List}
use Prim.Native.Nat.{ℕ}
use native.Mathlib.Omega.{arith}
use lib.IntN.{ℤ}
use borrow.Author.Rules.{rules}
use Rattle.std.specs.Prelude.{Result, Err}
use Rattle.read_sheet.specs.declared.SheetError.{SheetError}
use Rattle.read_sheet.specs.declared.SheetError.TheVariants.{Full, Refused}
use Rattle.read_sheet.proofs.KeptReadings.{few-lines}
use Rattle.test_leaves.specs.Leaves.{sheet_answer, sheet_lent}
use Rattle.test_leaves.proofs.sheets.leaf_sheet.Goals as goal

pub overflow_cast-n : goal.overflow_cast-n
overflow_cast-n c =
    let r = c.read_sheet in
    let a = c.args in
    let few = few-lines a.rows.now a.sheet.now a.values.now a.marks.now c.in-Ok.n (sym (ap (λ (w : Result ℕ SheetError × List ℤ × List ℕ). w.0) r.ensures) ∙ c.in-Ok.is) in
    record { fits = omega arith }

pub returns-in-Err-Refused : goal.returns-in-Err-Refused
returns-in-Err-Refused c =
    let r = c.read_sheet in
    let a = c.args in
    let is : r.result ≡ Err (Refused c.in-Err-Refused.line) = cc in
    rw (c.put_place.ensures, c.in-Err-Refused.line-is)
    (ap (λ (x : Result ℕ SheetError). sheet_answer x r.new.values r.new.marks a.place.now) (sym is) ∙ ap (λ (w : Result ℕ SheetError × List ℤ × List ℕ). sheet_lent w a.place.now) r.ensures)

pub returns-in-Err-Full : goal.returns-in-Err-Full
returns-in-Err-Full c =
    let r = c.read_sheet in
    let a = c.args in
    let is : r.result ≡ Err Full = cc in
    ap (λ (x : Result ℕ SheetError). sheet_answer x r.new.values r.new.marks a.place.now) (sym is) ∙ ap (λ (w : Result ℕ SheetError × List ℤ × List ℕ). sheet_lent w a.place.now) r.ensures

pub returns-in-Ok : goal.returns-in-Ok
returns-in-Ok c =
    let r = c.read_sheet in
    let a = c.args in
    rw c.put_place-in-Ok.ensures
    (ap (λ (x : Result ℕ SheetError). sheet_answer x r.new.values r.new.marks a.place.now) (sym c.in-Ok.is) ∙ ap (λ (w : Result ℕ SheetError × List ℤ × List ℕ). sheet_lent w a.place.now) r.ensures)
