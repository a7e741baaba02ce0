-- What is printed for a run is no longer than a printed text may be: the numbers of a table and of readings that are not refused have 32 bits, and so have those of the run.
use mathlib.Core.Path.{◌≡◌, sym, ap, subst, ◌∙◌}
use mathlib.Core.Option.{none, some, none-ne-some, some-injective}
use mathlib.Core.List.{List, [], ◌∷◌, flatten}
use Prim.Native.Nat.{ℕ, zero, suc, ◌<◌, ◌≤◌}
use lib.IntN.{ℤ}
use lib.ListN.{length, get_or, get_elem?}
use Rattle.meaning.specs.Limits.{max_budget}
use Rattle.meaning.specs.Declarations.{channels}
use Rattle.meaning.specs.TableBytes.{bytes_fault, rows_of}
use Rattle.meaning.specs.Values.{Message}
use Rattle.meaning.specs.Sheet.{sheet_fault, readings, column, columns}
use Rattle.meaning.specs.Answers.{check, ran}
use Rattle.meaning.specs.Run.{run}
use Rattle.meaning.specs.Runner.{printed_result}
use Rattle.meaning.specs.PrintedForms.{Each, each_none, each_more, In32, IsRow, IsReading, IsValues}
use Rattle.meaning.specs.PrintedClaims.{TableForm, TableReads, SheetForm, SheetReads}
use Rattle.meaning.proofs.TableLaws.{table-form, table-reads}
use Rattle.meaning.proofs.SheetLaws.{sheet-form, sheet-reads}
use Rattle.agreement.proofs.RunTakesOrder.{run-takes-order}
use Rattle.call_runner.specs.PrintedTexts.{max_printed_text}
use Rattle.call_runner.proofs.FinalState.{run-held}
use Rattle.call_runner.proofs.InRange.{numbers-in}
use Rattle.call_runner.proofs.Lists.{each_at, each_both}
use Rattle.call_runner.proofs.PrintedTextSize.{printed-text-short}

-- the rows of bytes that are not refused
flat_in : (rows : List (List ℤ)) → Each IsRow rows → Each In32 (flatten rows)
unfolding flatten
flat_in [] each_none = each_none
flat_in (row ∷ rows) (each_more h g) = each_both h.1 (flat_in rows g)

pub rows_in : (bytes : List ℕ) → bytes_fault bytes ≡ none → Each In32 (rows_of bytes)
unfolding TableForm TableReads
rows_in bytes e = let f = (table-form bytes).0 e in subst (Each In32) (sym (ap rows_of f.1 ∙ table-reads f.0 f.4)) (flat_in f.0 f.4)

-- the readings of a sheet that is not refused
column-in : (k j : ℕ) (vs : List (List Message)) → Each (IsValues k) vs → Each IsReading (column vs j)
column-in k j [] each_none = each_none
column-in k j (v ∷ vs) (each_more h g) = each_more (each_at {P = IsReading} none tt h.1 j) (column-in k j vs g)

columns-in : (k n : ℕ) (vs : List (List Message)) → Each (IsValues k) vs → Each (Each IsReading) (columns vs n)
unfolding columns
columns-in k zero vs h = each_none
columns-in k (suc n) vs h = each_both (columns-in k n vs h) (each_more (column-in k n vs h) each_none)

entry_in : (l : List Message) → Each IsReading l → (n : ℕ) (m : Message) → get_elem? l n ≡ some m → IsReading m
entry_in [] h n m e = absurd (none-ne-some m e)
entry_in (x ∷ l) (each_more p h) zero m e = subst IsReading (some-injective x m e) p
entry_in (x ∷ l) (each_more p h) (suc n) m e = entry_in l h n m e

readings-in : (rows : List ℤ) (sheet : List ℕ) → sheet_fault rows sheet ≡ none → (p n : ℕ) (m : Message) → get_elem? (get_or (readings rows sheet) p []) n ≡ some m → IsReading m
unfolding SheetForm SheetReads
readings-in rows sheet e p n m i =
    let f = (sheet-form rows sheet).0 e in
    let k = length (channels rows 1) in
    let is = ap (readings rows) f.1 ∙ sheet-reads rows f.0 f.4 in
    entry_in (get_or (readings rows sheet) p []) (each_at {P = Each IsReading} [] each_none (subst (Each (Each IsReading)) (sym is) (columns-in k k f.0 f.4)) p) n m i

-- the run of an accepted table on such a sheet
pub run_short : (rows : List ℤ) → Each In32 rows → check rows ≡ none → (sheet : List ℕ) → sheet_fault rows sheet ≡ none
    → let q = run rows (readings rows sheet) [] max_budget in
    Each (λ n. n < 256) q.state.states → length (printed_result rows (ran q)) ≤ max_printed_text
run_short rows numbers ok sheet e states =
    let q = run rows (readings rows sheet) [] max_budget in
    let o = run-takes-order rows ok (readings rows sheet) [] max_budget in
    let k = numbers-in rows numbers (readings rows sheet) (readings-in rows sheet e) o.0 q.state o.1 in
    printed-text-short rows q (run-held rows ok (readings rows sheet) [] max_budget) o.4 k.cells k.outputs states
