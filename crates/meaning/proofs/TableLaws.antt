-- The bytes that 2 and 3 do not refuse are the tables of at most 1,024 rows and 32,768 bytes, and each is read as its rows.
use mathlib.Core.Path.{◌≡◌, refl, sym, ap, ap₂, ◌∙◌}
use mathlib.Core.Bool.{Bool, true, false, not, ◌&&◌, ◌||◌, false≢true}
use mathlib.Core.List.{List, [], ◌∷◌, ◌++◌, map, tail, flatten}
use mathlib.Core.Option
use mathlib.Core.Option.{Option, none, some}
use Prim.Native.Nat.{ℕ, zero, suc, ◌+◌, ◌≤◌, ◌<◌}
use native.Mathlib.Decide.{dec_lt}
use native.Mathlib.Omega.{arith}
use lib.IntN.{ℤ}
use lib.ListN.{length, get_or}
use lib.Dec.{eqb, leb}
use borrow.Author.Tests.{le-ltb, ltb-false, le-leb, lt-leb, not-false}
use Rattle.meaning.specs.Limits.{max_rows, max_table}
use Rattle.meaning.specs.Basics.{is_some, lowest}
use Rattle.meaning.specs.Lines.{lines, text, same}
use Rattle.meaning.specs.TableBytes.{header, read_row, overlong, malformed, one_too_many, refusal_at, bytes_fault, rows_of}
use Rattle.meaning.specs.Numerals.{printed}
use Rattle.meaning.specs.PrintedForms.{Each, each_none, each_more, IsRow, table_bytes, flat}
use Rattle.meaning.specs.PrintedClaims.{TableForm, TableReads}
use Rattle.meaning.proofs.LineLaws.{whole-line, concat-lines, commas}
use Rattle.meaning.proofs.NoFault.{none-lowest, lowest-none, none-mapped, or-false, and_none, or-none, same_refl, same-is}
use Rattle.meaning.proofs.RowLaws.{row_line, row-text, row_reads, row-form}

-- Printed tables ----------------------------------------------------------------------------------------------------------------

row-lines : (rows : List (List ℤ)) → lines (flatten (map row_line rows)) ≡ map row_line rows
unfolding flatten lines
row-lines [] = refl
row-lines (row ∷ rows) =
    (whole-line (row_line row) (commas (map printed row)) (row-text row)).1 (flatten (map row_line rows))
    ∙ ap {B = List (List ℕ)} (λ ls. row_line row ∷ ls) (row-lines rows)

table-lines : (rows : List (List ℤ)) → lines (table_bytes rows) ≡ header ∷ map row_line rows
unfolding table_bytes text
table-lines rows = (whole-line header _ refl).1 (flatten (map row_line rows)) ∙ ap {B = List (List ℕ)} (λ ls. header ∷ ls) (row-lines rows)

read-rows : (rows : List (List ℤ)) → Each IsRow rows → flatten (map (λ l. Option.get_or (read_row l) []) (map row_line rows)) ≡ flat rows
unfolding flatten
read-rows [] h = refl
read-rows (row ∷ rows) (each_more p h) = ap₂ (λ (o : Option (List ℤ)) (zs : List ℤ). Option.get_or o [] ++ zs) (row_reads row p) (read-rows rows h)

pub table-reads : TableReads
unfolding TableReads rows_of
table-reads rows h =
    ap (λ (ls : List (List ℕ)). flatten (map (λ l. Option.get_or (read_row l) []) (tail ls))) (table-lines rows) ∙ read-rows rows h

-- The form ----------------------------------------------------------------------------------------------------------------------

-- line i of a printed table's rows is read
nth-reads : (rows : List (List ℤ)) → Each IsRow rows → (i : ℕ) → i < length rows → is_some (read_row (get_or (map row_line rows) i [])) ≡ true
nth-reads [] each_none i l = absurd (omega arith)
nth-reads (row ∷ rows) (each_more p h) zero l = ap is_some (row_reads row p)
nth-reads (row ∷ rows) (each_more p h) (suc i) l = nth-reads rows h i (omega arith)

length-lines : (rows : List (List ℤ)) → length (map row_line rows) ≡ length rows
length-lines [] = refl
length-lines (row ∷ rows) = ap suc (length-lines rows)

-- lines that are read are printed rows
rows-of : (ls : List (List ℕ)) → ((i : ℕ) → i < length ls → is_some (read_row (get_or ls i [])) ≡ true) → (rows : List (List ℤ)) × (ls ≡ map row_line rows) × Each IsRow rows
rows-of [] f = ([], refl, each_none)
rows-of (l ∷ ls) f = go (read_row l) refl (f 0 (omega arith)) (rows-of ls (λ i h. f (suc i) (omega arith)))
  where
    go : (o : Option (List ℤ)) → read_row l ≡ o → is_some (read_row l) ≡ true → ((rows : List (List ℤ)) × (ls ≡ map row_line rows) × Each IsRow rows) → (rows : List (List ℤ)) × (l ∷ ls ≡ map row_line rows) × Each IsRow rows
    go none i h k = absurd (false≢true (sym (ap is_some i) ∙ h))
    go (some row) i h k =
        let w = row-form l row i in
        (row ∷ k.0, ap₂ (λ (x : List ℕ) (xs : List (List ℕ)). x ∷ xs) w.0 k.1, each_more w.1 k.2)

-- whether a line is at fault
abbrev Fault : Bool → List (List ℕ) → ℕ → Bool
Fault long ls L = malformed long ls L || one_too_many ls L

-- a printed table has none
good : (rows : List (List ℤ)) → Each IsRow rows → length rows ≤ max_rows → (L : ℕ) → Fault false (header ∷ map row_line rows) L ≡ false
good rows h l zero = refl
good rows h l (suc zero) = ap (λ (t : Bool). not t || false) (same_refl header)
good rows h l (suc (suc i)) =
    or-none
    (leb (suc (suc i)) (suc (length (map row_line rows))) && not (is_some (read_row (get_or (map row_line rows) i []))))
    (eqb (suc (suc i)) (max_rows + 2) && leb (max_rows + 2) (suc (length (map row_line rows))))
    (read (dec_lt i (length rows)))
    (and_none (eqb (suc (suc i)) (max_rows + 2)) (leb (max_rows + 2) (suc (length (map row_line rows)))) (let n = length-lines rows in lt-leb (max_rows + 2) (suc (length (map row_line rows))) (omega arith)))
  where
    read : Dec (i < length rows) → (leb (suc (suc i)) (suc (length (map row_line rows))) && not (is_some (read_row (get_or (map row_line rows) i [])))) ≡ false
    read (yes j) = and_none (leb (suc (suc i)) (suc (length (map row_line rows)))) (not (is_some (read_row (get_or (map row_line rows) i [])))) (ap not (nth-reads rows h i j))
    read (no j) =
        ap (λ (t : Bool). t && not (is_some (read_row (get_or (map row_line rows) i []))))
        (let n = length-lines rows in lt-leb (suc (suc i)) (suc (length (map row_line rows))) (omega arith))

-- lines without fault are the header and rows
sound : (ls : List (List ℕ)) (long : Bool) → ((L : ℕ) → L < 2 + length ls → Fault long ls L ≡ false) → (rows : List (List ℤ)) × (ls ≡ header ∷ map row_line rows) × (length rows ≤ max_rows) × Each IsRow rows
sound [] long f = absurd (let z : ◌≡◌ {A = ℕ} 0 11 = ap length (same-is [] header (not-false (same [] header) (or-false (not (same [] header)) false (f 1 (omega arith))).0)) in omega arith)
sound (l ∷ ls) long f = (k.0, ap₂ (λ (x : List ℕ) (xs : List (List ℕ)). x ∷ xs) first k.1, few, k.2)
  where
    first : l ≡ header
    first = same-is l header (not-false (same l header) (or-false (not (same l header)) false (f 1 (omega arith))).0)

    read : (i : ℕ) → i < length ls → is_some (read_row (get_or ls i [])) ≡ true
    read i h =
        let e = (or-false (leb (suc (suc i)) (suc (length ls)) && not (is_some (read_row (get_or ls i [])))) (eqb (suc (suc i)) (max_rows + 2) && leb (max_rows + 2) (suc (length ls))) (f (suc (suc i)) (omega arith))).0 in
        not-false (is_some (read_row (get_or ls i []))) (sym (ap (λ (t : Bool). t && not (is_some (read_row (get_or ls i [])))) (le-leb (suc (suc i)) (suc (length ls)) (omega arith))) ∙ e)

    k : (rows : List (List ℤ)) × (ls ≡ map row_line rows) × Each IsRow rows
    k = rows-of ls read

    fit : Dec (max_rows < length ls) → length ls ≤ max_rows
    fit (yes h) =
        absurd (false≢true (sym (or-false (malformed long (l ∷ ls) 1026) (leb 1026 (suc (length ls))) (f 1026 (omega arith))).1 ∙ le-leb 1026 (suc (length ls)) (omega arith)))
    fit (no h) = omega arith

    few : length k.0 ≤ max_rows
    few = let n = length-lines k.0 in let m = ap length k.1 in let q = fit (dec_lt max_rows (length ls)) in omega arith

pub table-form : TableForm
unfolding TableForm bytes_fault table_bytes flatten
table-form table = (to, from)
  where
    to : bytes_fault table ≡ none → (rows : List (List ℤ)) × (table ≡ table_bytes rows) × (length table ≤ max_table) × (length rows ≤ max_rows) × Each IsRow rows
    to e = (k.0, sym (concat-lines table) ∙ ap flatten k.1, ltb-false max_table (length table) (or-false (overlong table) false (f 0 (omega arith))).0, k.2, k.3)
      where
        f : (L : ℕ) → L < 2 + length (lines table) → Fault (overlong table) (lines table) L ≡ false
        f = lowest-none (Fault (overlong table) (lines table)) (2 + length (lines table)) (none-mapped (refusal_at (overlong table) (lines table)) (lowest (Fault (overlong table) (lines table)) (2 + length (lines table))) e)

        k : (rows : List (List ℤ)) × (lines table ≡ header ∷ map row_line rows) × (length rows ≤ max_rows) × Each IsRow rows
        k = sound (lines table) (overlong table) f

    from : ((rows : List (List ℤ)) × (table ≡ table_bytes rows) × (length table ≤ max_table) × (length rows ≤ max_rows) × Each IsRow rows) → bytes_fault table ≡ none
    from h =
        ap (Option.map (refusal_at (overlong table) (lines table)))
        (none-lowest (Fault (overlong table) (lines table)) (2 + length (lines table))
        (λ L l. ap₂ (λ (b : Bool) (ls : List (List ℕ)). Fault b ls L) (le-ltb max_table (length table) h.2) (ap lines h.1 ∙ table-lines h.0) ∙ good h.0 h.4 h.3 L))
