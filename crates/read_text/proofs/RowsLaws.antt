-- Lent rows that are cleared up to the limit, and then hold the declarations and the process of a text.
use mathlib.Core.Path.{◌≡◌, refl, sym, ap, ◌∙◌}
use mathlib.Core.List.{List, [], ◌++◌, map, flatten, append_assoc}
use Prim.Native.Nat.{ℕ, ◌+◌, ◌-◌, ◌*◌, ◌≤◌}
use native.Mathlib.Nat.{zero-add}
use native.Mathlib.Omega.{arith}
use lib.IntN.{ℤ, pos}
use lib.ListN.{length, take, drop, replicate, length-take, length-append, length-replicate, replicate-append-replicate}
use lib.Seq.{drop-append-le, drop-append_seam}
use Rattle.meaning.specs.Rows.{row_count}
use Rattle.meaning.specs.Buffers.{lent}
use Rattle.meaning.proofs.LentLaws.{sized-is, lent_length}
use Rattle.base_top_down.specs.Forms.{form_size}
use Rattle.base_top_down.proofs.Flat.{flat-length}
use Rattle.grammar.specs.Outline.{Declaration, grown, heads}
use Rattle.grammar.specs.Names.{name_of}
use Rattle.grammar.specs.TextRows.{declaration_row, declarations, trees_form, lines_rows, text_lines, text_rows}
use Rattle.grammar.proofs.RowsRead.{rows-sized}
use Rattle.read_expressions.specs.Overlay.{overlay}
use Rattle.read_expressions.proofs.OverlayLaws.{overlay-after}
use Rattle.read_table.specs.TableRead.{past}
use Rattle.read_processes.specs.Written.{process_rows}
use Rattle.read_text.specs.Reading.{max_numbers, rows_in, cleared}

-- rows in lent ones, up to the limit
lent_is : (rows old : List ℤ) → length rows ≤ max_numbers → rows_in rows old ≡ (rows ++ replicate (max_numbers - length rows) (pos 0)) ++ drop max_numbers old
unfolding lent
lent_is rows old h = ap (λ (l : List ℤ). l ++ drop max_numbers old) (sized-is (pos 0) max_numbers rows h)

pub cleared-is : (old : List ℤ) → replicate 4096 (pos 0) ++ drop 4096 old ≡ cleared old
unfolding cleared
cleared-is old = sym (lent_is [] old (omega arith))

drop-zeros : (n k : ℕ) → drop k (replicate {A = ℤ} (k + n) (pos 0)) ≡ replicate n (pos 0)
drop-zeros n k =
    ap (drop k) (sym (replicate-append-replicate k n (pos 0)))
    ∙ ap (λ (j : ℕ). drop j (replicate k (pos 0) ++ replicate n (pos 0))) (sym (length-replicate k (pos 0)))
    ∙ drop-append_seam (replicate k (pos 0)) (replicate n (pos 0))

cleared-length : (old : List ℤ) → max_numbers ≤ length old → length (cleared old) ≡ length old
unfolding cleared
cleared-length old h = lent_length (pos 0) max_numbers [] old h

-- rows over cleared ones
over-cleared : (rows old : List ℤ) → length rows ≤ max_numbers → overlay (cleared old) 0 rows ≡ rows_in rows old
unfolding overlay
over-cleared rows old h =
    let n = length rows in
    let R = drop max_numbers old in
    let all : drop n (replicate max_numbers (pos 0)) ≡ replicate (max_numbers - n) (pos 0) =
    ap (λ (k : ℕ). drop n (replicate k (pos 0))) (let e : max_numbers ≡ n + (max_numbers - n) = omega arith in e) ∙ drop-zeros (max_numbers - n) n in
    ap (λ (k : ℕ). rows ++ drop k (cleared old)) (zero-add n)
    ∙ ap (λ (l : List ℤ). rows ++ drop n l) (sym (cleared-is old))
    ∙ ap (λ (l : List ℤ). rows ++ l) (drop-append-le n (replicate max_numbers (pos 0)) R (omega (arith, length-replicate {A = ℤ} 4096 (pos 0))))
    ∙ ap (λ (l : List ℤ). rows ++ (l ++ R)) all
    ∙ sym (append_assoc rows (replicate (max_numbers - n) (pos 0)) R)
    ∙ sym (lent_is rows old h)

-- the rows of a text: its declarations', and its process's
parted : (text : List ℕ) → text_rows text ≡ flatten (map declaration_row (declarations (text_lines text))) ++ process_rows text
unfolding text_rows lines_rows
parted text = refl

-- four numbers to each row
process-whole : (text : List ℕ) → (k : ℕ) × (length (process_rows text) ≡ 4 * k)
process-whole text =
    let ds = declarations (text_lines text) in
    let f = trees_form (map name_of ds) (grown (text_lines text) 0) heads in
    (form_size f, flat-length (length ds) f)

pub all-written : (text : List ℕ) (old : List ℤ) (d : ℕ) → d ≡ length (declarations (text_lines text)) → row_count (text_rows text) ≤ 1024 → max_numbers ≤ length old
    → overlay (past (flatten (map declaration_row (declarations (text_lines text)))) (cleared old)) (4 * d) (process_rows text) ≡ rows_in (text_rows text) old
unfolding overlay
all-written text old d e few long =
    let ds = declarations (text_lines text) in
    let D = flatten (map declaration_row ds) in
    let P = process_rows text in
    let a : 4 * d ≡ length D = ap (λ (k : ℕ). 4 * k) e ∙ sym (rows-sized ds) in
    let (k, b) = process-whole text in
    let c = ap (λ (l : List ℤ). length l) (parted text) ∙ length-append D P in
    let fits : length (text_rows text) ≤ max_numbers = omega (arith, a, b, c, few) in
    let room : 0 + length D + length P ≤ length (cleared old) = omega (arith, c, fits, long, cleared-length old long) in
    let from : 4 * d ≡ 0 + length D = a ∙ sym (zero-add (length D)) in
    ap (λ (j : ℕ). overlay (past D (cleared old)) j P) from
    ∙ ap (λ (j : ℕ). overlay (D ++ drop j (cleared old)) (0 + length D) P) (sym (zero-add (length D)))
    ∙ overlay-after (cleared old) 0 D P room
    ∙ ap (overlay (cleared old) 0) (sym (parted text))
    ∙ over-cleared (text_rows text) old fits

-- the declarations of a text that makes few rows are few
pub declared-few : (text : List ℕ) → row_count (text_rows text) ≤ 1024 → 4 * length (declarations (text_lines text)) ≤ 4096
declared-few text few =
    let ds = declarations (text_lines text) in
    let (k, b) = process-whole text in
    omega (arith, rows-sized ds, b, ap (λ (l : List ℤ). length l) (parted text) ∙ length-append (flatten (map declaration_row ds)) (process_rows text), few)

-- the lent rows while they are written: cleared, with the declarations, with the process
module _ (text : List ℕ) (old : List ℤ) (few : row_count (text_rows text) ≤ 1024) (long : 4096 ≤ length old) (none-held : List ℤ) (is-cleared : none-held ≡ cleared old) where
  abbrev ds : List Declaration
  ds = declarations (text_lines text)

  cleared-room : 4096 ≤ length none-held
  cleared-room = omega (arith, ap (λ (l : List ℤ). length l) is-cleared, cleared-length old long, long)

  pub may-put : 4 * length ds ≤ length none-held
  may-put = omega (arith, declared-few text few, cleared-room)

  module _ (put : List ℤ) (is-put : put ≡ past (flatten (map declaration_row ds)) none-held) where
    pub rows_written : (d : ℕ) → d ≡ length ds → (wrote : List ℤ) → wrote ≡ overlay put (4 * d) (process_rows text) → wrote ≡ rows_in (text_rows text) old
    rows_written d e wrote w =
        w
        ∙ ap (λ (l : List ℤ). overlay l (4 * d) (process_rows text)) (is-put ∙ ap (past (flatten (map declaration_row ds))) is-cleared)
        ∙ all-written text old d e few long

-- the first r of a list are r
pub all-taken : (r : ℕ) (l : List ℕ) → r ≤ length l → r ≡ length (take r l)
all-taken r l h = omega (arith, length-take r l, h)
