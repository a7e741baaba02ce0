-- A text that is read makes a program: if its declarations are right, the stages 4 and 5 find nothing in its rows.
use mathlib.Core.Path.{◌≡◌, refl, sym, ap, subst, ◌∙◌}
use mathlib.Core.List.{List, map, Memᴰ}
use mathlib.Core.Option.{none, some}
use Prim.Native.Nat.{ℕ, ◌<◌}
use lib.IntN.{ℤ}
use lib.ListN.{length, get_elem?}
use Rattle.meaning.specs.Declarations as table
use Rattle.meaning.specs.Kinds.{processes}
use Rattle.meaning.specs.Faults.{WellFormed}
use Rattle.meaning.specs.Verdict.{form_fault, tree_fault}
use Rattle.base_top_down.specs.Forms.{Form, absent, number, row, rows_from, table_of, top_down}
use Rattle.base_top_down.specs.Good.{Child, Good, FlattenRight}
use Rattle.base_top_down.proofs.Kept.{flatten-right}
use Rattle.grammar.specs.Outline.{Declaration, variable, OutlineLine, declare, Lined, lined, heads}
use Rattle.grammar.specs.OutlineClaims.{Text}
use Rattle.grammar.specs.Names.{Sort, as-variable, Use, name_of, size_of}
use Rattle.grammar.specs.NameClaims.{Declares, a-variable, Serves, variable-serves, DeclaredOn, UsedOn}
use Rattle.grammar.specs.TextRows.{declarations, name_row, trees_form, text_lines, text_rows}
use Rattle.grammar.specs.TextRead.{ReadText}
use Rattle.grammar.specs.RowClaims.{RowsRight}
use Rattle.grammar.proofs.NamesExact.{its-name, name-is}
use Rattle.grammar.proofs.TextPlaces.{by_lines}
use Rattle.grammar.proofs.RowsRead.{there, rows-there, rows-hold, rows-top-down}
use Rattle.grammar.proofs.TextRead.{text-exactly}
use Rattle.grammar.proofs.TokensInRange.{InRangeLine, lines-range}
use Rattle.grammar.proofs.ExpressionsRight.{NamedAs}
use Rattle.grammar.proofs.LinesRight.{LinedRight, lines-right}
use Rattle.grammar.proofs.DeclaredRows.{entry_in, in_entry, listed, on-a-line, place_of, may-be-named}
use Rattle.grammar.proofs.NamesServe.{one-declaration, served}

-- a good form that is a process makes right rows
module _ (rows : List ℤ) (declared : (r : ℕ) → r < table.declarations rows → WellFormed rows r) where
  abbrev RightRows : List ℤ → Type 0
  RightRows made = (form_fault made ≡ none) × (tree_fault made ≡ none)

  process-rows : (f : Form) → Child processes f → Good rows f → RightRows (table_of rows f)
  unfolding FlattenRight
  process-rows absent c g = absurd c
  process-rows (number z) c g = absurd c
  process-rows (row k a b c) p g = flatten-right rows k a b c declared g p

module _ (text : List ℕ) (r : ReadText text) where
  abbrev ls : List Lined
  ls = text_lines text

  abbrev ds : List Declaration
  ds = declarations ls

  abbrev names : List (List ℕ)
  names = map name_of ds

  -- at the place of a declared name stands its declaration
  its-place : (i : ℕ) (n : List ℕ) (d : Declaration) (z : ℤ) → DeclaredOn ls i n d z → get_elem? ds (name_row names n) ≡ some d
  its-place i n d z (l, e, k) =
      let o : name_of d ≡ n = sym (name-is k).0 in
      let (c, q, m) = place_of ds d (listed ls l d (entry_in ls i (lined l (declare d)) e)) in
      let (w, h) = on-a-line ls c (entry_in ds _ c q) in
      let (j, g) = in_entry ls (lined w (declare c)) h in
      let known : Declares c n (size_of c) = subst (λ (x : List ℕ). Declares c x (size_of c)) (m ∙ o) (its-name c) in
      ap (λ (x : List ℕ). get_elem? ds (name_row names x)) (sym o) ∙ q ∙ ap some (one-declaration ls r.names-in-order j i n c d (size_of c) z (w, g, known) (l, e, k))

  named : (i : ℕ) (n : List ℕ) (d : Declaration) (z : ℤ) (s : Sort) → DeclaredOn ls i n d z → Serves d s → NamedAs (text_rows text) names s n
  named i n d z s p v =
      let g = r.of-grammar in
      let e = rows-there text r.trees g ds refl in
      let counted = subst (λ (rows : List ℤ). table.declarations rows ≡ length ds) e (rows-hold text r.trees g).0 in
      subst (λ (rows : List ℤ). NamedAs rows names s n) (sym e) (may-be-named ds (rows_from (length ds) (trees_form names r.trees heads)) counted (name_row names n) d s (its-place i n d z p) v)

  abbrev Stands : ℕ → ℕ → OutlineLine → Type 0
  Stands i l x = get_elem? ls i ≡ some (lined l x)

  uses-named : (i l : ℕ) (x : OutlineLine) → Stands i l x → (u : Use) → UsedOn x u → NamedAs (text_rows text) names u.sort u.named
  uses-named i l x e u p =
      let v = served ls r.names-in-order i u (l, (x, e, p)) in
      named v.line u.named v.declaration v.size u.sort v.declared v.serving

  block-named : (i l : ℕ) (x : OutlineLine) → Stands i l x → (z : ℤ) (n : List ℕ) → x ≡ declare (variable z n) → NamedAs (text_rows text) names as-variable n
  block-named i l x e z n h = named i n (variable z n) z as-variable (l, e ∙ ap (λ (w : OutlineLine). some (lined l w)) h, a-variable) variable-serves

  in-range : (y : Lined) → Memᴰ y ls → InRangeLine y
  in-range = subst (λ (k : List Lined). (y : Lined) → Memᴰ y k → InRangeLine y) (sym (there text r.trees r.of-grammar)) (lines-range ((by_lines text r.trees).0 r.of-grammar).1.1)

  line-right : (y : Lined) → Memᴰ y ls → LinedRight (text_rows text) names y
  line-right (lined l x) m = let (i, e) = in_entry ls (lined l x) m in (in-range (lined l x) m, uses-named i l x e, block-named i l x e)

pub rows_right : RowsRight
unfolding top_down
rows_right text e declared =
    let r = (text-exactly text).0.0 e in
    let g = r.of-grammar in
    let rows = text_rows text in
    let f = trees_form (names text r) r.trees heads in
    let whole : Text (text_lines text) r.trees = subst (λ (k : List Lined). Text k r.trees) (sym (there text r.trees g)) ((by_lines text r.trees).0 g).1.2 in
    let (c, w) = lines-right rows (names text r) whole (line-right text r) in
    let same : table_of rows f ≡ rows = ap (table_of rows) (sym (rows-hold text r.trees g).1) ∙ rows-top-down text r.trees g in
    subst (RightRows rows declared) same (process-rows rows declared f c w)
