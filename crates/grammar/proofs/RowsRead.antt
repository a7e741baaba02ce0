-- The rows of a text of the grammar: its declarations, and then a process, as rows that are made of declarations and a form.
use mathlib.Core.Path.{◌≡◌, refl, sym, ap, subst, ◌∙◌}
use mathlib.Core.Bool.{Bool, true, false, ◌||◌, false≢true}
use mathlib.Core.List.Memᴰ
use mathlib.Core.List.{List, [], ◌∷◌, ◌++◌, map, flatten, Memᴰ}
use mathlib.Core.Option.{some, none-ne-some}
use Prim.Native.Nat.{ℕ, zero, suc, ◌+◌, ◌*◌, ◌<◌}
use native.Mathlib.Omega.{arith}
use lib.IntN.{ℤ, pos}
use lib.ListN.{length, get_or, length-append}
use lib.Dec.{eqb}
use Rattle.meaning.specs.Basics.{if_else}
use Rattle.meaning.specs.Lines.{lines}
use Rattle.meaning.specs.Rows.{natural_of}
use Rattle.meaning.specs.Declarations as table
use Rattle.base_top_down.specs.Forms.{Form, row, Shaped, rows_from, form_of, top_down}
use Rattle.base_top_down.proofs.Made.{made-declarations, made-form, made-top-down}
use Rattle.grammar.specs.Grammar.{literal, bare, at, monadic, dyadic}
use Rattle.grammar.specs.Outline.{Declaration, variable, channel, source, sink, OutlineLine, declare, skip, stop, assign, input, output, seq, par, ifs, alts, while, test, guarded, allowed, Lined, lined, Expect, nothing, heads, process_beneath, is_declaration, expected_beneath, expected_after, may_end, node, Trees, also, Block, end, more, grown}
use Rattle.grammar.specs.Places.{Document}
use Rattle.grammar.specs.TextBytes.{IsTextLine, text_line}
use Rattle.grammar.specs.Names.{name_of}
use Rattle.grammar.specs.TextRows.{declaration_row, declarations, process_form, or_nothing, tree_form, trees_form, lines_rows, text_lines, text_rows}
use Rattle.grammar.specs.TextClaims.{OfGrammar}
use Rattle.grammar.specs.RowClaims.{RowsHold, RowsTopDown}
use Rattle.grammar.proofs.LinesComplete.{lines-complete}
use Rattle.grammar.proofs.TextPlaces.{lines_are, by_lines}
use Rattle.grammar.proofs.FormsShaped.{trees-whole}
use Rattle.grammar.proofs.TokensInRange.{RangedLine, InRangeLine, lines-range}

-- The process -----------------------------------------------------------------------------------------------------------------------

-- a row that is no declaration
abbrev Root : Form → Type 0
Root f = (k : ℕ) × ((a : Form) × ((b : Form) × ((c : Form) × (f ≡ row k a b c) × ((eqb k 1 || eqb k 2) ≡ false))))

module _ (names : List (List ℕ)) where
  process-root : (x : OutlineLine) (b : Form) (e : Expect) → process_beneath x ≡ some e → RangedLine x → Root (process_form names x b)
  process-root (declare d) b e h p = absurd (none-ne-some e h)
  process-root skip b e h p = (_, (_, (_, (_, refl, refl))))
  process-root stop b e h p = (_, (_, (_, (_, refl, refl))))
  process-root (assign (literal z) f) b e h p = absurd p.0.0
  process-root (assign (bare n) f) b e h p = (_, (_, (_, (_, refl, refl))))
  process-root (assign (at n g) f) b e h p = (_, (_, (_, (_, refl, refl))))
  process-root (assign (monadic k g) f) b e h p = absurd p.0.0
  process-root (assign (dyadic k g i) f) b e h p = absurd p.0.0
  process-root (input (literal z) f) b e h p = absurd p.0.0
  process-root (input (bare n) f) b e h p = (_, (_, (_, (_, refl, refl))))
  process-root (input (at n g) f) b e h p = (_, (_, (_, (_, refl, refl))))
  process-root (input (monadic k g) f) b e h p = absurd p.0.0
  process-root (input (dyadic k g i) f) b e h p = absurd p.0.0
  process-root (output (literal z) f) b e h p = absurd p.0.0
  process-root (output (bare n) f) b e h p = (_, (_, (_, (_, refl, refl))))
  process-root (output (at n g) f) b e h p = (_, (_, (_, (_, refl, refl))))
  process-root (output (monadic k g) f) b e h p = absurd p.0.0
  process-root (output (dyadic k g i) f) b e h p = absurd p.0.0
  process-root seq b e h p = (_, (_, (_, (_, refl, refl))))
  process-root par b e h p = (_, (_, (_, (_, refl, refl))))
  process-root ifs b e h p = (_, (_, (_, (_, refl, refl))))
  process-root alts b e h p = (_, (_, (_, (_, refl, refl))))
  process-root (while f) b e h p = (_, (_, (_, (_, refl, refl))))
  process-root (test f) b e h p = absurd (none-ne-some e h)
  process-root (guarded f c a) b e h p = absurd (none-ne-some e h)
  process-root (allowed f) b e h p = absurd (none-ne-some e h)

  -- a declaration before the process, or the process
  head-root : (x : OutlineLine) (ps qs : Trees) (e : Expect) → expected_beneath heads x ≡ some e → RangedLine x → (is_declaration x ≡ true → Root (trees_form names qs heads)) → Root (trees_form names (also (node x ps) qs) heads)
  unfolding tree_form trees_form expected_beneath expected_after
  head-root x ps qs e h p later = go (is_declaration x) refl h
    where
      go : (t : Bool) → is_declaration x ≡ t → if_else t (some nothing) (process_beneath x) ≡ some e
          → Root (if_else t (trees_form names qs (if_else t heads nothing)) (process_form names x (trees_form names ps (or_nothing names (if_else t (some nothing) (process_beneath x))))))
      go true q h = later q
      go false q h = process-root x _ e h p

  text-root : {e : Expect} {l : ℕ} {ls : List Lined} {ps : Trees} → Block e l ls ps → e ≡ heads → ((y : Lined) → Memᴰ y ls → InRangeLine y) → Root (trees_form names ps heads)
  unfolding may_end expected_after
  text-root (end {e} h) q p = absurd (false≢true (sym (ap may_end q) ∙ h))
  text-root (more {e} {b} {l} {x} {ls} {ms} {ps} {qs} g c d) q p =
      head-root x ps qs b (subst (λ (w : Expect). expected_beneath w x ≡ some b) q g) (p (lined l x) (Memᴰ.head refl))
      (λ t. text-root d (ap (λ (w : Expect). expected_after w x) q ∙ ap (λ (s : Bool). if_else s heads nothing) t) (λ y m. p y (Memᴰ.tail (Memᴰ.append_right ls m))))

-- The declarations ------------------------------------------------------------------------------------------------------------------

pub four : (d : Declaration) → length (declaration_row d) ≡ 4
four (variable z n) = refl
four (channel z n) = refl
four (source n) = refl
four (sink z n) = refl

pub rows-sized : (ds : List Declaration) → length (flatten (map declaration_row ds)) ≡ 4 * length ds
unfolding flatten
rows-sized [] = refl
rows-sized (d ∷ ds) = let e = length-append (declaration_row d) (flatten (map declaration_row ds)) in let f = four d in let g = rows-sized ds in omega arith

-- what stands after the row of a declaration
pub past : (d : Declaration) (rest : List ℤ) (m : ℕ) → get_or (declaration_row d ++ rest) (suc (suc (suc (suc m)))) (pos 0) ≡ get_or rest m (pos 0)
past (variable z n) rest m = refl
past (channel z n) rest m = refl
past (source n) rest m = refl
past (sink z n) rest m = refl

first-declares : (d : Declaration) (rest : List ℤ) → table.declares (declaration_row d ++ rest) 0 ≡ true
first-declares (variable z n) rest = refl
first-declares (channel z n) rest = refl
first-declares (source n) rest = refl
first-declares (sink z n) rest = refl

rows-declare : (ds : List Declaration) (q : ℕ) → q < length ds → table.declares (flatten (map declaration_row ds)) q ≡ true
unfolding flatten
rows-declare [] q h = absurd (omega arith)
rows-declare (d ∷ ds) zero h = first-declares d (flatten (map declaration_row ds))
rows-declare (d ∷ ds) (suc q) h =
    let rest = flatten (map declaration_row ds) in
    let e : 4 * suc q + 0 ≡ suc (suc (suc (suc (4 * q + 0)))) = omega arith in
    ap (λ (z : ℤ). eqb (natural_of z) 1 || eqb (natural_of z) 2) (ap (λ (i : ℕ). get_or (declaration_row d ++ rest) i (pos 0)) e ∙ past d rest (4 * q + 0)) ∙ rows-declare ds q (omega arith)

-- The text --------------------------------------------------------------------------------------------------------------------------

module _ (text : List ℕ) (ps : Trees) (g : OfGrammar text ps) where
  abbrev cut : Document IsTextLine text_line (lines text) ps
  cut = ((by_lines text ps).0 g).1

  abbrev found : List Lined
  found = cut.0

  pub there : text_lines text ≡ found
  unfolding text_lines
  there = rw (lines_are cut.1)

  grown-there : grown found 0 ≡ ps
  grown-there = sym (lines-complete found ps cut.2).1

  -- a text's rows are its declarations' and those of its process
  pub rows-there : (ds : List Declaration) → ds ≡ declarations (text_lines text) → text_rows text ≡ flatten (map declaration_row ds) ++ rows_from (length ds) (trees_form (map name_of ds) ps heads)
  unfolding text_rows lines_rows
  rows-there ds e = rw (e, there, grown-there)

  abbrev Read : List Declaration → Form → List ℤ → Type 0
  Read ds f rows = (table.declarations rows ≡ length ds) × (form_of rows ≡ f) × (top_down rows ≡ rows)

  read : (ds : List Declaration) → Read ds (trees_form (map name_of ds) ps heads) (flatten (map declaration_row ds) ++ rows_from (length ds) (trees_form (map name_of ds) ps heads))
  read ds =
      let (k, (a, (b, (c, e, u)))) = text-root (map name_of ds) cut.2 refl (lines-range cut.1) in
      let s : Shaped (row k a b c) = subst Shaped e (trees-whole (map name_of ds) ps heads).1 in
      let D = flatten (map declaration_row ds) in
      subst (λ (f : Form). Read ds f (D ++ rows_from (length ds) f)) (sym e) (
        made-declarations D (length ds) k a b c (rows-sized ds) (rows-declare ds) u s,
        made-form D (length ds) k a b c (rows-sized ds) (rows-declare ds) u s,
        made-top-down D (length ds) k a b c (rows-sized ds) (rows-declare ds) u s,
      )

  all_read : let ds = declarations (text_lines text) in Read ds (trees_form (map name_of ds) ps heads) (text_rows text)
  all_read =
      let ds = declarations (text_lines text) in
      subst (Read ds (trees_form (map name_of ds) ps heads)) (sym (rows-there ds refl)) (read ds)

pub rows-hold : RowsHold
rows-hold text ps g = let (d, f, _) = all_read text ps g in (d, f)

pub rows-top-down : RowsTopDown
rows-top-down text ps g = (all_read text ps g).2
