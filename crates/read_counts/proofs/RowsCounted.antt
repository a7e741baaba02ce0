-- A text makes the rows of its lines: of its process by induction on the derivation of its lines, and one for each declaration.
use mathlib.Core.Path.{◌≡◌, refl, sym, ap, subst, ◌∙◌}
use mathlib.Core.Bool.{Bool, true, false, false≢true}
use mathlib.Core.Logic.{⊎_elim}
use mathlib.Core.List.Memᴰ
use mathlib.Core.List.{List, [], ◌∷◌, ◌++◌, map, flatten, append_assoc, append-nil}
use mathlib.Core.Option.{Option, none, some, none-ne-some}
use Prim.Native.Nat.{ℕ, zero, suc, ◌+◌}
use native.Mathlib.Omega.{arith}
use borrow.Author.Tests.{eq-eqb, ne_eqb}
use lib.ListN.{length, length-append}
use lib.Dec.{eqb}
use Rattle.meaning.specs.Basics.{if_else}
use Rattle.meaning.specs.Rows.{row_count}
use Rattle.base_top_down.specs.Forms.{Form, absent, number, row, form_size, rows_from, is_row}
use Rattle.base_top_down.specs.Laid.{FlattenLength}
use Rattle.base_top_down.proofs.Flat.{flatten-length}
use Rattle.grammar.specs.Outline.{Declaration, OutlineLine, declare, skip, stop, assign, input, output, seq, par, ifs, alts, while, test, guarded, allowed, Lined, lined, Expect, members, choices, options, nothing, one-process, one-member, heads, is_declaration, starts_block, expected_beneath, expected_after, may_end, node, Trees, empty, also, Block, end, more, Levels, place, accept, accept_line, outset, grown}
use Rattle.grammar.specs.OutlineClaims.{Text}
use Rattle.grammar.specs.Places.{Spelt, done, next}
use Rattle.grammar.specs.LineBytes.{IsLine, is-line}
use Rattle.grammar.specs.TextBytes.{IsTextLine, text_line, grammar_fault}
use Rattle.grammar.specs.Names.{name_of, declaration_in}
use Rattle.grammar.specs.TextRows.{unused, declaration_row, if_declared, first, of_block, declarations, process_form, line_form, in_first, or_nothing, tree_form, trees_form, lines_rows, text_lines, text_rows}
use Rattle.grammar.proofs.LinesComplete.{Above, lines-complete, above-next}
use Rattle.grammar.proofs.TextPlaces.{text-lines}
use Rattle.grammar.proofs.RowsRead.{rows-sized}
use Rattle.read_levels.specs.Kinds.{expect_at, expectations}
use Rattle.read_counts.specs.OwnRows.{own_rows, line_rows, sum_rows, Fits, TreesFit, SpeltLine, AllSpelt, BlockSize, TreesSize, RowsCounted}
use Rattle.read_counts.proofs.OwnSizes.{line-size}

-- Forms that may stand for what is expected -----------------------------------------------------------------------------------------

-- nothing may stand where nothing need come
none-fits : (e : Expect) → may_end e ≡ true → (names : List (List ℕ)) → Fits e (trees_form names empty e)
unfolding may_end trees_form form_size
none-fits members h names = tt
none-fits choices h names = tt
none-fits options h names = tt
none-fits nothing h names = refl
none-fits one-process h names = tt
none-fits one-member h names = absurd (false≢true h)
none-fits heads h names = tt

module _ (names : List (List ℕ)) where
  -- a block round a member is one
  first-row : (o : Option Declaration) (f : Form) → is_row f ≡ true → is_row (in_first names o f) ≡ true
  first-row o absent h = h
  first-row o (number z) h = absurd (false≢true h)
  first-row o (row k p later c) h = refl

  line-fits : (e b : Expect) (x : OutlineLine) (below later : Form) → expected_beneath e x ≡ some b → Fits (expected_after e x) later → Fits e (line_form names e x below later)
  unfolding expected_beneath expected_after
  line-fits members b x below later h q = tt
  line-fits choices b x below later h q = tt
  line-fits options b x below later h q = tt
  line-fits nothing b x below later h q = absurd (none-ne-some b h)
  line-fits one-process b x below later h q = tt
  line-fits one-member b x below later h q = go (starts_block x) q
    where
      go : (t : Bool) → Fits (if_else t one-member members) later → is_row (if_else t (in_first names (declaration_in x) later) (row 40 (process_form names x below) later unused)) ≡ true
      go true q = first-row (declaration_in x) later q
      go false q = refl
  line-fits heads b x below later h q = tt

pub trees-fit : TreesFit
unfolding trees_form tree_form
trees-fit names e l ls ps (end h) = none-fits e h names
trees-fit names e l ls ps (more {b = b} {x = x} {ms = ms} {ps = qs} {qs = rs} h p q) =
    line-fits names e b x (trees_form names qs (or_nothing names (expected_beneath e x))) (trees_form names rs (expected_after e x)) h (trees-fit names (expected_after e x) l ms rs q)

-- What is expected ------------------------------------------------------------------------------------------------------------------

-- a level that may end is left at the next line above it
leaves : (e : Expect) (k : Levels) (rest : List Lined) → may_end e ≡ true → Above (length k) rest → expectations (some (e ∷ k)) rest ≡ expectations (some k) rest
unfolding expectations accept_line accept expect_at
leaves e k [] h a = refl
leaves e k (lined i x ∷ rest) h a =
    let n : eqb (length k) i ≡ false = ne_eqb (length k) i (omega arith) in
    rw (n, h) refl

-- a line at the deepest level
enters : (e b : Expect) (l : ℕ) (x : OutlineLine) (k : Levels) (rest : List Lined) → expected_beneath e x ≡ some b → length k ≡ l
    → expectations (some (e ∷ k)) (lined l x ∷ rest) ≡ e ∷ expectations (some (b ∷ expected_after e x ∷ k)) rest
unfolding expectations accept_line accept place expect_at
enters e b l x k rest h n = rw (eq-eqb (length k) l n, h) refl

pub block_size : BlockSize
unfolding trees_form tree_form sum_rows form_size
block_size names e l ls ps (end h) s k n rest a = let i = ap (λ (es : List Expect). sum_rows own_rows es rest) (leaves e k rest h (rw n a)) in omega arith
block_size names e l ls ps (more {b = b} {x = x} {ls = bs} {ms = ms} {ps = qs} {qs = rs} h p q) s k n rest a =
    let later = expected_after e x in
    let i = block_size names b (suc l) bs qs p (λ y m. s y (Memᴰ.tail (Memᴰ.append_left ms m))) (later ∷ k) (ap suc n) (ms ++ rest) (above-next q rest a) in
    let j = block_size names later l ms rs q (λ y m. s y (Memᴰ.tail (Memᴰ.append_right bs m))) k n rest a in
    let (ts, t) = s (lined l x) (Memᴰ.head refl) in
    let u = line-size names e b ts x (trees_form names qs b) (trees_form names rs later) t h (trees-fit names b (suc l) bs qs p) (trees-fit names later l ms rs q) in
    let v : form_size (trees_form names (also (node x qs) rs) e) ≡ form_size (line_form names e x (trees_form names qs b) (trees_form names rs later)) = rw h refl in
    let w : sum_rows own_rows (expectations (some (e ∷ k)) (lined l x ∷ ((bs ++ ms) ++ rest))) (lined l x ∷ ((bs ++ ms) ++ rest))
    ≡ own_rows e x + sum_rows own_rows (expectations (some (b ∷ later ∷ k)) (bs ++ (ms ++ rest))) (bs ++ (ms ++ rest)) =
    ap (λ (es : List Expect). sum_rows own_rows es (lined l x ∷ ((bs ++ ms) ++ rest))) (enters e b l x k ((bs ++ ms) ++ rest) h n)
    ∙ ap (λ (ys : List Lined). own_rows e x + sum_rows own_rows (expectations (some (b ∷ later ∷ k)) ys) ys) (append_assoc bs ms rest) in
    omega (arith, i, j, u, v, w)

pub trees-size : TreesSize
unfolding sum_rows expectations
trees-size names ls ps t s =
    let h = block_size names heads 0 ls ps t s [] refl [] tt in
    let i = rw append-nil at h in
    omega (arith, i)

-- Each line is expected -------------------------------------------------------------------------------------------------------------

-- by induction on the derivation
block-expected : {e : Expect} {l : ℕ} {ls : List Lined} {ps : Trees} → Block e l ls ps → (k : Levels) → length k ≡ l → (rest : List Lined) → Above l rest
    → length (expectations (some (e ∷ k)) (ls ++ rest)) ≡ length ls + length (expectations (some k) rest)
block-expected (end {e} h) k n rest a = let i = ap length (leaves e k rest h (rw n a)) in omega (arith, i)
block-expected (more {e} {b} {l} {x} {ls} {ms} h p q) k n rest a =
    let later = expected_after e x in
    let i = block-expected p (later ∷ k) (ap suc n) (ms ++ rest) (above-next q rest a) in
    let j = block-expected q k n rest a in
    let u = length-append ls ms in
    let w : length (expectations (some (e ∷ k)) (lined l x ∷ ((ls ++ ms) ++ rest))) ≡ suc (length (expectations (some (b ∷ later ∷ k)) (ls ++ (ms ++ rest)))) =
    ap length (enters e b l x k ((ls ++ ms) ++ rest) h n) ∙ ap (λ (ys : List Lined). suc (length (expectations (some (b ∷ later ∷ k)) ys))) (append_assoc ls ms rest) in
    omega (arith, i, j, u, w)

-- of a text
text-expected : {ls : List Lined} {ps : Trees} → Text ls ps → length (expectations outset ls) ≡ length ls
unfolding expectations
text-expected t = let i = rw append-nil at (block-expected t [] refl [] tt) in omega (arith, i)

-- Declarations ----------------------------------------------------------------------------------------------------------------------

-- a line that is a declaration has one
one-declared : (x : OutlineLine) → length (if_declared (declaration_in x)) ≡ if_else (is_declaration x) 1 0
one-declared (declare d) = refl
one-declared skip = refl
one-declared stop = refl
one-declared (assign a e) = refl
one-declared (input c a) = refl
one-declared (output c e) = refl
one-declared seq = refl
one-declared par = refl
one-declared ifs = refl
one-declared alts = refl
one-declared (while e) = refl
one-declared (test e) = refl
one-declared (guarded e c a) = refl
one-declared (allowed e) = refl

-- a line more, and its declaration
line-declared : (l : ℕ) (x : OutlineLine) (ls : List Lined) → length (declarations (lined l x ∷ ls)) ≡ if_else (is_declaration x) 1 0 + length (declarations ls)
unfolding flatten
line-declared zero x ls =
    let i = one-declared x in
    let a = length-append (if_declared (declaration_in x)) (flatten (map first ls)) in
    let b = length-append (if_declared (declaration_in x) ++ flatten (map first ls)) (flatten (map of_block ls)) in
    let c = length-append (flatten (map first ls)) (flatten (map of_block ls)) in
    omega (arith, i, a, b, c)
line-declared (suc l) x ls =
    let i = one-declared x in
    let a = length-append (if_declared (declaration_in x)) (flatten (map of_block ls)) in
    let b = length-append (flatten (map first ls)) (if_declared (declaration_in x) ++ flatten (map of_block ls)) in
    let c = length-append (flatten (map first ls)) (flatten (map of_block ls)) in
    omega (arith, i, a, b, c)

-- the rows of lines are their own and one for each declaration
rows-parted : (es : List Expect) (ls : List Lined) → length es ≡ length ls → sum_rows line_rows es ls ≡ length (declarations ls) + sum_rows own_rows es ls
unfolding sum_rows flatten
rows-parted [] [] h = refl
rows-parted [] (y ∷ ls) h = absurd (omega arith)
rows-parted (e ∷ es) [] h = absurd (omega arith)
rows-parted (e ∷ es) (lined l x ∷ ls) h = let i = rows-parted es ls (omega arith) in let j = line-declared l x ls in omega (arith, i, j)

-- The text --------------------------------------------------------------------------------------------------------------------------

line-spelt : {t : List ℕ} {y : Lined} → IsLine t y → SpeltLine y
line-spelt (is-line {ts = ts} p s) = (ts, s)

pub all-spelt : {bs : List (List ℕ)} {ls : List Lined} → Spelt IsTextLine text_line bs ls → AllSpelt ls
all-spelt done y m = absurd (Memᴰ.not-nil m)
all-spelt (next {y = z} p s) y m = ⊎_elim (λ e. subst SpeltLine (sym e) (line-spelt p.3)) (λ r. all-spelt s y r) (Memᴰ.cases_cons m)

-- of the lines of a text
lines-counted : (ls : List Lined) (ps : Trees) → Text ls ps → AllSpelt ls → row_count (lines_rows ls) ≡ sum_rows line_rows (expectations outset ls) ls
unfolding lines_rows FlattenLength
lines-counted ls ps t s =
    let ds = declarations ls in
    let names = map name_of ds in
    let f = trees_form names (grown ls 0) heads in
    let a = rows-sized ds in
    let b = flatten-length (length ds) f in
    let c = length-append (flatten (map declaration_row ds)) (rows_from (length ds) f) in
    let d : form_size f ≡ sum_rows own_rows (expectations outset ls) ls = ap (λ (qs : Trees). form_size (trees_form names qs heads)) (sym (lines-complete ls ps t).1) ∙ trees-size names ls ps t s in
    let i = rows-parted (expectations outset ls) ls (text-expected t) in
    omega (arith, a, b, c, d, i)

pub rows-counted : RowsCounted
unfolding text_rows
rows-counted text h = let (_, s, (ps, t)) = text-lines text h in lines-counted (text_lines text) ps t (all-spelt s)

-- each line of a text of the grammar is expected
pub all-expected : (text : List ℕ) → grammar_fault text ≡ none → length (expectations outset (text_lines text)) ≡ length (text_lines text)
all-expected text h = let (_, s, (ps, t)) = text-lines text h in text-expected t
