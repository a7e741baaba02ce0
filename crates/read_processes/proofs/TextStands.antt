-- The lines of a text where they stand, one by one; and where its process goes.
use mathlib.Core.Path.{◌≡◌, refl, sym, ap, ap₂, subst, ◌∙◌}
use mathlib.Core.List.{List, [], ◌∷◌, map, flatten, Memᴰ}
use mathlib.Core.Option.{none}
use Prim.Native.Nat.{ℕ, zero, suc, ◌+◌, ◌*◌, ◌≤◌, ◌<◌}
use native.Mathlib.Omega.{arith}
use lib.IntN.{ℤ}
use lib.ListN.{length, get_or, take, drop, replicate, length-append, length-set, length-replicate, length-map}
use lib.Seq.{sets, drop-nil, drop-cons, get_or-take}
use Rattle.meaning.specs.Rows.{row_count}
use Rattle.base_top_down.specs.Forms.{form_size, rows_from}
use Rattle.base_top_down.proofs.Flat.{flat-length}
use Rattle.grammar.specs.Outline.{Declaration, variable, channel, source, sink, OutlineLine, skip, Lined, lined, Expect, nothing, heads, outset, Trees, grown}
use Rattle.grammar.specs.Classes.{class_of}
use Rattle.grammar.specs.Names.{name_of}
use Rattle.grammar.specs.TextBytes.{grammar_fault}
use Rattle.grammar.specs.TextRows.{declaration_row, declarations, trees_form, lines_rows, text_lines, text_rows}
use Rattle.grammar.proofs.LinesComplete.{lines-complete}
use Rattle.read_tokens.specs.Held.{row_limit}
use Rattle.read_levels.specs.Kinds.{kind_number, expectations, kinds_from, kinds_of}
use Rattle.read_resolved.specs.Resolved.{declared_names}
use Rattle.read_counts.specs.OwnRows.{SpeltLine}
use Rattle.read_counts.proofs.RowsCounted.{all-expected}
use Rattle.read_layout.specs.Standing.{Standing, standing, stand_all, standings}
use Rattle.read_layout.specs.Layout.{all_laid}
use Rattle.read_layout.specs.Room.{Room}
use Rattle.read_layout.proofs.TextLines.{trees-read}
use Rattle.read_layout.proofs.Levels.{text-levels}
use Rattle.read_layout.proofs.BlockLaid.{LevelsBelow, text-laid}
use Rattle.read_layout.proofs.BlockRoom.{text-room}
use Rattle.read_sizes.specs.Sizes.{text_standings}
use Rattle.read_sizes.proofs.LineSteps.{text-few}
use Rattle.read_sizes.proofs.MeasuredLaws.{stood}
use Rattle.read_processes.specs.Written.{declared_count, process_laid, first_places}

-- One line --------------------------------------------------------------------------------------------------------------------------

-- a line that is left
pub first-left : (ys : List Standing) (j : ℕ) → j < length ys → (e : Expect) × (l : ℕ) × (x : OutlineLine) × (drop j ys ≡ standing e l x ∷ drop (suc j) ys)
first-left ys j h = go (get_or ys j (standing nothing 0 skip)) (drop-cons ys j (standing nothing 0 skip) h)
  where
    go : (y : Standing) → drop j ys ≡ y ∷ drop (suc j) ys → (e : Expect) × (l : ℕ) × (x : OutlineLine) × (drop j ys ≡ standing e l x ∷ drop (suc j) ys)
    go (standing e l x) d = (e, l, x, d)

-- the line with its kind
pub record LineThere (es : List Expect) (ls : List Lined) (j : ℕ) (e : Expect) (l : ℕ) (x : OutlineLine) : Type 0 where
  pub rest : List Lined
  pub line : drop j ls ≡ lined l x ∷ rest
  pub member : Memᴰ (lined l x) ls
  pub kind : get_or (kinds_from es ls) j 0 ≡ kind_number e (class_of x)

stand-at : (es : List Expect) (ls : List Lined) (j : ℕ) (e : Expect) (l : ℕ) (x : OutlineLine) (zs : List Standing) → drop j (stand_all es ls) ≡ standing e l x ∷ zs → LineThere es ls j e l x
unfolding stand_all kinds_from
stand-at [] ls j e l x zs d = absurd (omega (arith, ap length (sym (drop-nil {A = Standing} j) ∙ d)))
stand-at (f ∷ es) [] j e l x zs d = absurd (omega (arith, ap length (sym (drop-nil {A = Standing} j) ∙ d)))
stand-at (f ∷ es) (lined m y ∷ ls) zero e l x zs d =
    let a : f ≡ e = cc in
    let b : lined m y ≡ lined l x = cc in
    let c : y ≡ x = cc in
    record { rest = ls; line = ap (λ (z : Lined). z ∷ ls) b; member = Memᴰ.head (sym b); kind = ap₂ (λ (g : Expect) (z : OutlineLine). kind_number g (class_of z)) a c }
stand-at (f ∷ es) (lined m y ∷ ls) (suc j) e l x zs d =
    let h = stand-at es ls j e l x zs d in
    record { rest = h.rest; line = h.line; member = Memᴰ.tail h.member; kind = h.kind }

-- a number by line
pub held_at : (f : List Standing → List ℕ) (v : Standing → List Standing → ℕ) → ((y : Standing) (ys : List Standing) → f (y ∷ ys) ≡ v y ys ∷ f ys)
    → (ys zs : List Standing) (y : Standing) (j count : ℕ) (xs : List ℕ) → take count xs ≡ f ys → j < count → drop j ys ≡ y ∷ zs → get_or xs j 0 ≡ v y zs
held_at f v g ys zs y j count xs k h d = sym (get_or-take count xs j 0 h) ∙ ap (λ (w : List ℕ). get_or w j 0) k ∙ go ys j d
  where
    go : (ys : List Standing) (j : ℕ) → drop j ys ≡ y ∷ zs → get_or (f ys) j 0 ≡ v y zs
    go [] j d = absurd (omega (arith, ap length (sym (drop-nil {A = Standing} j) ∙ d)))
    go (w ∷ ys) zero d = let a : w ≡ y = cc in let b : ys ≡ zs = cc in ap (λ (l : List ℕ). get_or l 0 0) (g w ys) ∙ ap₂ v a b
    go (w ∷ ys) (suc j) d = ap (λ (l : List ℕ). get_or l (suc j) 0) (g w ys) ∙ go ys j d

-- Its text --------------------------------------------------------------------------------------------------------------------------

module _ (text : List ℕ) (of-grammar : grammar_fault text ≡ none) where
  -- each line stands somewhere
  pub all-stand : length (text_standings text) ≡ length (text_lines text)
  unfolding standings
  all-stand = stood (expectations outset (text_lines text)) (text_lines text) (all-expected text of-grammar)

  -- a line of the text, with its kind and the tokens that spell it
  pub text-line : (j : ℕ) (e : Expect) (l : ℕ) (x : OutlineLine) (zs : List Standing) → drop j (text_standings text) ≡ standing e l x ∷ zs → (count : ℕ) (kinds : List ℕ) → j < count
      → take count kinds ≡ kinds_of (text_lines text) → ((rest : List Lined) × (drop j (text_lines text) ≡ lined l x ∷ rest)) × SpeltLine (lined l x) × (get_or kinds j 0 ≡ kind_number e (class_of x))
  unfolding standings kinds_of
  text-line j e l x zs d count kinds h k =
      let t = stand-at (expectations outset (text_lines text)) (text_lines text) j e l x zs d in
      let (ps, g, s) = trees-read text of-grammar in
      ((t.rest, t.line), s (lined l x) t.member, sym (get_or-take count kinds j 0 h) ∙ ap (λ (w : List ℕ). get_or w j 0) k ∙ t.kind)

-- Its rows --------------------------------------------------------------------------------------------------------------------------

four : (d : Declaration) → length (declaration_row d) ≡ 4
four (variable z n) = refl
four (channel z n) = refl
four (source n) = refl
four (sink z n) = refl

rows-sized : (ds : List Declaration) → length (flatten (map declaration_row ds)) ≡ 4 * length ds
unfolding flatten
rows-sized [] = refl
rows-sized (d ∷ ds) = let e = length-append (declaration_row d) (flatten (map declaration_row ds)) in let f = four d in let g = rows-sized ds in omega (arith, e, f, g)

-- the declarations and the process are the rows of a text
pub rows-total : (text : List ℕ) → declared_count text + form_size (trees_form (declared_names text) (grown (text_lines text) 0) heads) ≡ row_count (text_rows text)
unfolding text_rows lines_rows
rows-total text =
    let ds = declarations (text_lines text) in
    let f = trees_form (map name_of ds) (grown (text_lines text) 0) heads in
    let a = rows-sized ds in
    let b = flat-length (length ds) f in
    let c = length-append (flatten (map declaration_row ds)) (rows_from (length ds) f) in
    omega (arith, a, b, c)

module _ (text : List ℕ) (of-grammar : grammar_fault text ≡ none) (few : row_count (text_rows text) ≤ 1024) where
  -- there are not many names
  pub names-few : length (declared_names text) ≤ row_limit
  names-few = let n = length-map (declarations (text_lines text)) name_of in omega (arith, n, few, rows-total text)

  levels-below : LevelsBelow (length (first_places (declared_count text))) (text_lines text)
  levels-below =
      let (ps, t, s) = trees-read text of-grammar in
      let n : length (first_places (declared_count text)) ≡ 1025 = length-set {A = ℕ} (replicate 1025 0) 0 (declared_count text) ∙ length-replicate {A = ℕ} 1025 0 in
      let v : LevelsBelow 1025 (text_lines text) = text-levels (text_lines text) ps 1025 t (omega (arith, (text-few text of-grammar few).0, all-stand text of-grammar)) in
      subst (λ (c : ℕ). LevelsBelow c (text_lines text)) (sym n) v

  -- its lines write within the limit, and what they write are the rows of its process
  pub text-fits : Room (declared_names text) 1024 (text_standings text) (first_places (declared_count text))
  text-fits =
      let (ps, t, s) = trees-read text of-grammar in
      let f : form_size (trees_form (declared_names text) ps heads) ≡ form_size (trees_form (declared_names text) (grown (text_lines text) 0) heads) =
      ap (λ (qs : Trees). form_size (trees_form (declared_names text) qs heads)) (lines-complete (text_lines text) ps t).1 in
      text-room (declared_names text) 1024 (text_lines text) ps t s (first_places (declared_count text)) levels-below (omega (arith, f, rows-total text, few))

  pub text-written : (rows : List ℤ) → all_laid (declared_names text) (text_standings text) (first_places (declared_count text)) rows ≡ process_laid text rows
  text-written rows =
      let (ps, t, s) = trees-read text of-grammar in
      text-laid (declared_names text) (text_lines text) ps t s (first_places (declared_count text)) levels-below rows
      ∙ ap (λ (qs : Trees). sets rows (4 * declared_count text) (rows_from (declared_count text) (trees_form (declared_names text) qs heads))) (lines-complete (text_lines text) ps t).1
