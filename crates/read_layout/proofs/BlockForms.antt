-- Lines that are a block: what their form is, and how many rows they leave open.
use mathlib.Core.Path.{◌≡◌, refl, sym, ap, subst, ◌∙◌}
use mathlib.Core.Bool.{Bool, true, false, false≢true}
use mathlib.Core.List.Memᴰ
use mathlib.Core.List.{List, [], ◌∷◌, ◌++◌, append_assoc}
use mathlib.Core.Option.{some, none-ne-some}
use Prim.Native.Nat.{ℕ, suc, ◌+◌, ◌<◌}
use native.Mathlib.Omega.{arith}
use borrow.Author.Tests.{eq-eqb, ne_eqb, lt-ltb, le-ltb}
use lib.ListN.{length}
use lib.Dec.{eqb}
use Rattle.meaning.specs.Basics.{if_else}
use Rattle.base_top_down.specs.Forms.{Form, absent, row, form_size, Suits, is_row}
use Rattle.grammar.specs.Grammar.{Token}
use Rattle.grammar.specs.Outline.{OutlineLine, Lined, lined, Expect, members, choices, options, nothing, one-process, one-member, heads, process_beneath, is_declaration, starts_block, expected_beneath, expected_after, may_end, node, Trees, also, Block, end, more, Levels, place, accept, accept_line}
use Rattle.grammar.specs.Lines.{Spells}
use Rattle.grammar.specs.Names.{declaration_in}
use Rattle.grammar.specs.TextRows.{unused, process_form, block_form, in_first, line_form, tree_form, trees_form}
use Rattle.grammar.proofs.LinesComplete.{Above}
use Rattle.grammar.proofs.FormsShaped.{trees-whole}
use Rattle.read_levels.specs.Kinds.{expect_at, expectations}
use Rattle.read_counts.specs.OwnRows.{own_rows, AllSpelt}
use Rattle.read_counts.proofs.OwnSizes.{line-size}
use Rattle.read_counts.proofs.RowsCounted.{trees-fit}
use Rattle.read_layout.specs.Standing.{Standing, standing, stand_all, open_rows}
use Rattle.read_layout.proofs.LineForms.{process-row}
use Rattle.read_layout.proofs.LinePut.{IsMember, Holds, declared, starts-declares}

-- What is expected ------------------------------------------------------------------------------------------------------------------

-- lines where they stand, by what is expected at each level
abbrev pub stand : Levels → List Lined → List Standing
stand k ls = stand_all (expectations (some k) ls) ls

pub above-next : {e : Expect} {l : ℕ} {ms : List Lined} {qs : Trees} → Block e l ms qs → (rest : List Lined) → Above l rest → Above (suc l) (ms ++ rest)
above-next (end {l} h) rest a = higher rest a
  where
    higher : (rest : List Lined) → Above l rest → Above (suc l) rest
    higher [] a = tt
    higher (lined i x ∷ ls) a = omega arith
above-next (more h b c) rest a = omega arith

-- a level that may end is left at the next line above it
pub leaves : (e : Expect) (k : Levels) (rest : List Lined) → may_end e ≡ true → Above (length k) rest → stand (e ∷ k) rest ≡ stand k rest
unfolding expectations accept_line accept expect_at
leaves e k [] h a = refl
leaves e k (lined i x ∷ rest) h a =
    let n : eqb (length k) i ≡ false = ne_eqb (length k) i (omega arith) in
    rw (n, h) refl

-- a line at the deepest level
pub enters : (e b : Expect) (l : ℕ) (x : OutlineLine) (k : Levels) (rest : List Lined) → expected_beneath e x ≡ some b → length k ≡ l
    → stand (e ∷ k) (lined l x ∷ rest) ≡ standing e l x ∷ stand (b ∷ expected_after e x ∷ k) rest
unfolding expectations accept_line accept place expect_at stand_all
enters e b l x k rest h n = rw (eq-eqb (length k) l n, h) refl

-- Forms -----------------------------------------------------------------------------------------------------------------------------

none-holds : (e : Expect) → may_end e ≡ true → Holds e absent
unfolding Holds may_end
none-holds members h = tt
none-holds choices h = tt
none-holds options h = tt
none-holds nothing h = refl
none-holds one-process h = absurd (false≢true h)
none-holds one-member h = absurd (false≢true h)
none-holds heads h = absurd (false≢true h)

module _ (names : List (List ℕ)) where
  -- one process, with the blocks round it
  process-holds : {ts : List Token} (t : Bool) (x : OutlineLine) → Spells ts x → starts_block x ≡ t → (b : Expect) (B L : Form) → if_else t (some nothing) (process_beneath x) ≡ some b
      → is_row (if_else t (block_form names (declaration_in x) L) (process_form names x B)) ≡ true
  process-holds true x w s b B L q = let (d, f) = declared x (starts-declares x s) in rw f refl
  process-holds false x w s b B L q = process-row names w B b q

  member-holds : {ts : List Token} (t : Bool) (x : OutlineLine) → Spells ts x → starts_block x ≡ t → (b : Expect) (B L : Form) → if_else t (some nothing) (process_beneath x) ≡ some b
      → Holds (if_else t one-member members) L → IsMember (if_else t (in_first names (declaration_in x) L) (row 40 (process_form names x B) L unused))
  unfolding Holds
  member-holds true x w s b B L q (P, (N, e, i, j)) =
      let (d, f) = declared x (starts-declares x s) in
      (block_form names (some d) P, (N, rw (f, e) refl, refl, j))
  member-holds false x w s b B L q h = (process_form names x B, (L, refl, process-row names w B b q, h))

  head-holds : {ts : List Token} (t : Bool) (x : OutlineLine) → Spells ts x → (b : Expect) (B L : Form) → if_else t (some nothing) (process_beneath x) ≡ some b → Holds (if_else t heads nothing) L
      → is_row (if_else t L (process_form names x B)) ≡ true
  unfolding Holds
  head-holds true x w b B L q h = h
  head-holds false x w b B L q h = process-row names w B b q

  line-holds : {ts : List Token} (e b : Expect) (x : OutlineLine) → Spells ts x → (B L : Form) → expected_beneath e x ≡ some b → Holds (expected_after e x) L
      → Suits true (line_form names e x B L) → Holds e (line_form names e x B L)
  unfolding Holds expected_beneath expected_after
  line-holds members b x w B L q h s = s
  line-holds choices b x w B L q h s = s
  line-holds options b x w B L q h s = s
  line-holds nothing b x w B L q h s = absurd (none-ne-some b q)
  line-holds one-process b x w B L q h s = process-holds (starts_block x) x w refl b B L q
  line-holds one-member b x w B L q h s = member-holds (starts_block x) x w refl b B L q h
  line-holds heads b x w B L q h s = head-holds (is_declaration x) x w b B L q h

  -- the form of lines, by their first
  pub first-form : (e b : Expect) (x : OutlineLine) (ps qs : Trees) → expected_beneath e x ≡ some b
      → trees_form names (also (node x ps) qs) e ≡ line_form names e x (trees_form names ps b) (trees_form names qs (expected_after e x))
  unfolding trees_form tree_form
  first-form e b x ps qs q = rw q refl

  pub block-holds : {e : Expect} {l : ℕ} {ls : List Lined} {ps : Trees} → Block e l ls ps → AllSpelt ls → Holds e (trees_form names ps e)
  unfolding trees_form
  block-holds (end {e} h) s = none-holds e h
  block-holds (more {e} {b} {l} {x} {ls} {ms} {ps} {qs} h p q) s =
      let (ts, w) = s (lined l x) (Memᴰ.head refl) in
      let i = block-holds q (λ y m. s y (Memᴰ.tail (Memᴰ.append_right ls m))) in
      let f = first-form e b x ps qs h in
      subst (Holds e) (sym f) (line-holds e b x w (trees_form names ps b) (trees_form names qs (expected_after e x)) h i (subst (Suits true) f (trees-whole names (also (node x ps) qs) e).0))

-- Sizes -----------------------------------------------------------------------------------------------------------------------------

none_open : (es : List Expect) (l : ℕ) (rest : List Lined) → Above l rest → open_rows (stand_all es rest) l ≡ 0
unfolding open_rows stand_all
none_open [] l rest a = refl
none_open (e ∷ es) l [] a = refl
none_open (e ∷ es) l (lined j x ∷ rest) a = rw (le-ltb l j (omega arith), ne_eqb l j (omega arith)) refl

open-here : (e : Expect) (l : ℕ) (x : OutlineLine) (ys : List Standing) → open_rows (standing e l x ∷ ys) l ≡ own_rows e x + open_rows ys (suc l) + open_rows ys l
unfolding open_rows
open-here e l x ys = rw (le-ltb l l (omega arith), eq-eqb l l refl) refl

open_above : (e : Expect) (i l : ℕ) (x : OutlineLine) (ys : List Standing) → i < l → open_rows (standing e l x ∷ ys) i ≡ open_rows ys i
unfolding open_rows
open_above e i l x ys h = rw (lt-ltb i l h) refl

module _ (names : List (List ℕ)) where
  -- the lines leave the rows of their form open at their level, and nothing above it
  pub block-open : {e : Expect} {l : ℕ} {ls : List Lined} {ps : Trees} → Block e l ls ps → AllSpelt ls → (k : Levels) → length k ≡ l → (rest : List Lined) → Above l rest
      → (open_rows (stand (e ∷ k) (ls ++ rest)) l ≡ form_size (trees_form names ps e)) × ((i : ℕ) → i < l → open_rows (stand (e ∷ k) (ls ++ rest)) i ≡ open_rows (stand k rest) i)
  unfolding trees_form form_size
  block-open (end {e} {l} h) s k n rest a =
      let g = leaves e k rest h (rw n a) in
      (ap (λ (ys : List Standing). open_rows ys l) g ∙ none_open (expectations (some k) rest) l rest a, λ i c. ap (λ (ys : List Standing). open_rows ys i) g)
  block-open (more {e} {b} {l} {x} {ls} {ms} {ps} {qs} h p q) s k n rest a =
      let (ts, w) = s (lined l x) (Memᴰ.head refl) in
      let later = expected_after e x in
      let (f, g) = block-open p (λ y m. s y (Memᴰ.tail (Memᴰ.append_left ms m))) (later ∷ k) (ap suc n) (ms ++ rest) (above-next q rest a) in
      let (u, v) = block-open q (λ y m. s y (Memᴰ.tail (Memᴰ.append_right ls m))) k n rest a in
      let ys = stand (b ∷ later ∷ k) (ls ++ (ms ++ rest)) in
      let i : stand (e ∷ k) (lined l x ∷ ((ls ++ ms) ++ rest)) ≡ standing e l x ∷ ys =
      enters e b l x k ((ls ++ ms) ++ rest) h n ∙ ap (λ (zs : List Lined). standing e l x ∷ stand (b ∷ later ∷ k) zs) (append_assoc ls ms rest) in
      let z = line-size names e b ts x (trees_form names ps b) (trees_form names qs later) w h (trees-fit names b (suc l) ls ps p) (trees-fit names later l ms qs q) in
      let c = g l (omega arith) in
      let o : open_rows (standing e l x ∷ ys) l ≡ form_size (line_form names e x (trees_form names ps b) (trees_form names qs later)) = open-here e l x ys ∙ omega (arith, f, c, u, z) in (
        ap (λ (zs : List Standing). open_rows zs l) i ∙ o ∙ sym (ap form_size (first-form names e b x ps qs h)),
        λ j d. ap (λ (zs : List Standing). open_rows zs j) i ∙ open_above e j l x ys d ∙ g j (omega arith) ∙ v j d,
      )
