-- A line written where its form goes, with the forms beneath it and after it behind: the rows of its form.
use mathlib.Core.Path.{◌≡◌, refl, sym, ap, subst, ◌∙◌}
use mathlib.Core.Bool.{Bool, true, false, false≢true}
use mathlib.Core.List.{List, []}
use mathlib.Core.Option.{Option, none, some, none-ne-some}
use Prim.Native.Nat.{ℕ, suc, ◌+◌, ◌*◌}
use lib.IntN.{ℤ, pos}
use lib.Seq.{sets}
use Rattle.meaning.specs.Basics.{if_else}
use Rattle.base_top_down.specs.Forms.{Form, absent, number, row, form_size, rows_from, Suits, is_row}
use Rattle.grammar.specs.Grammar.{Token}
use Rattle.grammar.specs.Outline.{Declaration, OutlineLine, declare, skip, stop, assign, input, output, seq, par, ifs, alts, while, test, guarded, allowed, Expect, members, choices, options, nothing, one-process, one-member, heads, process_beneath, choice, guard_beneath, is_declaration, starts_block, expected_beneath, expected_after}
use Rattle.grammar.specs.Lines.{Spells}
use Rattle.grammar.specs.Names.{name_of, declaration_in}
use Rattle.grammar.specs.TextRows.{unused, name_row, process_form, test_form, guard_form, block_form, in_first, line_form}
use Rattle.read_layout.specs.Layout.{process_size, process_rows, member_rows, block_row, member_block, row_beneath, row_after, line_laid}
use Rattle.read_layout.proofs.LineForms.{Bears, process-row, test-row, guard-row}
use Rattle.read_layout.proofs.LineLaid.{inner, process-put, member-put, first-put, block-put, first-block-put, member-block-put, listed-put}

-- the rows of a form where something is expected: the row of the first member of a block is written before the block's
unfoldable pub laid : Expect → ℕ → Form → List ℤ
laid members n f = rows_from n f
laid choices n f = rows_from n f
laid options n f = rows_from n f
laid nothing n f = rows_from n f
laid one-process n f = rows_from n f
laid one-member n f = inner n f
laid heads n f = rows_from n f

-- a member and the members after it
abbrev pub IsMember : Form → Type 0
IsMember f = (P : Form) × ((N : Form) × (f ≡ row 40 P N unused) × (is_row P ≡ true) × Suits true N)

-- the form of what is expected
unfoldable pub Holds : Expect → Form → Type 0
Holds members f = Suits true f
Holds choices f = Suits true f
Holds options f = Suits true f
Holds nothing f = f ≡ absent
Holds one-process f = is_row f ≡ true
Holds one-member f = IsMember f
Holds heads f = is_row f ≡ true

-- what field b holds
abbrev pub field_b : Form → Form
field_b absent = absent
field_b (number z) = absent
field_b (row k a b c) = b

row-suits : (f : Form) → is_row f ≡ true → Suits true f
row-suits absent h = tt
row-suits (number z) h = absurd (false≢true h)
row-suits (row k a b c) h = tt

pub holds-suits : (e : Expect) (f : Form) → Holds e f → Suits true f
unfolding Holds
holds-suits members f h = h
holds-suits choices f h = h
holds-suits options f h = h
holds-suits nothing f h = subst (Suits true) (sym h) tt
holds-suits one-process f h = row-suits f h
holds-suits one-member f (P, (N, e, r, s)) = subst (Suits true) (sym e) tt
holds-suits heads f h = row-suits f h

-- What is expected beneath a line ---------------------------------------------------------------------------------------------------

-- anything but the rest of a block
abbrev Plain : Option Expect → Type 0
Plain none = Unit {0}
Plain (some members) = Unit {0}
Plain (some choices) = Unit {0}
Plain (some options) = Unit {0}
Plain (some nothing) = Unit {0}
Plain (some one-process) = Unit {0}
Plain (some one-member) = ⊥
Plain (some heads) = Unit {0}

process-plain : (x : OutlineLine) → Plain (process_beneath x)
process-plain (declare d) = tt
process-plain skip = tt
process-plain stop = tt
process-plain (assign a e) = tt
process-plain (input c a) = tt
process-plain (output c e) = tt
process-plain seq = tt
process-plain par = tt
process-plain ifs = tt
process-plain alts = tt
process-plain (while e) = tt
process-plain (test e) = tt
process-plain (guarded e c a) = tt
process-plain (allowed e) = tt

plain-laid : (o : Option Expect) (b : Expect) (n : ℕ) (f : Form) → Plain o → o ≡ some b → laid b n f ≡ rows_from n f
unfolding laid
plain-laid o b n f p q = go b (subst Plain q p)
  where
    go : (b : Expect) → Plain (some b) → laid b n f ≡ rows_from n f
    go members p = refl
    go choices p = refl
    go options p = refl
    go nothing p = refl
    go one-process p = refl
    go one-member p = absurd p
    go heads p = refl

-- a process bears what is expected beneath it
pub bears : (x : OutlineLine) (b : Expect) (B : Form) → process_beneath x ≡ some b → Holds b B → Bears x B
unfolding Holds
bears x b B q h = (b, q, (λ k. subst (λ (o : Option Expect). HoldsIn o B) (sym q ∙ k) h), holds-suits b B h)
  where
    HoldsIn : Option Expect → Form → Type 0
    HoldsIn none f = Unit {0}
    HoldsIn (some b) f = Holds b f

-- a choice's boolean, and a guard: one process stands beneath it
choice-one : (x : OutlineLine) (b : Expect) → choice x ≡ some b → choice x ≡ some one-process
choice-one (declare d) b q = absurd (none-ne-some b q)
choice-one skip b q = absurd (none-ne-some b q)
choice-one stop b q = absurd (none-ne-some b q)
choice-one (assign a e) b q = absurd (none-ne-some b q)
choice-one (input c a) b q = absurd (none-ne-some b q)
choice-one (output c e) b q = absurd (none-ne-some b q)
choice-one seq b q = absurd (none-ne-some b q)
choice-one par b q = absurd (none-ne-some b q)
choice-one ifs b q = absurd (none-ne-some b q)
choice-one alts b q = absurd (none-ne-some b q)
choice-one (while e) b q = absurd (none-ne-some b q)
choice-one (test e) b q = refl
choice-one (guarded e c a) b q = absurd (none-ne-some b q)
choice-one (allowed e) b q = absurd (none-ne-some b q)

guard-one : (x : OutlineLine) (b : Expect) → guard_beneath x ≡ some b → guard_beneath x ≡ some one-process
guard-one (declare d) b q = absurd (none-ne-some b q)
guard-one skip b q = absurd (none-ne-some b q)
guard-one stop b q = absurd (none-ne-some b q)
guard-one (assign a e) b q = absurd (none-ne-some b q)
guard-one (input c a) b q = refl
guard-one (output c e) b q = absurd (none-ne-some b q)
guard-one seq b q = absurd (none-ne-some b q)
guard-one par b q = absurd (none-ne-some b q)
guard-one ifs b q = absurd (none-ne-some b q)
guard-one alts b q = absurd (none-ne-some b q)
guard-one (while e) b q = absurd (none-ne-some b q)
guard-one (test e) b q = absurd (none-ne-some b q)
guard-one (guarded e c a) b q = refl
guard-one (allowed e) b q = refl

-- a line that starts a block declares something
pub declared : (x : OutlineLine) → is_declaration x ≡ true → (d : Declaration) × (declaration_in x ≡ some d)
declared (declare d) h = (d, refl)
declared skip h = absurd (false≢true h)
declared stop h = absurd (false≢true h)
declared (assign a e) h = absurd (false≢true h)
declared (input c a) h = absurd (false≢true h)
declared (output c e) h = absurd (false≢true h)
declared seq h = absurd (false≢true h)
declared par h = absurd (false≢true h)
declared ifs h = absurd (false≢true h)
declared alts h = absurd (false≢true h)
declared (while e) h = absurd (false≢true h)
declared (test e) h = absurd (false≢true h)
declared (guarded e c a) h = absurd (false≢true h)
declared (allowed e) h = absurd (false≢true h)

pub starts-declares : (x : OutlineLine) → starts_block x ≡ true → is_declaration x ≡ true
starts-declares (declare d) h = refl
starts-declares skip h = h
starts-declares stop h = h
starts-declares (assign a e) h = h
starts-declares (input c a) h = h
starts-declares (output c e) h = h
starts-declares seq h = h
starts-declares par h = h
starts-declares ifs h = h
starts-declares alts h = h
starts-declares (while e) h = h
starts-declares (test e) h = h
starts-declares (guarded e c a) h = h
starts-declares (allowed e) h = h

-- nothing is beneath a declaration
none-beneath : (b : Expect) (B : Form) (n : ℕ) → some nothing ≡ some b → Holds b B → laid b n B ≡ []
unfolding Holds laid rows_from
none-beneath b B n q h = subst (λ (o : Option Expect). Empty o) q (λ f e. rw e refl) B h
  where
    Empty : Option Expect → Type 0
    Empty none = Unit {0}
    Empty (some b) = (f : Form) → Holds b f → laid b n f ≡ []

-- The line --------------------------------------------------------------------------------------------------------------------------

module _ (names : List (List ℕ)) {ts : List Token} (x : OutlineLine) (w : Spells ts x) (b : Expect) (B L : Form) (p r : ℕ) (rows : List ℤ) (h : Holds b B) where
  abbrev size : ℕ
  size = process_size names x

  put-members : (t : Bool) → starts_block x ≡ t → if_else t (some nothing) (process_beneath x) ≡ some b → Holds (if_else t one-member members) L → (t ≡ true → r ≡ form_size (field_b L))
      → let head = if_else t (member_block names x p (form_size L) r) (member_rows names x p (form_size B) (form_size L)) in
      let n = suc p + size in let m = if_else t (suc (suc p)) (suc p + size + form_size B) in
      sets (sets (sets rows (4 * p) head) (4 * n) (laid b n B)) (4 * m) (laid (if_else t one-member members) m L)
      ≡ sets rows (4 * p) (rows_from p (if_else t (in_first names (declaration_in x) L) (row 40 (process_form names x B) L unused)))
  unfolding laid Holds rows_from
  put-members true s q k v =
      let (P, (N, e, i, j)) = k in
      let (d, f) = declared x (starts-declares x s) in
      let u : r ≡ form_size N = v refl ∙ ap (λ (g : Form). form_size (field_b g)) e in
      rw (none-beneath b B (suc p + size) q h, u, e, f) (member-block-put (pos (name_row names (name_of d))) P N p rows i j)
  put-members false s q k v = rw (plain-laid (process_beneath x) b (suc p + size) B (process-plain x) q) (member-put names x B L p rows (bears x b B q h) (process-row names w B b q) k)

  put-member : (t : Bool) → starts_block x ≡ t → if_else t (some nothing) (process_beneath x) ≡ some b → Holds (if_else t one-member members) L
      → let head = if_else t (block_row names x p) (process_rows names x p (form_size B)) in
      let n = p + size in let m = if_else t (suc p) (p + size + form_size B) in
      sets (sets (sets rows (4 * p) head) (4 * n) (laid b n B)) (4 * m) (laid (if_else t one-member members) m L)
      ≡ sets rows (4 * p) (inner p (if_else t (in_first names (declaration_in x) L) (row 40 (process_form names x B) L unused)))
  unfolding laid Holds rows_from
  put-member true s q k =
      let (P, (N, e, i, j)) = k in
      let (d, f) = declared x (starts-declares x s) in
      rw (none-beneath b B (p + size) q h, e, f) (first-block-put (pos (name_row names (name_of d))) P N p rows i)
  put-member false s q k = rw (plain-laid (process_beneath x) b (p + size) B (process-plain x) q) (first-put names x B L p rows (bears x b B q h))

  put-process : (t : Bool) → starts_block x ≡ t → if_else t (some nothing) (process_beneath x) ≡ some b → Holds (if_else t one-process nothing) L
      → let head = if_else t (block_row names x p) (process_rows names x p (form_size B)) in
      let n = p + size in let m = if_else t (suc p) (p + size + form_size B) in
      sets (sets (sets rows (4 * p) head) (4 * n) (laid b n B)) (4 * m) (laid (if_else t one-process nothing) m L)
      ≡ sets rows (4 * p) (rows_from p (if_else t (block_form names (declaration_in x) L) (process_form names x B)))
  unfolding laid Holds rows_from
  put-process true s q k =
      let (d, f) = declared x (starts-declares x s) in
      rw (none-beneath b B (p + size) q h, f) (block-put (pos (name_row names (name_of d))) L p rows k)
  put-process false s q k = rw (plain-laid (process_beneath x) b (p + size) B (process-plain x) q, k) (process-put names x B p rows (bears x b B q h))

  put-heads : (t : Bool) → if_else t (some nothing) (process_beneath x) ≡ some b → Holds (if_else t heads nothing) L
      → let head = if_else t [] (process_rows names x p (form_size B)) in
      let n = p + size in let m = if_else t p (p + size + form_size B) in
      sets (sets (sets rows (4 * p) head) (4 * n) (laid b n B)) (4 * m) (laid (if_else t heads nothing) m L)
      ≡ sets rows (4 * p) (rows_from p (if_else t L (process_form names x B)))
  unfolding laid Holds rows_from
  put-heads true q k = rw (none-beneath b B (p + size) q h) refl
  put-heads false q k = rw (plain-laid (process_beneath x) b (p + size) B (process-plain x) q, k) (process-put names x B p rows (bears x b B q h))

-- what stands beneath a choice or an option
one-beneath : (o : Option Expect) (b : Expect) (n : ℕ) (B : Form) → o ≡ some b → o ≡ some one-process → laid b n B ≡ rows_from n B
one-beneath o b n B q e = plain-laid o b n B (subst Plain (sym e) tt) q

-- a line written where its form goes, and the forms beneath it and after it
pub line-put : (names : List (List ℕ)) {ts : List Token} (e : Expect) (x : OutlineLine) → Spells ts x → (b : Expect) (B L : Form) (p r : ℕ) (rows : List ℤ)
    → expected_beneath e x ≡ some b → Holds b B → Holds (expected_after e x) L → (starts_block x ≡ true → expected_after e x ≡ one-member → r ≡ form_size (field_b L))
    → let n = row_beneath names e x p in let m = row_after names e x p (form_size B) in
    sets (sets (line_laid names e x p (form_size B) (form_size L) r rows) (4 * n) (laid b n B)) (4 * m) (laid (expected_after e x) m L)
    ≡ sets rows (4 * p) (laid e p (line_form names e x B L))
unfolding laid Holds expected_beneath expected_after
line-put names members x w b B L p r rows q h k v = put-members names x w b B L p r rows h (starts_block x) refl q k (λ s. v s (ap (λ (t : Bool). if_else t one-member members) s))
line-put names choices x w b B L p r rows q h k v =
    rw (one-beneath (choice x) b (suc p) B q (choice-one x b q)) (listed-put 41 B L (test_form names x) p rows (holds-suits b B h) k (test-row names x b q))
line-put names options x w b B L p r rows q h k v =
    rw (one-beneath (guard_beneath x) b (suc p) B q (guard-one x b q)) (listed-put 42 B L (guard_form names x) p rows (holds-suits b B h) k (guard-row names w b q))
line-put names nothing x w b B L p r rows q h k v = absurd (none-ne-some b q)
line-put names one-process x w b B L p r rows q h k v = put-process names x w b B L p r rows h (starts_block x) refl q k
line-put names one-member x w b B L p r rows q h k v = put-member names x w b B L p r rows h (starts_block x) refl q k
line-put names heads x w b B L p r rows q h k v = put-heads names x w b B L p r rows h (is_declaration x) q k
