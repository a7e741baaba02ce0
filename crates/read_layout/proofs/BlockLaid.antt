-- Lines that are a block, written one after the other: the rows of their form.
use mathlib.Core.Path.{◌≡◌, refl, sym, ap, ap₂, subst, ◌∙◌}
use mathlib.Core.Bool.{Bool, true, false, false≢true}
use mathlib.Core.List.Memᴰ
use mathlib.Core.List.{List, [], ◌∷◌, ◌++◌, append_assoc, append-nil, Memᴰ}
use mathlib.Core.Option.{some, none-ne-some, some-injective}
use Prim.Native.Nat.{ℕ, suc, ◌+◌, ◌*◌, ◌<◌}
use native.Mathlib.Omega.{arith}
use lib.IntN.{ℤ}
use lib.ListN.{length, get_or, set, length-set}
use lib.Seq.{sets, get_or-set_same, get_or-set_other}
use Rattle.meaning.specs.Basics.{if_else}
use Rattle.base_top_down.specs.Forms.{Form, absent, row, form_size, rows_from}
use Rattle.grammar.specs.Outline.{OutlineLine, Lined, lined, Expect, members, choices, options, nothing, one-process, one-member, heads, starts_block, expected_beneath, expected_after, may_end, Trees, Block, end, more, Levels}
use Rattle.grammar.specs.OutlineClaims.{Text}
use Rattle.grammar.specs.Names.{declaration_in}
use Rattle.grammar.specs.TextRows.{unused, process_form, in_first, line_form, trees_form}
use Rattle.grammar.proofs.LinesComplete.{Above}
use Rattle.read_levels.specs.Kinds.{expectations}
use Rattle.read_counts.specs.OwnRows.{AllSpelt}
use Rattle.read_layout.specs.Standing.{Standing, standing, stand_all, standings, open_rows, rest_rows}
use Rattle.read_layout.specs.Layout.{row_beneath, row_after, line_laid, places_after, all_laid}
use Rattle.read_layout.proofs.LinePut.{laid, Holds, field_b, starts-declares, line-put}
use Rattle.read_layout.proofs.LineLaid.{inner}
use Rattle.read_layout.proofs.BlockForms.{stand, above-next, leaves, enters, first-form, block-holds, block-open}

-- the level beneath each of some lines is below n
abbrev pub LevelBelow : ℕ → Lined → Type 0
LevelBelow n (lined l x) = suc l < n

abbrev pub LevelsBelow : ℕ → List Lined → Type 0
LevelsBelow n ls = (y : Lined) → Memᴰ y ls → LevelBelow n y

none-laid : (e : Expect) (n : ℕ) → laid e n absent ≡ []
unfolding laid inner rows_from
none-laid members n = refl
none-laid choices n = refl
none-laid options n = refl
none-laid nothing n = refl
none-laid one-process n = refl
none-laid one-member n = refl
none-laid heads n = refl

-- a block's declaration has the rest of the process after it
pub rest-block : (e : Expect) (l : ℕ) (x : OutlineLine) (ys : List Standing) → starts_block x ≡ true → rest_rows (standing e l x ∷ ys) ≡ rest_rows ys
unfolding rest_rows
rest-block e l x ys s = rw s refl

rest-line : (e : Expect) (l : ℕ) (x : OutlineLine) (ys : List Standing) → starts_block x ≡ false → rest_rows (standing e l x ∷ ys) ≡ open_rows ys l
unfolding rest_rows
rest-line e l x ys s = rw s refl

-- the block round the first member leaves the members after it as they are
first_rest : (names : List (List ℕ)) (x : OutlineLine) (f : Form) → Holds one-member f → field_b (in_first names (declaration_in x) f) ≡ field_b f
unfolding Holds
first_rest names x f (P, (N, e, i, j)) = rw e refl

module _ (names : List (List ℕ)) where
  member-rest : (t : Bool) (x : OutlineLine) (B L : Form) → Holds (if_else t one-member members) L
      → form_size (field_b (if_else t (in_first names (declaration_in x) L) (row 40 (process_form names x B) L unused))) ≡ if_else t (form_size (field_b L)) (form_size L)
  member-rest true x B L h = ap form_size (first_rest names x L h)
  member-rest false x B L h = refl

  -- the members after the first
  line-rest : (t : Bool) (e : Expect) (l : ℕ) (x : OutlineLine) (ys : List Standing) (B L : Form) → starts_block x ≡ t → Holds (if_else t one-member members) L
      → (t ≡ true → rest_rows ys ≡ form_size (field_b L)) → open_rows ys l ≡ form_size L
      → rest_rows (standing e l x ∷ ys) ≡ form_size (field_b (if_else t (in_first names (declaration_in x) L) (row 40 (process_form names x B) L unused)))
  line-rest true e l x ys B L s h f g = rest-block e l x ys s ∙ f refl ∙ sym (member-rest true x B L h)
  line-rest false e l x ys B L s h f g = rest-line e l x ys s ∙ g ∙ sym (member-rest false x B L h)

  -- nothing stands beneath a declaration
  none_after : {b : Expect} {l : ℕ} {ls : List Lined} {ps : Trees} → Block b l ls ps → b ≡ nothing → ls ≡ []
  unfolding expected_beneath
  none_after (end h) c = refl
  none_after (more {e} {b} {l} {x} h p q) c = absurd (none-ne-some b (ap (λ (w : Expect). expected_beneath w x) (sym c) ∙ h))

  block-beneath : (e b : Expect) (x : OutlineLine) → starts_block x ≡ true → expected_after e x ≡ one-member → expected_beneath e x ≡ some b → b ≡ nothing
  unfolding expected_beneath expected_after may_end
  block-beneath members b x s c h = let m : expected_beneath members x ≡ some nothing = rw s refl in some-injective b nothing (sym h ∙ m)
  block-beneath choices b x s c h = absurd (false≢true (sym (ap may_end c)))
  block-beneath options b x s c h = absurd (false≢true (sym (ap may_end c)))
  block-beneath nothing b x s c h = absurd (false≢true (sym (ap may_end c)))
  block-beneath one-process b x s c h = let m : expected_beneath one-process x ≡ some nothing = rw s refl in some-injective b nothing (sym h ∙ m)
  block-beneath one-member b x s c h = let m : expected_beneath one-member x ≡ some nothing = rw s refl in some-injective b nothing (sym h ∙ m)
  block-beneath heads b x s c h = let m : expected_beneath heads x ≡ some nothing = rw (starts-declares x s) refl in some-injective b nothing (sym h ∙ m)

  -- the process of a block is next after its declaration
  pub block-next : (e : Expect) {b : Expect} {l : ℕ} (x : OutlineLine) {ls ms : List Lined} {ps qs : Trees} → starts_block x ≡ true → expected_after e x ≡ one-member → expected_beneath e x ≡ some b
      → Block b (suc l) ls ps → Block (expected_after e x) l ms qs → (k : Levels) → length k ≡ l → (rest : List Lined) → Above l rest
      → stand (b ∷ expected_after e x ∷ k) (ls ++ (ms ++ rest)) ≡ stand (expected_after e x ∷ k) (ms ++ rest)
  unfolding may_end
  block-next e {b} {l} x {ls} {ms} s c h p q k n rest a =
      let g = block-beneath e b x s c h in
      ap (λ (zs : List Lined). stand (b ∷ expected_after e x ∷ k) (zs ++ (ms ++ rest))) (none_after p g) ∙ leaves b (expected_after e x ∷ k) (ms ++ rest) (ap may_end g) (rw n (above-next q rest a))

  pub block-rest : {e : Expect} {l : ℕ} {ls : List Lined} {ps : Trees} → Block e l ls ps → AllSpelt ls → (k : Levels) → length k ≡ l → (rest : List Lined) → Above l rest
      → e ≡ one-member → rest_rows (stand (e ∷ k) (ls ++ rest)) ≡ form_size (field_b (trees_form names ps e))
  unfolding may_end expected_after
  block-rest (end {e} h) s k n rest a c = absurd (false≢true (sym (ap may_end c) ∙ h))
  block-rest (more {e} {b} {l} {x} {ls} {ms} {ps} {qs} h p q) s k n rest a c =
      let later = expected_after e x in
      let B = trees_form names ps b in
      let L = trees_form names qs later in
      let s1 : AllSpelt ls = λ y m. s y (Memᴰ.tail (Memᴰ.append_left ms m)) in
      let s2 : AllSpelt ms = λ y m. s y (Memᴰ.tail (Memᴰ.append_right ls m)) in
      let ys = stand (b ∷ later ∷ k) (ls ++ (ms ++ rest)) in
      let i : stand (e ∷ k) (lined l x ∷ ((ls ++ ms) ++ rest)) ≡ standing e l x ∷ ys =
      enters e b l x k ((ls ++ ms) ++ rest) h n ∙ ap (λ (zs : List Lined). standing e l x ∷ stand (b ∷ later ∷ k) zs) (append_assoc ls ms rest) in
      let d : later ≡ if_else (starts_block x) one-member members = ap (λ (w : Expect). expected_after w x) c in
      let o : open_rows ys l ≡ form_size L =
      (block-open names p s1 (later ∷ k) (ap suc n) (ms ++ rest) (above-next q rest a)).1 l (omega arith) ∙ (block-open names q s2 k n rest a).0 in
      let f : starts_block x ≡ true → rest_rows ys ≡ form_size (field_b L) = λ t.
      let g : later ≡ one-member = d ∙ ap (λ (u : Bool). if_else u one-member members) t in
      ap rest_rows (block-next e x t g h p q k n rest a) ∙ block-rest q s2 k n rest a g in
      ap rest_rows i ∙ line-rest (starts_block x) e l x ys B L refl (subst (λ (w : Expect). Holds w L) d (block-holds names q s2)) f o
      ∙ sym (ap (λ (w : Form). form_size (field_b w)) (first-form names e b x ps qs h ∙ ap (λ (w : Expect). line_form names w x B L) c))

  -- The rows ------------------------------------------------------------------------------------------------------------------------

  -- one line: the form beneath it goes at the next level, the form after it at its own
  pub beneath-at : (e : Expect) (l : ℕ) (x : OutlineLine) (b : ℕ) (at : List ℕ) → suc l < length at → get_or (places_after names e l x b at) (suc l) 0 ≡ row_beneath names e x (get_or at l 0)
  beneath-at e l x b at h =
      get_or-set_other (set at (suc l) (row_beneath names e x (get_or at l 0))) l (suc l) (row_after names e x (get_or at l 0) b) 0 (λ z. omega (arith, z))
      ∙ get_or-set_same at (suc l) (row_beneath names e x (get_or at l 0)) 0 h

  pub after-at : (e : Expect) (l : ℕ) (x : OutlineLine) (b : ℕ) (at : List ℕ) → suc l < length at → get_or (places_after names e l x b at) l 0 ≡ row_after names e x (get_or at l 0) b
  after-at e l x b at h =
      let at1 = set at (suc l) (row_beneath names e x (get_or at l 0)) in
      let n = length-set at (suc l) (row_beneath names e x (get_or at l 0)) in
      get_or-set_same at1 l (row_after names e x (get_or at l 0) b) 0 (omega (arith, n, h))

  pub above_at : (e : Expect) (l : ℕ) (x : OutlineLine) (b : ℕ) (at : List ℕ) (i : ℕ) → i < l → get_or (places_after names e l x b at) i 0 ≡ get_or at i 0
  above_at e l x b at i h =
      get_or-set_other (set at (suc l) (row_beneath names e x (get_or at l 0))) l i (row_after names e x (get_or at l 0) b) 0 (λ z. omega (arith, z, h))
      ∙ get_or-set_other at (suc l) i (row_beneath names e x (get_or at l 0)) 0 (λ z. omega (arith, z, h))

  pub places-length : (e : Expect) (l : ℕ) (x : OutlineLine) (b : ℕ) (at : List ℕ) → length (places_after names e l x b at) ≡ length at
  places-length e l x b at =
      length-set (set at (suc l) (row_beneath names e x (get_or at l 0))) l (row_after names e x (get_or at l 0) b) ∙ length-set at (suc l) (row_beneath names e x (get_or at l 0))

  -- with the rows of the forms beneath it and after it
  line-laid : (e : Expect) (l : ℕ) (x : OutlineLine) (ys : List Standing) (at : List ℕ) (rows : List ℤ) (b t : ℕ) → open_rows ys (suc l) ≡ b → open_rows ys l ≡ t
      → all_laid names (standing e l x ∷ ys) at rows ≡ all_laid names ys (places_after names e l x b at) (line_laid names e x (get_or at l 0) b t (rest_rows (standing e l x ∷ ys)) rows)
  unfolding all_laid
  line-laid e l x ys at rows b t f g =
      ap₂ (λ (c d : ℕ). all_laid names ys (places_after names e l x c at) (line_laid names e x (get_or at l 0) c d (rest_rows (standing e l x ∷ ys)) rows)) f g

  -- the lines of a block write the rows of its form where it goes, and leave the places at the levels above
  pub block-laid : {e : Expect} {l : ℕ} {ls : List Lined} {ps : Trees} → Block e l ls ps → AllSpelt ls → (at : List ℕ) → LevelsBelow (length at) ls → (k : Levels) → length k ≡ l → (rest : List Lined) → Above l rest
      → (rows : List ℤ) → (to : List ℕ) × (length to ≡ length at) × ((i : ℕ) → i < l → get_or to i 0 ≡ get_or at i 0)
      × (all_laid names (stand (e ∷ k) (ls ++ rest)) at rows ≡ all_laid names (stand k rest) to (sets rows (4 * get_or at l 0) (laid e (get_or at l 0) (trees_form names ps e))))
  unfolding trees_form
  block-laid (end {e} {l} h) s at v k n rest a rows = (
    at,
    refl,
    λ i c. refl,
    ap₂ (λ (ys : List Standing) (xs : List ℤ). all_laid names ys at (sets rows (4 * get_or at l 0) xs)) (leaves e k rest h (rw n a)) (sym (none-laid e (get_or at l 0))),
  )
  block-laid (more {e} {b} {l} {x} {ls} {ms} {ps} {qs} h p q) s at v k n rest a rows =
      let (ts, w) = s (lined l x) (Memᴰ.head refl) in
      let deep : suc l < length at = v (lined l x) (Memᴰ.head refl) in
      let later = expected_after e x in
      let B = trees_form names ps b in
      let L = trees_form names qs later in
      let s1 : AllSpelt ls = λ y m. s y (Memᴰ.tail (Memᴰ.append_left ms m)) in
      let s2 : AllSpelt ms = λ y m. s y (Memᴰ.tail (Memᴰ.append_right ls m)) in
      let ys = stand (b ∷ later ∷ k) (ls ++ (ms ++ rest)) in
      let i : stand (e ∷ k) (lined l x ∷ ((ls ++ ms) ++ rest)) ≡ standing e l x ∷ ys =
      enters e b l x k ((ls ++ ms) ++ rest) h n ∙ ap (λ (zs : List Lined). standing e l x ∷ stand (b ∷ later ∷ k) zs) (append_assoc ls ms rest) in
      let (f, g) = block-open names p s1 (later ∷ k) (ap suc n) (ms ++ rest) (above-next q rest a) in
      let o : open_rows ys l ≡ form_size L = g l (omega arith) ∙ (block-open names q s2 k n rest a).0 in
      let r = rest_rows (standing e l x ∷ ys) in
      let at1 = places_after names e l x (form_size B) at in
      let n1 = places-length e l x (form_size B) at in
      let p0 = get_or at l 0 in
      let rows1 = line_laid names e x p0 (form_size B) (form_size L) r rows in
      let m = row_beneath names e x p0 in
      let z = row_after names e x p0 (form_size B) in
      let v1 : LevelsBelow (length at1) ls = λ y u. subst (λ (c : ℕ). LevelBelow c y) (sym n1) (v y (Memᴰ.tail (Memᴰ.append_left ms u))) in
      let (at2, n2, k2, e2) = block-laid p s1 at1 v1 (later ∷ k) (ap suc n) (ms ++ rest) (above-next q rest a) rows1 in
      let rows2 = sets rows1 (4 * m) (laid b m B) in
      let v2 : LevelsBelow (length at2) ms = λ y u. subst (λ (c : ℕ). LevelBelow c y) (sym (n2 ∙ n1)) (v y (Memᴰ.tail (Memᴰ.append_right ls u))) in
      let (at3, n3, k3, e3) = block-laid q s2 at2 v2 k n rest a rows2 in
      let g2 : get_or at2 l 0 ≡ z = k2 l (omega arith) ∙ after-at e l x (form_size B) at deep in
      let rests : starts_block x ≡ true → later ≡ one-member → r ≡ form_size (field_b L) = λ t c.
      rest-block e l x ys t ∙ ap rest_rows (block-next e x t c h p q k n rest a) ∙ block-rest q s2 k n rest a c in
      let first : all_laid names (standing e l x ∷ ys) at rows ≡ all_laid names ys at1 rows1 = line-laid e l x ys at rows (form_size B) (form_size L) f o in (
        at3,
        n3 ∙ n2 ∙ n1,
        λ j c. k3 j c ∙ k2 j (omega (arith, c)) ∙ above_at e l x (form_size B) at j c,
        ap (λ (zs : List Standing). all_laid names zs at rows) i
            ∙ first
            ∙ e2
            ∙ ap (λ (c : ℕ). all_laid names (stand (later ∷ k) (ms ++ rest)) at2 (sets rows1 (4 * c) (laid b c B))) (beneath-at e l x (form_size B) at deep)
            ∙ e3
            ∙ ap (λ (c : ℕ). all_laid names (stand k rest) at3 (sets rows2 (4 * c) (laid later c L))) g2
            ∙ ap (all_laid names (stand k rest) at3) (line-put names e x w b B L p0 r rows h (block-holds names p s1) (block-holds names q s2) rests)
            ∙ ap (λ (c : Form). all_laid names (stand k rest) at3 (sets rows (4 * p0) (laid e p0 c))) (sym (first-form names e b x ps qs h)),
      )

-- the lines of a text write the rows of its process
pub text-laid : (names : List (List ℕ)) (ls : List Lined) (ps : Trees) → Text ls ps → AllSpelt ls → (at : List ℕ) → LevelsBelow (length at) ls → (rows : List ℤ)
    → all_laid names (standings ls) at rows ≡ sets rows (4 * get_or at 0 0) (rows_from (get_or at 0 0) (trees_form names ps heads))
unfolding standings laid all_laid expectations stand_all
text-laid names ls ps t s at v rows =
    let (to, n, k, e) = block-laid names t s at v [] refl [] tt rows in
    rw append-nil at e
