-- The lines of a block write within the rows of its form.
use mathlib.Core.Path.{◌≡◌, refl, sym, ap, subst, ◌∙◌}
use mathlib.Core.Bool.{Bool, true, false, false≢true}
use mathlib.Core.List.Memᴰ
use mathlib.Core.List.{List, [], ◌∷◌, ◌++◌, append_assoc, append-nil}
use mathlib.Core.Option.{some, none, Option, none-ne-some}
use Prim.Native.Nat.{ℕ, suc, ◌+◌, ◌-◌, ◌≤◌, ◌<◌}
use native.Mathlib.Omega.{arith}
use lib.ListN.{length, get_or}
use Rattle.meaning.specs.Basics.{if_else}
use Rattle.base_top_down.specs.Forms.{Form, row, form_size}
use Rattle.grammar.specs.Outline.{OutlineLine, declare, skip, stop, assign, input, output, seq, par, ifs, alts, while, test, guarded, allowed, Lined, lined, Expect, members, choices, options, nothing, one-process, one-member, heads, process_beneath, is_declaration, starts_block, expected_beneath, expected_after, Trees, Block, end, more, Levels}
use Rattle.grammar.specs.OutlineClaims.{Text}
use Rattle.grammar.specs.Names.{declaration_in}
use Rattle.grammar.specs.TextRows.{unused, process_form, block_form, in_first, line_form, trees_form}
use Rattle.grammar.proofs.LinesComplete.{Above}
use Rattle.read_levels.specs.Kinds.{expectations}
use Rattle.read_counts.specs.OwnRows.{AllSpelt}
use Rattle.read_layout.specs.Standing.{Standing, standing, stand_all, standings, open_rows, rest_rows}
use Rattle.read_layout.specs.Layout.{process_size, row_beneath, row_after, places_after}
use Rattle.read_layout.specs.Room.{line_end, LineRoom, Room}
use Rattle.read_layout.proofs.LineForms.{process-size}
use Rattle.read_layout.proofs.LinePut.{Holds, field_b, declared, starts-declares, bears}
use Rattle.read_layout.proofs.BlockForms.{stand, above-next, leaves, enters, first-form, block-holds, block-open}
use Rattle.read_layout.proofs.BlockLaid.{LevelBelow, LevelsBelow, rest-block, block-next, block-rest, beneath-at, after-at, above_at, places-length}

-- the rows of a form where something is expected: without the row of the first member of a block
abbrev laid_size : Expect → Form → ℕ
laid_size members f = form_size f
laid_size choices f = form_size f
laid_size options f = form_size f
laid_size nothing f = form_size f
laid_size one-process f = form_size f
laid_size one-member f = form_size f - 1
laid_size heads f = form_size f

laid-less : (e : Expect) (f : Form) → laid_size e f ≤ form_size f
laid-less members f = omega arith
laid-less choices f = omega arith
laid-less options f = omega arith
laid-less nothing f = omega arith
laid-less one-process f = omega arith
laid-less one-member f = omega arith
laid-less heads f = omega arith

-- a declaration is no process
pub declaration-none : (names : List (List ℕ)) (x : OutlineLine) → is_declaration x ≡ true → process_size names x ≡ 0
unfolding form_size
declaration-none names (declare d) h = refl
declaration-none names skip h = absurd (false≢true h)
declaration-none names stop h = absurd (false≢true h)
declaration-none names (assign a e) h = absurd (false≢true h)
declaration-none names (input c a) h = absurd (false≢true h)
declaration-none names (output c e) h = absurd (false≢true h)
declaration-none names seq h = absurd (false≢true h)
declaration-none names par h = absurd (false≢true h)
declaration-none names ifs h = absurd (false≢true h)
declaration-none names alts h = absurd (false≢true h)
declaration-none names (while e) h = absurd (false≢true h)
declaration-none names (test e) h = absurd (false≢true h)
declaration-none names (guarded e c a) h = absurd (false≢true h)
declaration-none names (allowed e) h = absurd (false≢true h)

none-size : (b : Expect) (B : Form) → some nothing ≡ some b → Holds b B → form_size B ≡ 0
unfolding Holds form_size
none-size b B q h = subst (λ (o : Option Expect). Empty o) q (λ f e. rw e refl) B h
  where
    Empty : Option Expect → Type 0
    Empty none = Unit {0}
    Empty (some b) = (f : Form) → Holds b f → form_size f ≡ 0

module _ (names : List (List ℕ)) (x : OutlineLine) (b : Expect) (B L : Form) (p limit : ℕ) (h : Holds b B) where
  in_members : (t : Bool) → starts_block x ≡ t → if_else t (some nothing) (process_beneath x) ≡ some b → Holds (if_else t one-member members) L
      → p + form_size (if_else t (in_first names (declaration_in x) L) (row 40 (process_form names x B) L unused)) ≤ limit
      → (if_else t (suc p + form_size L) (suc p + process_size names x + form_size B + form_size L) ≤ limit) × (suc p + process_size names x + laid_size b B ≤ limit)
      × (if_else t (suc (suc p)) (suc p + process_size names x + form_size B) + laid_size (if_else t one-member members) L ≤ limit)
  unfolding Holds form_size
  in_members true s q (P, (N, e, i, j)) f =
      let (d, g) = declared x (starts-declares x s) in
      let z = declaration-none names x (starts-declares x s) in
      let y = none-size b B q h in
      let u = laid-less b B in
      let w : form_size (in_first names (declaration_in x) L) ≡ suc (suc (form_size P) + form_size N) = rw (g, e) (omega arith) in
      let v : form_size L ≡ suc (form_size P + form_size N) = rw e (omega arith) in
      (omega (arith, w, v, f), omega (arith, w, v, f, y, u, z), omega (arith, w, v, f))
  in_members false s q k f =
      let z = process-size names x B (bears x b B q h) in
      let u = laid-less b B in
      (omega (arith, z, f), omega (arith, z, f, u), omega (arith, z, f))

  in-member : (t : Bool) → starts_block x ≡ t → if_else t (some nothing) (process_beneath x) ≡ some b → Holds (if_else t one-member members) L
      → p + (form_size (if_else t (in_first names (declaration_in x) L) (row 40 (process_form names x B) L unused)) - 1) ≤ limit
      → (if_else t (p + form_size L) (p + process_size names x + form_size B + form_size L) ≤ limit) × (p + process_size names x + laid_size b B ≤ limit)
      × (if_else t (suc p) (p + process_size names x + form_size B) + laid_size (if_else t one-member members) L ≤ limit)
  unfolding Holds form_size
  in-member true s q (P, (N, e, i, j)) f =
      let (d, g) = declared x (starts-declares x s) in
      let z = declaration-none names x (starts-declares x s) in
      let y = none-size b B q h in
      let u = laid-less b B in
      let w : form_size (in_first names (declaration_in x) L) ≡ suc (suc (form_size P) + form_size N) = rw (g, e) (omega arith) in
      let v : form_size L ≡ suc (form_size P + form_size N) = rw e (omega arith) in
      (omega (arith, w, v, f), omega (arith, w, v, f, y, u, z), omega (arith, w, v, f))
  in-member false s q k f =
      let z = process-size names x B (bears x b B q h) in
      let u = laid-less b B in
      (omega (arith, z, f), omega (arith, z, f, u), omega (arith, z, f))

  in-process : (t : Bool) → starts_block x ≡ t → if_else t (some nothing) (process_beneath x) ≡ some b → Holds (if_else t one-process nothing) L
      → p + form_size (if_else t (block_form names (declaration_in x) L) (process_form names x B)) ≤ limit
      → (if_else t (suc p + form_size L) (p + process_size names x + form_size B) ≤ limit) × (p + process_size names x + laid_size b B ≤ limit)
      × (if_else t (suc p) (p + process_size names x + form_size B) + laid_size (if_else t one-process nothing) L ≤ limit)
  unfolding Holds form_size
  in-process true s q k f =
      let (d, g) = declared x (starts-declares x s) in
      let z = declaration-none names x (starts-declares x s) in
      let y = none-size b B q h in
      let u = laid-less b B in
      let w : form_size (block_form names (declaration_in x) L) ≡ suc (form_size L) = rw g (omega arith) in
      (omega (arith, w, f), omega (arith, w, f, y, u, z), omega (arith, w, f))
  in-process false s q k f =
      let z = process-size names x B (bears x b B q h) in
      let u = laid-less b B in
      let v : form_size L ≡ 0 = rw k refl in
      (omega (arith, z, f), omega (arith, z, f, u), omega (arith, z, f, v))

  in-heads : (t : Bool) → is_declaration x ≡ t → if_else t (some nothing) (process_beneath x) ≡ some b → Holds (if_else t heads nothing) L
      → p + form_size (if_else t L (process_form names x B)) ≤ limit
      → (if_else t (p + form_size L) (p + process_size names x + form_size B) ≤ limit) × (p + process_size names x + laid_size b B ≤ limit)
      × (if_else t p (p + process_size names x + form_size B) + laid_size (if_else t heads nothing) L ≤ limit)
  unfolding Holds form_size
  in-heads true s q k f =
      let z = declaration-none names x s in
      let y = none-size b B q h in
      let u = laid-less b B in
      (omega (arith, f), omega (arith, f, y, u, z), omega (arith, f))
  in-heads false s q k f =
      let z = process-size names x B (bears x b B q h) in
      let u = laid-less b B in
      let v : form_size L ≡ 0 = rw k refl in
      (omega (arith, z, f), omega (arith, z, f, u), omega (arith, z, f, v))

-- where a line's form ends, and the forms beneath it and after it
line-within : (names : List (List ℕ)) (e b : Expect) (x : OutlineLine) (B L : Form) (p limit : ℕ) → expected_beneath e x ≡ some b → Holds b B → Holds (expected_after e x) L
    → p + laid_size e (line_form names e x B L) ≤ limit
    → (line_end names e x p (form_size B) (form_size L) ≤ limit) × (row_beneath names e x p + laid_size b B ≤ limit) × (row_after names e x p (form_size B) + laid_size (expected_after e x) L ≤ limit)
unfolding expected_beneath expected_after form_size
line-within names members b x B L p limit q h k f = in_members names x b B L p limit h (starts_block x) refl q k f
line-within names choices b x B L p limit q h k f = let u = laid-less b B in (omega (arith, f), omega (arith, f, u), omega (arith, f))
line-within names options b x B L p limit q h k f = let u = laid-less b B in (omega (arith, f), omega (arith, f, u), omega (arith, f))
line-within names nothing b x B L p limit q h k f = absurd (none-ne-some b q)
line-within names one-process b x B L p limit q h k f = in-process names x b B L p limit h (starts_block x) refl q k f
line-within names one-member b x B L p limit q h k f = in-member names x b B L p limit h (starts_block x) refl q k f
line-within names heads b x B L p limit q h k f = in-heads names x b B L p limit h (is_declaration x) refl q k f

-- a block's declaration among members: its process and the members after it are no fewer than the latter
follows-some : (names : List (List ℕ)) (e : Expect) (L : Form) (r : ℕ) → e ≡ one-member → Holds e L → r ≡ form_size (field_b L) → (1 ≤ form_size L) × (r ≤ form_size L)
unfolding Holds form_size
follows-some names e L r c h q =
    let (P, (N, f, i, j)) = subst (λ (w : Expect). Holds w L) c h in
    let u : form_size L ≡ suc (form_size P + form_size N + 0) = ap form_size f in
    let v : form_size (field_b L) ≡ form_size N = ap (λ (g : Form). form_size (field_b g)) f in
    (omega (arith, u), omega (arith, u, v, q))

room-one : (names : List (List ℕ)) (limit : ℕ) (e : Expect) (l : ℕ) (x : OutlineLine) (ys : List Standing) (at : List ℕ) (b t : ℕ) → open_rows ys (suc l) ≡ b → open_rows ys l ≡ t
    → LineRoom names limit e x (get_or at l 0) b t (rest_rows (standing e l x ∷ ys)) → Room names limit ys (places_after names e l x b at) → Room names limit (standing e l x ∷ ys) at
unfolding Room
room-one names limit e l x ys at b t f g h k = rw (f, g) (h, k)

module _ (names : List (List ℕ)) (limit : ℕ) where
  -- the lines of a block write within a limit if its form ends within it
  block_room : {e : Expect} {l : ℕ} {ls : List Lined} {ps : Trees} → Block e l ls ps → AllSpelt ls → (at : List ℕ) → LevelsBelow (length at) ls → (k : Levels) → length k ≡ l → (rest : List Lined) → Above l rest
      → get_or at l 0 + laid_size e (trees_form names ps e) ≤ limit
      → ((to : List ℕ) → length to ≡ length at → ((i : ℕ) → i < l → get_or to i 0 ≡ get_or at i 0) → Room names limit (stand k rest) to)
      → Room names limit (stand (e ∷ k) (ls ++ rest)) at
  block_room (end {e} h) s at v k n rest a f z = subst (λ (ys : List Standing). Room names limit ys at) (sym (leaves e k rest h (rw n a))) (z at refl (λ i c. refl))
  block_room (more {e} {b} {l} {x} {ls} {ms} {ps} {qs} h p q) s at v k n rest a f z =
      let deep : suc l < length at = v (lined l x) (Memᴰ.head refl) in
      let later = expected_after e x in
      let B = trees_form names ps b in
      let L = trees_form names qs later in
      let s1 : AllSpelt ls = λ y m. s y (Memᴰ.tail (Memᴰ.append_left ms m)) in
      let s2 : AllSpelt ms = λ y m. s y (Memᴰ.tail (Memᴰ.append_right ls m)) in
      let ys = stand (b ∷ later ∷ k) (ls ++ (ms ++ rest)) in
      let i : stand (e ∷ k) (lined l x ∷ ((ls ++ ms) ++ rest)) ≡ standing e l x ∷ ys =
      enters e b l x k ((ls ++ ms) ++ rest) h n ∙ ap (λ (zs : List Lined). standing e l x ∷ stand (b ∷ later ∷ k) zs) (append_assoc ls ms rest) in
      let (o1, g) = block-open names p s1 (later ∷ k) (ap suc n) (ms ++ rest) (above-next q rest a) in
      let o2 : open_rows ys l ≡ form_size L = g l (omega arith) ∙ (block-open names q s2 k n rest a).0 in
      let at1 = places_after names e l x (form_size B) at in
      let n1 = places-length names e l x (form_size B) at in
      let h_l = block-holds names q s2 in
      let w = line-within names e b x B L (get_or at l 0) limit h (block-holds names p s1) h_l (subst (λ (c : Form). get_or at l 0 + laid_size e c ≤ limit) (first-form names e b x ps qs h) f) in
      let v1 : LevelsBelow (length at1) ls = λ y u. subst (λ (c : ℕ). LevelBelow c y) (sym n1) (v y (Memᴰ.tail (Memᴰ.append_left ms u))) in
      let room : LineRoom names limit e x (get_or at l 0) (form_size B) (form_size L) (rest_rows (standing e l x ∷ ys)) =
      record {
        beneath = b;
        stands = h;
        ends = w.0;
        follows = λ t c. follows-some names later L (rest_rows (standing e l x ∷ ys)) c h_l (rest-block e l x ys t ∙ ap rest_rows (block-next names e x t c h p q k n rest a) ∙ block-rest names q s2 k n rest a c);
      } in
      subst (λ (zs : List Standing). Room names limit zs at) (sym i)
      (room-one names limit e l x ys at (form_size B) (form_size L) o1 o2 room
      (block_room p s1 at1 v1 (later ∷ k) (ap suc n) (ms ++ rest) (above-next q rest a) (subst (λ (c : ℕ). c + laid_size b B ≤ limit) (sym (beneath-at names e l x (form_size B) at deep)) w.1)
      (λ to m g2.
      let v2 : LevelsBelow (length to) ms = λ y u. subst (λ (c : ℕ). LevelBelow c y) (sym (m ∙ n1)) (v y (Memᴰ.tail (Memᴰ.append_right ls u))) in
      block_room q s2 to v2 k n rest a
      (subst (λ (c : ℕ). c + laid_size later L ≤ limit) (sym (g2 l (omega arith) ∙ after-at names e l x (form_size B) at deep)) w.2)
      (λ fin m2 g3. z fin (m2 ∙ m ∙ n1) (λ j c. g3 j c ∙ g2 j (omega (arith, c)) ∙ above_at names e l x (form_size B) at j c)))))

-- the lines of a text write within a limit if its process ends within it
pub text-room : (names : List (List ℕ)) (limit : ℕ) (ls : List Lined) (ps : Trees) → Text ls ps → AllSpelt ls → (at : List ℕ) → LevelsBelow (length at) ls
    → get_or at 0 0 + form_size (trees_form names ps heads) ≤ limit → Room names limit (standings ls) at
unfolding standings Room expectations stand_all
text-room names limit ls ps t s at v f = subst (λ (zs : List Lined). Room names limit (stand (heads ∷ []) zs) at) (append-nil ls) (block_room names limit t s at v [] refl [] tt f (λ to m g. tt))
