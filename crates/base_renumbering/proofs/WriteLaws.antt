-- What is written for a row is what stands at its new number in the table that is numbered top down.
use mathlib.Core.Path.{◌≡◌, refl, sym, ap, ◌∙◌, subst}
use mathlib.Core.Logic.{inl, inr}
use mathlib.Core.Bool.{Bool, true, false≢true}
use mathlib.Core.List.{List, ◌++◌}
use mathlib.Core.Option.{Option, some, none-ne-some}
use Prim.Native.Nat.{ℕ, zero, suc, ◌+◌, ◌*◌, ◌/◌, ◌%◌, ◌≤◌, ◌<◌}
use native.Mathlib.Decide.{dec_lt}
use native.Mathlib.Omega.{arith}
use lib.IntN.{ℤ, pos, negsuc}
use lib.Dec.{ltb}
use borrow.Author.Tests.{lt-ltb, le-ltb}
use lib.ListN.{length, get_or, set, take, length-set, length-take, get_or-append, get_or-eq_default}
use Rattle.std.proofs.lemmas.List.{get_or-take}
use lib.Seq.{set_out, get_or-set_same, get_or-set_other, ext_get_or}
use Rattle.meaning.specs.Basics.{if_else}
use Rattle.meaning.specs.Rows.{natural_of, row_count, field_at, kind_at}
use Rattle.meaning.specs.Kinds as M
use Rattle.meaning.specs.Kinds.{Field, unused, literal_value, within, elements, capacity, operator, variable, channel, reference, link, shapes, shape_in, shape_of}
use Rattle.meaning.specs.Declarations.{declarations}
use Rattle.meaning.specs.References.{Column, of-a, of-b, of_c, field_of, number_of, RefersBy, Refers}
use Rattle.meaning.specs.Faults.{Leads}
use Rattle.base_kinds.specs.declared.Shape.{Shape}
use Rattle.base_kinds.specs.Table as K
use Rattle.base_kinds.specs.Table.{meant_shape}
use Rattle.base_top_down.specs.Forms.{Form, absent, is_reference, or_plain, referred, item_of, form_at, form_size, written_field, top_down}
use Rattle.base_top_down.specs.Laid.{Laid, SameCount}
use Rattle.base_top_down.specs.New.{FormPassed, item_of_row, child_row, New, at-child, RightAt, Numbers, NewOne, NewOnto, RightNumber, Wrote}
use Rattle.base_top_down.proofs.Flat.{above, form_at-at}
use Rattle.base_top_down.proofs.Again.{declared-number, top_down-count, top_down-length}
use Rattle.base_top_down.proofs.Good.{RightRow, right-row}
use Rattle.base_top_down.proofs.New.{stands, number-within, new-one, new-onto, refers-bounds}
use Rattle.base_top_down.proofs.Size.{same_count}
use Rattle.base_renumbering.specs.Written.{renumbered_in, set_four}
use Rattle.base_numbering.proofs.RowLaws.{entry_of, Known, known, knows}

-- a right number set
module _ (rows out : List ℤ) (q : ℕ) (v : ℤ) (e : v ≡ get_or (top_down rows) q (pos 0)) where
  pub set_keeps : (p : ℕ) → RightNumber rows out p → RightNumber rows (set out q v) p
  unfolding RightNumber
  set_keeps p h = go (dec_lt p q) (dec_lt q p) (dec_lt q (length out))
    where
      go : Dec (p < q) → Dec (q < p) → Dec (q < length out) → get_or (set out q v) p (pos 0) ≡ get_or (top_down rows) p (pos 0)
      go (yes x) y z = get_or-set_other out q p v (pos 0) (λ i. omega arith) ∙ h
      go (no x) (yes y) z = get_or-set_other out q p v (pos 0) (λ i. omega arith) ∙ h
      go (no x) (no y) (yes z) = let i : q ≡ p = omega arith in subst (λ (j : ℕ). get_or (set out q v) j (pos 0) ≡ get_or (top_down rows) j (pos 0)) i (get_or-set_same out q v (pos 0) z ∙ e)
      go (no x) (no y) (no z) = ap (λ (l : List ℤ). get_or l p (pos 0)) (set_out out q v (omega arith)) ∙ h

  pub set_new : q < length out → RightNumber rows (set out q v) q
  unfolding RightNumber
  set_new h = get_or-set_same out q v (pos 0) h ∙ e

-- the numbers of the declarations, copied before others
pub copied : (rows rest : List ℤ) (n : ℕ) → n ≤ length rows → (p : ℕ) → p < n → p < 4 * declarations rows → RightNumber rows (take n rows ++ rest) p
unfolding RightNumber
copied rows rest n h p l d = get_or-append (take n rows) rest (pos 0) p (simp length-take (omega arith)) ∙ get_or-take n rows p (pos 0) l ∙ sym (declared-number rows p d)

-- four of them
four : (rows out : List ℤ) (m : ℕ) (k a b c : ℤ) → 4 * m + 3 < length out → k ≡ field_at (top_down rows) m 0 → a ≡ field_at (top_down rows) m 1 → b ≡ field_at (top_down rows) m 2 → c ≡ field_at (top_down rows) m 3 → Wrote rows m out (set_four out (4 * m) k a b c)
four rows out m k a b c h ek ea eb ec = record { long = lc ∙ lb ∙ la ∙ lk; kept = λ p i. kc p (kb p (ka p (kk p i))); given = new }
  where
    P : ℕ
    P = 4 * m

    T : List ℤ
    T = top_down rows

    zeroth : k ≡ get_or T P (pos 0)
    zeroth = ek ∙ ap (λ (x : ℕ). get_or T x (pos 0)) (omega arith)

    ok : List ℤ
    ok = set out (4 * m) k

    oa : List ℤ
    oa = set ok (4 * m + 1) a

    ob : List ℤ
    ob = set oa (4 * m + 2) b

    oc : List ℤ
    oc = set ob (4 * m + 3) c

    lk : length ok ≡ length out
    lk = length-set out (4 * m) k

    la : length oa ≡ length ok
    la = length-set ok (4 * m + 1) a

    lb : length ob ≡ length oa
    lb = length-set oa (4 * m + 2) b

    lc : length oc ≡ length ob
    lc = length-set ob (4 * m + 3) c

    kk : (p : ℕ) → RightNumber rows out p → RightNumber rows ok p
    kk = set_keeps rows out (4 * m) k zeroth

    ka : (p : ℕ) → RightNumber rows ok p → RightNumber rows oa p
    ka = set_keeps rows ok (4 * m + 1) a ea

    kb : (p : ℕ) → RightNumber rows oa p → RightNumber rows ob p
    kb = set_keeps rows oa (4 * m + 2) b eb

    kc : (p : ℕ) → RightNumber rows ob p → RightNumber rows oc p
    kc = set_keeps rows ob (4 * m + 3) c ec

    new : (j : ℕ) → j < 4 → RightNumber rows oc (4 * m + j)
    new zero l = let i : 4 * m ≡ 4 * m + 0 = omega arith in subst (RightNumber rows oc) i (kc (4 * m) (kb (4 * m) (ka (4 * m) (set_new rows out (4 * m) k zeroth (omega arith)))))
    new (suc zero) l = kc (4 * m + 1) (kb (4 * m + 1) (set_new rows ok (4 * m + 1) a ea (omega (arith, lk))))
    new (suc (suc zero)) l = kc (4 * m + 2) (set_new rows oa (4 * m + 2) b eb (omega (arith, lk, la)))
    new (suc (suc (suc zero))) l = set_new rows ob (4 * m + 3) c ec (omega (arith, lk, la, lb))
    new (suc (suc (suc (suc j)))) l = absurd (omega arith)

-- a known kind is no negative number
kind-is : (z : ℤ) (u : M.Shape) → shape_of (natural_of z) ≡ some u → pos (natural_of z) ≡ z
unfolding shape_of shape_in shapes
kind-is (pos n) u e = refl
kind-is (negsuc n) u e = absurd (none-ne-some u e)

-- a form that stands at a row is written as that row
written_row : (rows : List ℤ) (v t : ℕ) → t < row_count rows → written_field v (form_at rows t) ≡ pos v
written_row rows v t l = ap (written_field v) (form_at-at rows t l)

some_size : (rows : List ℤ) (t : ℕ) → t < row_count rows → 0 < form_size (form_at rows t)
unfolding form_size
some_size rows t l = subst (λ (f : Form). 0 < form_size f) (sym (form_at-at rows t l)) (omega arith)

child-small : (rows : List ℤ) → FormPassed rows → (r : ℕ) (numbers : List ℕ) → ((t : ℕ) → declarations rows ≤ t → t < row_count rows → get_or numbers t 0 < row_count rows) → (z : ℤ) (t : ℕ) → z ≡ pos t → r < t → t < row_count rows → declarations rows ≤ r → get_or numbers (natural_of z) 0 < 2147483648
child-small rows sound r numbers f z t e a b d =
    subst (λ (y : ℤ). get_or numbers (natural_of y) 0 < 2147483648) (sym e) (let h = f t (omega arith) b in let n = sound.few in omega arith)

module _ (rows : List ℤ) (sound : FormPassed rows) (r : ℕ) (d : declarations rows ≤ r) (l : r < row_count rows) (k : ℕ) (i : k ≡ kind_at rows r) (s : Shape) (e : meant_shape k s ≡ shape_of k) (numbers : List ℕ) (w : Numbers rows numbers) where
  abbrev at : ℕ → Form
  at t = if_else (ltb r t) (form_at rows t) absent

  abbrev m : ℕ
  m = get_or numbers r 0

  is-new : (t : ℕ) → declarations rows ≤ t → t < row_count rows → New rows t (get_or numbers t 0)
  unfolding RightAt
  is-new t a b = w.right t a b

  small : (t : ℕ) → declarations rows ≤ t → t < row_count rows → get_or numbers t 0 < row_count rows
  small t a b =
      let h = number-within rows sound.tree t (get_or numbers t 0) b (stands rows t (get_or numbers t 0) (is-new t a b)) in
      let q = some_size rows t b in
      omega arith

  pub row_small : m < row_count rows
  row_small = small r d l

  -- the numbers of the rows referred to fit
  field-small : (f : Field) (z : ℤ) → Leads rows r f z → is_reference f ≡ true → get_or numbers (natural_of z) 0 < 2147483648
  unfolding is_reference Leads
  field-small unused z h x = absurd (false≢true x)
  field-small literal_value z h x = absurd (false≢true x)
  field-small (within lo hi) z h x = absurd (false≢true x)
  field-small elements z h x = absurd (false≢true x)
  field-small capacity z h x = absurd (false≢true x)
  field-small operator z h x = absurd (false≢true x)
  field-small variable z h x = absurd (false≢true x)
  field-small (channel roles) z h x = absurd (false≢true x)
  field-small (reference kinds) z h x = child-small rows sound r numbers small z h.0 h.1 h.2.0 h.2.1 d
  field-small (link kinds) z (inl h) x =
      subst (λ (y : ℤ). get_or numbers (natural_of y) 0 < 2147483648) (sym h) (let q = w.short in let g = get_or-eq_default numbers 0 {n = 4294967295} (omega arith) in omega arith)
  field-small (link kinds) z (inr h) x = child-small rows sound r numbers small z h.0 h.1 h.2.0 h.2.1 d

  pub number_small : (p : Column) → is_reference (K.field_meant (entry_of s p)) ≡ true → get_or numbers (natural_of (number_of rows r p)) 0 < 2147483648
  number_small p x = go (knows rows sound r d l k i s e p)
    where
      go : Known rows sound r d l k i s e p → get_or numbers (natural_of (number_of rows r p)) 0 < 2147483648
      go (known u a b h) = field-small (field_of u p) (number_of rows r p) h (ap is_reference (sym b) ∙ x)

  -- what is written for a field
  child-written : (z : ℤ) (v t : ℕ) → z ≡ pos t → r < t → t < row_count rows → get_or numbers t 0 ≡ v → written_field v (referred at z) ≡ renumbered_in numbers true z
  child-written z v t x a b y =
      subst (λ (o : ℤ). written_field v (referred at o) ≡ renumbered_in numbers true o) (sym x)
      (ap (written_field v) (above rows r t a) ∙ written_row rows v t b ∙ ap pos (sym y)
      ∙ ap (λ (c : Bool). if_else c (pos (get_or numbers t 0)) (pos t)) (sym (lt-ltb t (length numbers) (let q = w.room in omega arith))))

  field-written : (f : Field) (z : ℤ) (v : ℕ) → Leads rows r f z → ((t : ℕ) → RefersBy rows r f z t → get_or numbers t 0 ≡ v) → written_field v (item_of at (is_reference f) z) ≡ renumbered_in numbers (is_reference f) z
  unfolding is_reference Leads RefersBy
  field-written unused z v h x = refl
  field-written literal_value z v h x = refl
  field-written (within lo hi) z v h x = refl
  field-written elements z v h x = refl
  field-written capacity z v h x = refl
  field-written operator z v h x = refl
  field-written variable z v h x = refl
  field-written (channel roles) z v h x = refl
  field-written (reference kinds) z v h x = child-written z v h.0 h.1 h.2.0 h.2.1 (x h.0 (h.1, h.2))
  field-written (link kinds) z v (inl h) x =
      subst (λ (o : ℤ). written_field v (referred at o) ≡ renumbered_in numbers true o) (sym h)
      (ap (λ (c : Bool). if_else c (pos (get_or numbers 4294967295 0)) (negsuc 0)) (sym (le-ltb 4294967295 (length numbers) (let q = w.short in omega arith))))
  field-written (link kinds) z v (inr h) x = child-written z v h.0 h.1 h.2.0 h.2.1 (x h.0 (h.1, h.2))

  item-written : (p : Column) → written_field (child_row rows r p m) (item_of_row rows r p) ≡ renumbered_in numbers (is_reference (K.field_meant (entry_of s p))) (number_of rows r p)
  unfolding NewOne Refers
  item-written p = go (knows rows sound r d l k i s e p)
    where
      go : Known rows sound r d l k i s e p → written_field (child_row rows r p m) (item_of_row rows r p) ≡ renumbered_in numbers (is_reference (K.field_meant (entry_of s p))) (number_of rows r p)
      go (known u a b h) =
          ap (λ (o : Option M.Shape). written_field (child_row rows r p m) (item_of at (is_reference (field_of (or_plain o) p)) (number_of rows r p))) a
          ∙ field-written (field_of u p) (number_of rows r p) (child_row rows r p m) h
          (λ t x. let q = refers-bounds rows r t p (u, a, x) in let g = q.0 in
          new-one rows sound.tree t (get_or numbers t 0) (child_row rows r p m) (is-new t (omega arith) q.1) (at-child p (is-new r d l) (u, a, x)))
          ∙ ap (λ (g : Field). renumbered_in numbers (is_reference g) (number_of rows r p)) (sym b)

  -- the row as it stands in the new table
  here : Laid (top_down rows) m (form_at rows r)
  here = stands rows r m (is-new r d l)

  pub wrote : (out : List ℤ) (z a b c : ℤ) → length out ≡ 4 * row_count rows
      → z ≡ field_at rows r 0
      → a ≡ renumbered_in numbers (is_reference (K.field_meant s.a)) (field_at rows r 1)
      → b ≡ renumbered_in numbers (is_reference (K.field_meant s.b)) (field_at rows r 2)
      → c ≡ renumbered_in numbers (is_reference (K.field_meant s.c)) (field_at rows r 3)
      → Wrote rows m out (set_four out (4 * m) z a b c)
  unfolding Laid RightRow
  wrote out z a b c h ez ea eb ec =
      let q = row_small in
      let n = subst (Laid (top_down rows) m) (form_at-at rows r l) here in
      let u = right-row rows sound.form sound.tree r d l in
      four rows out m z a b c (omega arith)
      (ez ∙ sym (kind-is (field_at rows r 0) u.1.0 u.1.1) ∙ sym n.0.1)
      (ea ∙ sym (item-written of-a) ∙ sym n.0.2)
      (eb ∙ sym (item-written of-b) ∙ sym n.0.3)
      (ec ∙ sym (item-written of_c) ∙ sym n.0.4)

-- when the declarations and all rows are written, so is the table
pub whole : (rows : List ℤ) → FormPassed rows → (numbers : List ℕ) → Numbers rows numbers → (out : List ℤ) → length out ≡ 4 * row_count rows
    → ((p : ℕ) → p < 4 * declarations rows → RightNumber rows out p)
    → ((q : ℕ) → declarations rows ≤ q → q < row_count rows → (j : ℕ) → j < 4 → RightNumber rows out (4 * get_or numbers q 0 + j))
    → out ≡ top_down rows
unfolding RightNumber RightAt NewOne NewOnto SameCount
whole rows sound numbers w out h f g =
    let c = top_down-count rows in
    let s = same_count rows sound.tree in
    let n = top_down-length rows in
    ext_get_or (pos 0) out (top_down rows) (omega arith) each
  where
    each : (p : ℕ) → p < length out → get_or out p (pos 0) ≡ get_or (top_down rows) p (pos 0)
    each p l = go (dec_lt p (4 * declarations rows))
      where
        go : Dec (p < 4 * declarations rows) → get_or out p (pos 0) ≡ get_or (top_down rows) p (pos 0)
        go (yes a) = f p a
        go (no a) =
            let t = new-onto rows sound.tree (p / 4) (omega arith) (omega arith) in
            let e = new-one rows sound.tree t.0 (get_or numbers t.0 0) (p / 4) (w.right t.0 t.2 t.3) t.1 in
            let i : 4 * get_or numbers t.0 0 + p % 4 ≡ p = omega arith in
            subst (λ (x : ℕ). get_or out x (pos 0) ≡ get_or (top_down rows) x (pos 0)) i (g t.0 t.2 t.3 (p % 4) (omega arith))

-- the rows below r are written
abbrev pub WrittenTo : List ℤ → List ℕ → ℕ → List ℤ → Type 0
WrittenTo rows numbers r out = (q : ℕ) → declarations rows ≤ q → q < r → (j : ℕ) → j < 4 → RightNumber rows out (4 * get_or numbers q 0 + j)

pub written-more : (rows : List ℤ) (numbers : List ℕ) (r : ℕ) (before after : List ℤ) → WrittenTo rows numbers r before → Wrote rows (get_or numbers r 0) before after → WrittenTo rows numbers (r + 1) after
written-more rows numbers r before after f w q d l j h = go (dec_lt q r)
  where
    go : Dec (q < r) → RightNumber rows after (4 * get_or numbers q 0 + j)
    go (yes a) = w.kept (4 * get_or numbers q 0 + j) (f q d a j h)
    go (no a) = let e : r ≡ q = omega arith in subst (λ (x : ℕ). RightNumber rows after (4 * get_or numbers x 0 + j)) e (w.given j h)
