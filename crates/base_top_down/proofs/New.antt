-- Where the form of each row stands in the table that is numbered top down: beneath the form of the row that refers to it.
use mathlib.Core.Path.{◌≡◌, refl, sym, ap, ◌∙◌, subst}
use mathlib.Core.Logic.{inl, inr}
use mathlib.Core.List.{List}
use mathlib.Core.Option.{Option, none, some}
use Prim.Native.Nat.{ℕ, zero, suc, ◌+◌, ◌≤◌, ◌<◌}
use native.Mathlib.Decide.{dec_lt}
use native.Mathlib.Omega.{arith}
use lib.IntN.{ℤ}
use lib.Dec.{ltb}
use Rattle.meaning.specs.Basics.{if_else}
use Rattle.meaning.specs.Rows.{row_count, kind_at}
use Rattle.meaning.specs.Kinds.{Field, unused, literal_value, within, elements, capacity, operator, variable, channel, reference, link, Shape, shape_of}
use Rattle.meaning.specs.Declarations.{declarations, root}
use Rattle.meaning.specs.Verdict.{tree_fault}
use Rattle.meaning.specs.References.{Column, of-a, of-b, of_c, field_of, number_of, RefersBy, IsOf, Refers}
use Rattle.meaning.specs.Faults.{Leads, Once, WellPlaced, Placed}
use Rattle.meaning.proofs.ReferenceCounts.{bounds}
use Rattle.meaning.proofs.OneTreeLaw.{declared, declares-only}
use Rattle.base_top_down.specs.Forms.{Form, absent, number, row, is_reference, or_plain, referred, item_of, form_at, form_size, row_of_b, row_of_c, form_of, top_down}
use Rattle.base_top_down.specs.Laid.{Laid, SameCount, SizeIsCount}
use Rattle.base_top_down.specs.New.{item_of_row, child_row, New, at-root, at-child, NewStands, NewEach, NewOne, NewOnto}
use Rattle.base_top_down.proofs.Flat.{above, form_at-at}
use Rattle.base_top_down.proofs.Again.{top_down-laid}
use Rattle.base_top_down.proofs.Stages.{well-placed}
use Rattle.base_top_down.proofs.Size.{same_count, size-is-count}

-- a form that is laid out ends within the rows
pub laid-within : (rows : List ℤ) (n : ℕ) (f : Form) → n ≤ row_count rows → Laid rows n f → n + form_size f ≤ row_count rows
unfolding Laid form_size
laid-within rows n absent h l = omega arith
laid-within rows n (number z) h l = omega arith
laid-within rows n (row k a b c) h l =
    let i = l.0.0 in
    let x = laid-within rows (suc n) a (omega arith) l.1.0.0 in
    let y = laid-within rows (row_of_b n a) b x l.1.0.1 in
    let z = laid-within rows (row_of_c n a b) c y l.1.1 in
    omega arith

module _ (rows : List ℤ) where
  -- a row's form is laid out as its fields are
  pub fields_laid : (T : List ℤ) (r m : ℕ) → r < row_count rows → Laid T m (form_at rows r)
      → (m < row_count T) × Laid T (suc m) (item_of_row rows r of-a) × Laid T (row_of_b m (item_of_row rows r of-a)) (item_of_row rows r of-b) × Laid T (row_of_c m (item_of_row rows r of-a) (item_of_row rows r of-b)) (item_of_row rows r of_c)
  unfolding Laid
  fields_laid T r m l h = let w = subst (Laid T m) (form_at-at rows r l) h in (w.0.0, w.1.0.0, w.1.0.1, w.1.1)

  -- and its size is the sum of theirs
  pub fields-sum : (r : ℕ) → r < row_count rows → form_size (form_at rows r) ≡ suc (form_size (item_of_row rows r of-a) + form_size (item_of_row rows r of-b) + form_size (item_of_row rows r of_c))
  unfolding form_size
  fields-sum r l = ap form_size (form_at-at rows r l)

  -- a field that refers to row t holds its form
  refers-item : (r t : ℕ) (f : Field) (z : ℤ) → RefersBy rows r f z t → item_of (λ t. if_else (ltb r t) (form_at rows t) absent) (is_reference f) z ≡ form_at rows t
  unfolding RefersBy is_reference
  refers-item r t unused z h = absurd h
  refers-item r t literal_value z h = absurd h
  refers-item r t (within lo hi) z h = absurd h
  refers-item r t elements z h = absurd h
  refers-item r t capacity z h = absurd h
  refers-item r t operator z h = absurd h
  refers-item r t variable z h = absurd h
  refers-item r t (channel roles) z h = absurd h
  refers-item r t (reference kinds) z h = ap (referred (λ t. if_else (ltb r t) (form_at rows t) absent)) h.0 ∙ above rows r t h.1.0
  refers-item r t (link kinds) z h = ap (referred (λ t. if_else (ltb r t) (form_at rows t) absent)) h.0 ∙ above rows r t h.1.0

  pub referred-item : (r t : ℕ) (p : Column) → Refers rows r p t → item_of_row rows r p ≡ form_at rows t
  unfolding Refers
  referred-item r t p h =
      subst (λ (o : _). item_of (λ t. if_else (ltb r t) (form_at rows t) absent) (is_reference (field_of (or_plain o) p)) (number_of rows r p) ≡ form_at rows t) (sym h.1)
      (refers-item r t (field_of h.0 p) (number_of rows r p) h.2)

  child-stands : (T : List ℤ) (r t m : ℕ) (p : Column) → r < row_count rows → Laid T m (form_at rows r) → Refers rows r p t → Laid T (child_row rows r p m) (form_at rows t)
  child-stands T r t m of-a l h w = let f = fields_laid T r m l h in subst (Laid T (suc m)) (referred-item r t of-a w) f.1
  child-stands T r t m of-b l h w = let f = fields_laid T r m l h in subst (Laid T (row_of_b m (item_of_row rows r of-a))) (referred-item r t of-b w) f.2
  child-stands T r t m of_c l h w = let f = fields_laid T r m l h in subst (Laid T (row_of_c m (item_of_row rows r of-a) (item_of_row rows r of-b))) (referred-item r t of_c w) f.3

  pub refers-bounds : (r t : ℕ) (p : Column) → Refers rows r p t → (r < t) × (t < row_count rows)
  unfolding Refers
  refers-bounds r t p w = bounds rows t r (field_of w.0 p) (number_of rows r p) w.2

  pub root_before : (r t : ℕ) (p : Column) → Refers rows r p t → declarations rows ≤ t
  root_before r t p w = go (dec_lt r (declarations rows))
    where
      go : Dec (r < declarations rows) → declarations rows ≤ t
      go (yes h) = absurd (declares-only rows r p t (declared rows r h) w)
      go (no h) = let b = refers-bounds r t p w in omega arith

  pub stands : (t m : ℕ) → New rows t m → Laid (top_down rows) m (form_at rows t)
  unfolding form_of root
  stands t m at-root = top_down-laid rows
  stands t m (at-child {r} {m = i} p n w) = let b = refers-bounds r t p w in child-stands (top_down rows) r t i p (omega arith) (stands r i n) w

  module _ (tree : tree_fault rows ≡ none) where
    -- a row after the root is referred to by a row from the root on
    pub referrer : (t : ℕ) → declarations rows < t → t < row_count rows → (q : ℕ) × (p : Column) × (Refers rows q p t) × (declarations rows ≤ q) × (q < t)
    unfolding WellPlaced Placed Once Refers
    referrer t d l =
        let w = ((well-placed rows tree t (omega arith)).1 (omega arith, l)).3 (λ e. omega arith) in
        let b = bounds rows t w.0 (field_of w.2.0 w.1) (number_of rows w.0 w.1) w.2.2 in
        (w.0, w.1, w.2, after w.0 w.1 w.2 (dec_lt w.0 (declarations rows)), b.0)
      where
        after : (q : ℕ) (p : Column) → Refers rows q p t → Dec (q < declarations rows) → declarations rows ≤ q
        after q p w (yes h) = absurd (declares-only rows q p t (declared rows q h) w)
        after q p w (no h) = omega arith

    each : (k r : ℕ) → r < k → declarations rows ≤ r → r < row_count rows → (m : ℕ) × New rows r m
    each zero r h d l = absurd (omega arith)
    each (suc k) r h d l = go (dec_lt (declarations rows) r) (λ q i. each k q i)
      where
        go : Dec (declarations rows < r) → ((q : ℕ) → q < k → declarations rows ≤ q → q < row_count rows → (m : ℕ) × New rows q m) → (m : ℕ) × New rows r m
        go (no i) f = let e : declarations rows ≡ r = omega arith in (declarations rows, subst (λ (q : ℕ). New rows q (declarations rows)) e at-root)
        go (yes i) f =
            let w = referrer r i l in
            let b = w.4 in
            let s = f w.0 (omega arith) w.3 (omega arith) in
            (_, at-child w.1 s.1 w.2)

    -- it ends within the rows, and so no form has more rows than the table
    pub number-within : (r m : ℕ) → r < row_count rows → Laid (top_down rows) m (form_at rows r) → m + form_size (form_at rows r) ≤ row_count rows
    unfolding SameCount
    number-within r m l h =
        let f = fields_laid (top_down rows) r m l h in
        let i = f.0 in
        let w = laid-within (top_down rows) m (form_at rows r) (omega arith) h in
        let c = same_count rows tree in
        omega arith

    pub size-within : (r : ℕ) → declarations rows ≤ r → r < row_count rows → form_size (form_at rows r) ≤ row_count rows
    size-within r d l = let s = each (suc r) r (omega arith) d l in let w = number-within r s.0 l (stands r s.0 s.1) in omega arith

pub new-stands : NewStands
unfolding NewStands
new-stands = stands

pub new-each : NewEach
unfolding NewEach
new-each rows e r d l = each rows e (suc r) r (omega arith) d l

-- One number ----------------------------------------------------------------------------------------------------------------------

module _ (rows : List ℤ) where
  data Comes (t m : ℕ) : Type 0 where
    root-comes : t ≡ declarations rows → m ≡ declarations rows → Comes t m
    child-comes : (r i : ℕ) (p : Column) → New rows r i → Refers rows r p t → m ≡ child_row rows r p i → Comes t m

  comes : (t m : ℕ) → New rows t m → Comes t m
  comes t m at-root = root-comes refl refl
  comes t m (at-child {r} {m = i} p n w) = child-comes r i p n w refl

  module _ (tree : tree_fault rows ≡ none) where
    not_root : (r t : ℕ) (p : Column) → Refers rows r p t → t ≡ declarations rows → ⊥
    unfolding WellPlaced Placed
    not_root r t p w e =
        let b = refers-bounds rows r t p w in
        let l = b.1 in
        ((well-placed rows tree t (omega arith)).1 (omega arith, l)).2 e r p w

    only : (r q t : ℕ) (p o : Column) → Refers rows r p t → Refers rows q o t → (r ≡ q) × (p ≡ o)
    unfolding WellPlaced Placed Once
    only r q t p o w v =
        let b = refers-bounds rows r t p w in
        let l = b.1 in
        let f = root_before rows r t p w in
        let u = ((well-placed rows tree t (omega arith)).1 (f, l)).3 (not_root r t p w) in
        ((u.3 r p w).0 ∙ sym (u.3 q o v).0, (u.3 r p w).1 ∙ sym (u.3 q o v).1)

    one : (k t m n : ℕ) → t < k → New rows t m → New rows t n → m ≡ n
    one zero t m n h a b = absurd (omega arith)
    one (suc k) t m n h a b = go (comes t m a) (comes t n b) (λ r i j l x y. one k r i j l x y)
      where
        go : Comes t m → Comes t n → ((r i j : ℕ) → r < k → New rows r i → New rows r j → i ≡ j) → m ≡ n
        go (root-comes d e) (root-comes f g) u = e ∙ sym g
        go (root-comes d e) (child-comes r i p x w g) u = absurd (not_root r t p w d)
        go (child-comes r i p x w g) (root-comes d e) u = absurd (not_root r t p w d)
        go (child-comes r i p x w g) (child-comes q j o y v f) u =
            let c = only r q t p o w v in
            let l = (refers-bounds rows r t p w).0 in
            let e = u r i j (omega arith) x (subst (λ (z : ℕ). New rows z j) (sym c.0) y) in
            g ∙ (λ d. child_row rows (c.0 d) (c.1 d) (e d)) ∙ sym f

-- Every number --------------------------------------------------------------------------------------------------------------------

module _ (rows : List ℤ) (tree : tree_fault rows ≡ none) where
  -- a field that holds rows refers to one
  field-some : (r : ℕ) (f : Field) (z : ℤ) → Leads rows r f z → 0 < form_size (item_of (λ t. if_else (ltb r t) (form_at rows t) absent) (is_reference f) z) → (t : ℕ) × RefersBy rows r f z t
  unfolding Leads is_reference form_size RefersBy
  field-some r unused z h l = absurd (omega arith)
  field-some r literal_value z h l = absurd (omega arith)
  field-some r (within lo hi) z h l = absurd (omega arith)
  field-some r elements z h l = absurd (omega arith)
  field-some r capacity z h l = absurd (omega arith)
  field-some r operator z h l = absurd (omega arith)
  field-some r variable z h l = absurd (omega arith)
  field-some r (channel roles) z h l = absurd (omega arith)
  field-some r (reference kinds) z h l = (h.0, (h.1, h.2))
  field-some r (link kinds) z (inl e) l =
      let n = subst (λ (y : ℤ). 0 < form_size (referred (λ t. if_else (ltb r t) (form_at rows t) absent) y)) e l in absurd (omega arith)
  field-some r (link kinds) z (inr h) l = (h.0, (h.1, h.2))

  pub refers-some : (r : ℕ) (p : Column) → declarations rows ≤ r → r < row_count rows → 0 < form_size (item_of_row rows r p) → (t : ℕ) × Refers rows r p t
  unfolding WellPlaced Placed Refers is_reference form_size
  refers-some r p d l h = go (shape_of (kind_at rows r)) refl h
    where
      leads : (s : Shape) → IsOf rows r s → (p : Column) → Leads rows r (field_of s p) (number_of rows r p)
      leads = ((well-placed rows tree r (omega arith)).1 (d, l)).0

      go : (o : Option Shape) → shape_of (kind_at rows r) ≡ o → 0 < form_size (item_of (λ t. if_else (ltb r t) (form_at rows t) absent) (is_reference (field_of (or_plain o) p)) (number_of rows r p)) → (t : ℕ) × Refers rows r p t
      go none e i = absurd (plain p i)
        where
          plain : (p : Column) → 0 < form_size (item_of (λ t. if_else (ltb r t) (form_at rows t) absent) (is_reference (field_of (or_plain none) p)) (number_of rows r p)) → ⊥
          plain of-a i = omega arith
          plain of-b i = omega arith
          plain of_c i = omega arith
      go (some s) e i = let w = field-some r (field_of s p) (number_of rows r p) (leads s e p) i in (w.0, (s, e, w.1))

  Found : ℕ → Type 0
  Found x = (t : ℕ) × New rows t x × (declarations rows ≤ t) × (t < row_count rows)

  -- the numbers that the rows beneath row r get are those after its own
  onto : (k r m : ℕ) → row_count rows ≤ r + k → declarations rows ≤ r → r < row_count rows → New rows r m → (x : ℕ) → m ≤ x → x < m + form_size (form_at rows r) → Found x
  unfolding Found
  onto zero r m h d l n x i j = absurd (omega arith)
  onto (suc k) r m h d l n x i j = go (λ t q a b c v y z. onto k t q a b c v y z) (dec_lt m x) (dec_lt x (row_of_b m (item_of_row rows r of-a))) (dec_lt x (row_of_c m (item_of_row rows r of-a) (item_of_row rows r of-b)))
    where
      s : form_size (form_at rows r) ≡ suc (form_size (item_of_row rows r of-a) + form_size (item_of_row rows r of-b) + form_size (item_of_row rows r of_c))
      s = fields-sum rows r l

      Deeper : Type 0
      Deeper = (t q : ℕ) → row_count rows ≤ t + k → declarations rows ≤ t → t < row_count rows → New rows t q → (y : ℕ) → q ≤ y → y < q + form_size (form_at rows t) → Found y

      inner : Deeper → (p : Column) → child_row rows r p m ≤ x → x < child_row rows r p m + form_size (item_of_row rows r p) → Found x
      inner f p a b =
          let w = refers-some r p d l (omega arith) in
          let q = refers-bounds rows r w.0 p w.1 in
          let e = ap form_size (referred-item rows r w.0 p w.1) in
          let v = q.0 in
          f w.0 (child_row rows r p m) (omega arith) (omega arith) q.1 (at-child p n w.1) x a (omega arith)

      go : Deeper → Dec (m < x) → Dec (x < row_of_b m (item_of_row rows r of-a)) → Dec (x < row_of_c m (item_of_row rows r of-a) (item_of_row rows r of-b)) → Found x
      go f (no a) b c = let e : m ≡ x = omega arith in (r, subst (New rows r) e n, d, l)
      go f (yes a) (yes b) c = inner f of-a a b
      go f (yes a) (no b) (yes c) = inner f of-b (omega arith) c
      go f (yes a) (no b) (no c) = inner f of_c (omega arith) (omega (arith, s))

  all_found : (x : ℕ) → declarations rows ≤ x → x < row_count rows → Found x
  unfolding SizeIsCount form_of root
  all_found x d l =
      let s = size-is-count rows tree in
      onto (row_count rows) (declarations rows) (declarations rows) (omega arith) (omega arith) (omega arith) at-root x d (omega arith)

pub new-one : NewOne
unfolding NewOne
new-one rows e t m n a b = one rows e (suc t) t m n (omega arith) a b

pub new-onto : NewOnto
unfolding NewOnto Found
new-onto rows e m d l = all_found rows e m d l
