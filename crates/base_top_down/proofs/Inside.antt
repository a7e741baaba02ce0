-- The rows beneath a row have the numbers after its own; so no two rows have one number.
use mathlib.Core.Path.{◌≡◌, refl, sym, ap, ◌∙◌, subst}
use mathlib.Core.Logic.{◌⊎◌, inl, inr}
use mathlib.Core.List.{List}
use mathlib.Core.Option.{none}
use Prim.Native.Nat.{ℕ, zero, suc, ◌+◌, ◌≤◌, ◌<◌}
use native.Mathlib.Decide.{dec_lt}
use native.Mathlib.Omega.{arith}
use lib.IntN.{ℤ, pos}
use Rattle.meaning.specs.Rows.{row_count}
use Rattle.meaning.specs.Kinds.{Field, unused, literal_value, within, elements, capacity, operator, variable, channel, reference, link}
use Rattle.meaning.specs.Declarations.{declarations}
use Rattle.meaning.specs.Verdict.{tree_fault}
use Rattle.meaning.specs.References.{Column, of-a, of-b, of_c, field_of, number_of, RefersBy, Refers, Beneath, direct, further}
use Rattle.meaning.proofs.Decides.{pos-injective}
use Rattle.base_top_down.specs.Forms.{Form, form_at, form_size, row_of_b, row_of_c}
use Rattle.base_top_down.specs.New.{item_of_row, child_row, New, at-root, at-child, NewOne, NewApart, BeneathInside}
use Rattle.base_top_down.proofs.Flat.{form_at-at}
use Rattle.base_top_down.proofs.Size.{root-there}
use Rattle.base_top_down.proofs.New.{fields-sum, referred-item, refers-bounds, root_before, refers-some, new-one}

some_size : (rows : List ℤ) (t : ℕ) → t < row_count rows → 0 < form_size (form_at rows t)
unfolding form_size
some_size rows t l = subst (λ (f : Form). 0 < form_size f) (sym (form_at-at rows t l)) (omega arith)

-- a field refers to one row
field-one : (rows : List ℤ) (r t : ℕ) (f : Field) (z : ℤ) → RefersBy rows r f z t → z ≡ pos t
unfolding RefersBy
field-one rows r t unused z h = absurd h
field-one rows r t literal_value z h = absurd h
field-one rows r t (within lo hi) z h = absurd h
field-one rows r t elements z h = absurd h
field-one rows r t capacity z h = absurd h
field-one rows r t operator z h = absurd h
field-one rows r t variable z h = absurd h
field-one rows r t (channel roles) z h = absurd h
field-one rows r t (reference kinds) z h = h.0
field-one rows r t (link kinds) z h = h.0

module _ (rows : List ℤ) where
  refers-one : (r t u : ℕ) (p : Column) → Refers rows r p t → Refers rows r p u → t ≡ u
  unfolding Refers
  refers-one r t u p a b = pos-injective (sym (field-one rows r t (field_of a.0 p) (number_of rows r p) a.2) ∙ field-one rows r u (field_of b.0 p) (number_of rows r p) b.2)

  -- the rows of what a row refers to are within its own
  child-inside : (r t m : ℕ) (p : Column) → Refers rows r p t → (m < child_row rows r p m) × (child_row rows r p m + form_size (form_at rows t) ≤ m + form_size (form_at rows r))
  child-inside r t m of-a w =
      let e = ap form_size (referred-item rows r t of-a w) in let b = refers-bounds rows r t of-a w in let l = b.0 in let h = b.1 in let s = fields-sum rows r (omega arith) in (omega arith, omega arith)
  child-inside r t m of-b w =
      let e = ap form_size (referred-item rows r t of-b w) in let b = refers-bounds rows r t of-b w in let l = b.0 in let h = b.1 in let s = fields-sum rows r (omega arith) in (omega arith, omega arith)
  child-inside r t m of_c w =
      let e = ap form_size (referred-item rows r t of_c w) in let b = refers-bounds rows r t of_c w in let l = b.0 in let h = b.1 in let s = fields-sum rows r (omega arith) in (omega arith, omega arith)

  inside : (r t m : ℕ) → New rows r m → Beneath rows r t → (n : ℕ) × New rows t n × (m < n) × (n + form_size (form_at rows t) ≤ m + form_size (form_at rows r)) × (t < row_count rows)
  inside r t m a (direct p w) = let c = child-inside r t m p w in (child_row rows r p m, at-child p a w, c.0, c.1, (refers-bounds rows r t p w).1)
  inside r t m a (further {s} p b w) =
      let i = inside r s m a b in
      let c = child-inside s t i.0 p w in
      let x = i.2 in
      let y = i.3 in
      (child_row rows s p i.0, at-child p i.1 w, omega (arith, c.0), omega (arith, c.1), (refers-bounds rows s t p w).1)

  -- a row, or one beneath it
  Under : ℕ → ℕ → Type 0
  Under r t = (t ≡ r) ⊎ Beneath rows r t

  deeper : (r s t : ℕ) (p : Column) → Under r s → Refers rows s p t → Beneath rows r t
  unfolding Under
  deeper r s t p (inl e) w = direct p (subst (λ (x : ℕ). Refers rows x p t) e w)
  deeper r s t p (inr b) w = further p b w

  top : (r t : ℕ) → Beneath rows r t → (p : Column) × (u : ℕ) × Refers rows r p u × Under u t
  unfolding Under
  top r t (direct p w) = (p, t, w, inl refl)
  top r t (further {s} p b w) = let i = top r s b in (i.0, i.1, i.2, inr (deeper i.1 s t p i.3 w))

  -- beneath what a row refers to is beneath it
  lift : (r u t : ℕ) (p : Column) → Refers rows r p u → Beneath rows u t → Beneath rows r t
  lift r u t p w (direct o v) = further o (direct p w) v
  lift r u t p w (further {s} o b v) = further o (lift r u s p w b) v

  from-root : (t m : ℕ) → New rows t m → Under (declarations rows) t
  unfolding Under
  from-root t m at-root = inl refl
  from-root t m (at-child {r} {m = i} p n w) = inr (deeper (declarations rows) r t p (from-root r i n) w)

  module _ (tree : tree_fault rows ≡ none) where
    range : (t m : ℕ) → New rows t m → (declarations rows ≤ t) × (t < row_count rows)
    range t m at-root = (omega arith, root-there rows tree)
    range t m (at-child {r} p n w) = (root_before rows r t p w, (refers-bounds rows r t p w).1)

    same_number : (t m n : ℕ) → New rows t m → New rows t n → m ≡ n
    unfolding NewOne
    same_number t m n a b = new-one rows tree t m n a b

    -- what is under a row, by its number
    span : (r t m x : ℕ) → New rows r m → Under r t → New rows t x → (m ≤ x) × (x < m + form_size (form_at rows r))
    unfolding Under
    span r t m x a (inl e) b =
        let i = same_number r m x a (subst (λ (y : ℕ). New rows y x) e b) in
        let s = some_size rows r (range r m a).1 in
        (omega arith, omega arith)
    span r t m x a (inr h) b =
        let i = inside r t m a h in
        let e = same_number t x i.0 b i.1 in
        let s = some_size rows t i.4 in
        let u = i.2 in
        let v = i.3 in
        (omega arith, omega arith)

    -- under one row, a number is that of one row
    Single : ℕ → ℕ → Type 0
    Single r m = (t u x : ℕ) → Under r t → Under r u → New rows t x → New rows u x → t ≡ u

    single : (k r m : ℕ) → row_count rows ≤ r + k → New rows r m → Single r m
    unfolding Single Under
    single zero r m h a t u x b c d e = let l = (range r m a).1 in absurd (omega arith)
    single (suc k) r m h a t u x b c d e = go b c (λ q i l n. single k q i l n t u x)
      where
        Deeper : Type 0
        Deeper = (q i : ℕ) → row_count rows ≤ q + k → New rows q i → Under q t → Under q u → New rows t x → New rows u x → t ≡ u

        -- two fields
        two : Deeper → (p o : Column) (v w : ℕ) → Refers rows r p v → Refers rows r o w → Under v t → Under w u → t ≡ u
        two f p o v w y z g i = by p o y z (span v t (child_row rows r p m) x (at-child p a y) g d) (span w u (child_row rows r o m) x (at-child o a z) i e) (ap form_size (referred-item rows r v p y)) (ap form_size (referred-item rows r w o z))
          where
            one : (p : Column) → Refers rows r p v → Refers rows r p w → t ≡ u
            one p y z =
                let b = refers-bounds rows r v p y in
                let l = b.0 in
                f v (child_row rows r p m) (omega arith) (at-child p a y) g (subst (λ (j : ℕ). Under j u) (sym (refers-one r v w p y z)) i) d e

            In : Column → ℕ → Type 0
            In p j = (child_row rows r p m ≤ x) × (x < child_row rows r p m + form_size (form_at rows j))

            Of : Column → ℕ → Type 0
            Of p j = form_size (item_of_row rows r p) ≡ form_size (form_at rows j)

            by : (p o : Column) → Refers rows r p v → Refers rows r o w → In p v → In o w → Of p v → Of o w → t ≡ u
            by of-a of-a y z g i q s = one of-a y z
            by of-b of-b y z g i q s = one of-b y z
            by of_c of_c y z g i q s = one of_c y z
            by of-a of-b y z g i q s = absurd (omega arith)
            by of-a of_c y z g i q s = absurd (omega arith)
            by of-b of-a y z g i q s = absurd (omega arith)
            by of-b of_c y z g i q s = absurd (omega arith)
            by of_c of-a y z g i q s = absurd (omega arith)
            by of_c of-b y z g i q s = absurd (omega arith)

        low : (y : ℕ) → Beneath rows r y → New rows y x → x ≡ m → ⊥
        low y g n q =
            let i = inside r y m a g in
            let j = same_number y x i.0 n i.1 in
            let l = i.2 in
            omega arith

        go : Under r t → Under r u → Deeper → t ≡ u
        go (inl y) (inl z) f = y ∙ sym z
        go (inl y) (inr z) f = absurd (low u z e (same_number r x m (subst (λ (j : ℕ). New rows j x) y d) a))
        go (inr y) (inl z) f = absurd (low t y d (same_number r x m (subst (λ (j : ℕ). New rows j x) z e) a))
        go (inr y) (inr z) f = let i = top r t y in let j = top r u z in two f i.0 j.0 i.1 j.1 i.2 j.2 i.3 j.3

    apart : (t u m : ℕ) → New rows t m → New rows u m → t ≡ u
    unfolding Single
    apart t u m a b = single (row_count rows) (declarations rows) (declarations rows) (omega arith) at-root t u m (from-root t m a) (from-root u m b) a b

    -- every number after a row's own, within its rows, is that of a row beneath it
    Found : ℕ → ℕ → Type 0
    Found r x = (t : ℕ) × New rows t x × Under r t

    found : (k r m : ℕ) → row_count rows ≤ r + k → New rows r m → (x : ℕ) → m ≤ x → x < m + form_size (form_at rows r) → Found r x
    unfolding Found Under
    found zero r m h a x i j = let l = (range r m a).1 in absurd (omega arith)
    found (suc k) r m h a x i j = go (λ q y l n z b c. found k q y l n z b c) (dec_lt m x) (dec_lt x (row_of_b m (item_of_row rows r of-a))) (dec_lt x (row_of_c m (item_of_row rows r of-a) (item_of_row rows r of-b)))
      where
        l : r < row_count rows
        l = (range r m a).1

        s : form_size (form_at rows r) ≡ suc (form_size (item_of_row rows r of-a) + form_size (item_of_row rows r of-b) + form_size (item_of_row rows r of_c))
        s = fields-sum rows r (range r m a).1

        Deeper : Type 0
        Deeper = (q y : ℕ) → row_count rows ≤ q + k → New rows q y → (z : ℕ) → y ≤ z → z < y + form_size (form_at rows q) → Found q z

        up : (p : Column) (u t : ℕ) → Refers rows r p u → (t ≡ u) ⊎ Beneath rows u t → Beneath rows r t
        up p u t w (inl e) = direct p (subst (Refers rows r p) (sym e) w)
        up p u t w (inr b) = lift r u t p w b

        inner : Deeper → (p : Column) → child_row rows r p m ≤ x → x < child_row rows r p m + form_size (item_of_row rows r p) → Found r x
        inner f p b c =
            let w = refers-some rows tree r p (range r m a).0 (range r m a).1 (omega arith) in
            let q = refers-bounds rows r w.0 p w.1 in
            let e = ap form_size (referred-item rows r w.0 p w.1) in
            let v = q.0 in
            let z = f w.0 (child_row rows r p m) (omega arith) (at-child p a w.1) x b (omega arith) in
            (z.0, z.1, inr (up p w.0 z.0 w.1 z.2))

        go : Deeper → Dec (m < x) → Dec (x < row_of_b m (item_of_row rows r of-a)) → Dec (x < row_of_c m (item_of_row rows r of-a) (item_of_row rows r of-b)) → Found r x
        go f (no b) c d = let e : m ≡ x = omega arith in (r, subst (New rows r) e a, inl refl)
        go f (yes b) (yes c) d = inner f of-a b c
        go f (yes b) (no c) (yes d) = inner f of-b (omega arith) d
        go f (yes b) (no c) (no d) = inner f of_c (omega arith) (omega (arith, s))

    into : (r t m n : ℕ) → New rows r m → New rows t n → Beneath rows r t → (m < n) × (n < m + form_size (form_at rows r))
    into r t m n a b h =
        let i = inside r t m a h in
        let e = same_number t n i.0 b i.1 in
        let s = some_size rows t i.4 in
        let u = i.2 in
        let v = i.3 in
        (omega arith, omega arith)

    back : (r t m n : ℕ) → New rows r m → New rows t n → m < n → n < m + form_size (form_at rows r) → Beneath rows r t
    unfolding Found Under
    back r t m n a b h i = let f = found (row_count rows) r m (omega arith) a n (omega arith) i in go f.0 f.1 f.2
      where
        go : (u : ℕ) → New rows u n → (u ≡ r) ⊎ Beneath rows r u → Beneath rows r t
        go u c (inl e) = let q = same_number r m n a (subst (λ (j : ℕ). New rows j n) e c) in absurd (omega arith)
        go u c (inr g) = subst (Beneath rows r) (apart u t n c b) g

pub beneath-inside : BeneathInside
unfolding BeneathInside
beneath-inside rows e r t m n a b = (into rows e r t m n a b, λ h. back rows e r t m n a b h.0 h.1)

pub new_apart : NewApart
unfolding NewApart
new_apart = apart
