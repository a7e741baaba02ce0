-- What the entries of a row's kind do to sizes and numbers, in a table in which the stages 4 and 5 find nothing.
use mathlib.Core.Path.{◌≡◌, refl, sym, ap, ◌∙◌, subst}
use mathlib.Core.Logic.{inl, inr}
use mathlib.Core.Bool.{Bool, true, false}
use mathlib.Core.List.{List}
use mathlib.Core.Option.{Option, none, some, none-ne-some, some-injective}
use Prim.Native.Nat.{ℕ, suc, ◌+◌, ◌≤◌, ◌<◌}
use native.Mathlib.Decide.{dec_lt}
use native.Mathlib.Omega.{arith}
use lib.IntN.{ℤ, pos}
use lib.Dec.{ltb, eqb}
use lib.ListN.{length, get_or, set, length-set, get_or-eq_default}
use lib.Seq.{set_out, get_or-set_same, get_or-set_other}
use Rattle.meaning.specs.Basics.{if_else}
use Rattle.meaning.specs.Rows.{natural_of, row_count, kind_at}
use Rattle.meaning.specs.Kinds as M
use Rattle.meaning.specs.Kinds.{Field, unused, literal_value, within, elements, capacity, operator, variable, channel, reference, link, shape_of}
use Rattle.meaning.specs.Declarations.{declarations}
use Rattle.meaning.specs.References.{Column, of-a, of-b, of_c, field_of, number_of, IsTarget, RefersBy, IsOf, Refers}
use Rattle.meaning.specs.Faults.{Leads}
use Rattle.base_kinds.specs.declared.Shape.{Shape}
use Rattle.base_kinds.specs.Table as K
use Rattle.base_kinds.specs.Table.{meant_shape}
use Rattle.base_top_down.specs.Forms.{Form, absent, is_reference, or_plain, shape_for, referred, item_of, form_at, form_size}
use Rattle.base_top_down.specs.New.{FormPassed, Sizes, item_of_row, child_row, New, at-child, RightAt, Numbered}
use Rattle.base_top_down.proofs.Flat.{above}
use Rattle.base_top_down.proofs.Good.{RightRow, right-row}
use Rattle.base_top_down.proofs.New.{fields-sum, number-within, stands}
use Rattle.base_numbering.specs.Fields.{held_in, placed_in}
use Rattle.base_numbering.specs.Arrays.{numbered_field, numbered_row}

abbrev pub entry_of : Shape → Column → ℕ
entry_of s of-a = s.a
entry_of s of-b = s.b
entry_of s of_c = s.c

-- entries that mean a shape
meant : (k : ℕ) (s : Shape) (u : M.Shape) → meant_shape k s ≡ some u → (p : Column) → field_of u p ≡ K.field_meant (entry_of s p)
unfolding meant_shape
meant k s u = go (eqb s.a 10)
  where
    is : M.Shape
    is = M.shape k (K.field_meant s.a) (K.field_meant s.b) (K.field_meant s.c)

    go : (b : Bool) → if_else b none (some is) ≡ some u → (p : Column) → field_of u p ≡ K.field_meant (entry_of s p)
    go true e p = absurd (none-ne-some u e)
    go false e of-a = ap (λ (w : M.Shape). w.a) (sym (some-injective is u e))
    go false e of-b = ap (λ (w : M.Shape). w.b) (sym (some-injective is u e))
    go false e of_c = ap (λ (w : M.Shape). w.c) (sym (some-injective is u e))

-- a number that is set for row u, where its form stands
set_keeps : (rows : List ℤ) (numbers : List ℕ) (v u : ℕ) → New rows u v → (t : ℕ) → RightAt rows numbers t → RightAt rows (set numbers u v) t
unfolding RightAt
set_keeps rows numbers v u h t g = go (dec_lt t u) (dec_lt u t) (dec_lt u (length numbers))
  where
    other : (t ≡ u → ⊥) → New rows t (get_or (set numbers u v) t 0)
    other n = subst (New rows t) (sym (get_or-set_other numbers u t v 0 n)) g

    go : Dec (t < u) → Dec (u < t) → Dec (u < length numbers) → New rows t (get_or (set numbers u v) t 0)
    go (yes x) y z = other (λ e. omega arith)
    go (no x) (yes y) z = other (λ e. omega arith)
    go (no x) (no y) (yes z) =
        let e : u ≡ t = omega arith in
        subst (λ (j : ℕ). New rows j (get_or (set numbers u v) j 0)) e (subst (New rows u) (sym (get_or-set_same numbers u v 0 z)) h)
    go (no x) (no y) (no z) = subst (λ (y : List ℕ). New rows t (get_or y t 0)) (sym (set_out numbers u v (omega arith))) g

pub set_new : (rows : List ℤ) (numbers : List ℕ) (v u : ℕ) → New rows u v → u < length numbers → RightAt rows (set numbers u v) u
unfolding RightAt
set_new rows numbers v u h l = subst (New rows u) (sym (get_or-set_same numbers u v 0 l)) h

refers-is : (rows : List ℤ) (r t : ℕ) (f : Field) (z : ℤ) → RefersBy rows r f z t → (is_reference f ≡ true) × (z ≡ pos t) × (t < row_count rows)
unfolding RefersBy is_reference
refers-is rows r t unused z h = absurd h
refers-is rows r t literal_value z h = absurd h
refers-is rows r t (within lo hi) z h = absurd h
refers-is rows r t elements z h = absurd h
refers-is rows r t capacity z h = absurd h
refers-is rows r t operator z h = absurd h
refers-is rows r t variable z h = absurd h
refers-is rows r t (channel roles) z h = absurd h
refers-is rows r t (reference kinds) z h = (refl, h.0, h.1.1)
refers-is rows r t (link kinds) z h = (refl, h.0, h.1.1)

module _ (rows : List ℤ) (sound : FormPassed rows) (r : ℕ) (d : declarations rows ≤ r) (l : r < row_count rows) (k : ℕ) (i : k ≡ kind_at rows r) (s : Shape) (e : meant_shape k s ≡ shape_of k) where
  abbrev at : ℕ → Form
  at t = if_else (ltb r t) (form_at rows t) absent

  -- a field of the row, with its entry
  pub data Known (p : Column) : Type 0 where
    known : (u : M.Shape) → IsOf rows r u → K.field_meant (entry_of s p) ≡ field_of u p → Leads rows r (field_of u p) (number_of rows r p) → Known p

  pub knows : (p : Column) → Known p
  unfolding RightRow
  knows p =
      let w = right-row rows sound.form sound.tree r d l in
      known w.1.0 w.1.1 (sym (meant k s w.1.0 (e ∙ ap shape_of i ∙ w.1.1) p)) (w.1.2 p).1

  -- sizes
  held-child : (kinds : List ℕ) (z : ℤ) (sizes : List ℕ) → Sizes rows (suc r) sizes → (t : ℕ) × (z ≡ pos t) × IsTarget rows r kinds t → get_or sizes (natural_of z) 0 ≡ form_size (referred at z)
  held-child kinds z sizes w h =
      subst (λ (y : ℤ). get_or sizes (natural_of y) 0 ≡ form_size (referred at y)) (sym h.1)
      (w.right h.0 h.2.0 h.2.1 ∙ ap form_size (sym (above rows r h.0 h.2.0)))

  held-field : (f : Field) (z : ℤ) (sizes : List ℕ) → Sizes rows (suc r) sizes → Leads rows r f z → held_in sizes (is_reference f) z ≡ form_size (item_of at (is_reference f) z)
  unfolding is_reference Leads form_size
  held-field unused z sizes w h = refl
  held-field literal_value z sizes w h = refl
  held-field (within lo hi) z sizes w h = refl
  held-field elements z sizes w h = refl
  held-field capacity z sizes w h = refl
  held-field operator z sizes w h = refl
  held-field variable z sizes w h = refl
  held-field (channel roles) z sizes w h = refl
  held-field (reference kinds) z sizes w h = held-child kinds z sizes w h
  held-field (link kinds) z sizes w (inl h) = subst (λ (y : ℤ). get_or sizes (natural_of y) 0 ≡ form_size (referred at y)) (sym h) (let q = w.short in get_or-eq_default sizes 0 (omega arith))
  held-field (link kinds) z sizes w (inr h) = held-child kinds z sizes w h

  pub held-size : (sizes : List ℕ) → Sizes rows (suc r) sizes → (p : Column) → held_in sizes (is_reference (K.field_meant (entry_of s p))) (number_of rows r p) ≡ form_size (item_of_row rows r p)
  held-size sizes w p = go (knows p)
    where
      go : Known p → held_in sizes (is_reference (K.field_meant (entry_of s p))) (number_of rows r p) ≡ form_size (item_of_row rows r p)
      go (known u x y h) =
          ap (λ (g : Field). held_in sizes (is_reference g) (number_of rows r p)) y
          ∙ held-field (field_of u p) (number_of rows r p) sizes w h
          ∙ ap (λ (o : Option M.Shape). form_size (item_of at (is_reference (field_of (or_plain o) p)) (number_of rows r p))) (sym x)

  -- numbers
  keep-child : (z : ℤ) (numbers : List ℕ) (v u : ℕ) → New rows u v → z ≡ pos u → (t : ℕ) → RightAt rows numbers t → RightAt rows (set numbers (natural_of z) v) t
  keep-child z numbers v u h e t g = subst (λ (y : ℤ). RightAt rows (set numbers (natural_of y) v) t) (sym e) (set_keeps rows numbers v u h t g)

  keep-field : (f : Field) (z : ℤ) (numbers : List ℕ) (v : ℕ) → length numbers ≤ 1024 → ((u : ℕ) → RefersBy rows r f z u → New rows u v) → Leads rows r f z → (t : ℕ) → RightAt rows numbers t → RightAt rows (placed_in numbers (is_reference f) z v) t
  unfolding is_reference Leads RefersBy
  keep-field unused z numbers v q h w t g = g
  keep-field literal_value z numbers v q h w t g = g
  keep-field (within lo hi) z numbers v q h w t g = g
  keep-field elements z numbers v q h w t g = g
  keep-field capacity z numbers v q h w t g = g
  keep-field operator z numbers v q h w t g = g
  keep-field variable z numbers v q h w t g = g
  keep-field (channel roles) z numbers v q h w t g = g
  keep-field (reference kinds) z numbers v q h w t g = keep-child z numbers v w.0 (h w.0 (w.1, w.2)) w.1 t g
  keep-field (link kinds) z numbers v q h (inl w) t g =
      subst (λ (y : ℤ). RightAt rows (set numbers (natural_of y) v) t) (sym w) (subst (λ (y : List ℕ). RightAt rows y t) (sym (set_out numbers 4294967295 v (omega arith))) g)
  keep-field (link kinds) z numbers v q h (inr w) t g = keep-child z numbers v w.0 (h w.0 (w.1, w.2)) w.1 t g

  -- v is the number of the row that field p refers to, if it does so
  abbrev Given : Column → ℕ → Type 0
  Given p v = (u : ℕ) → Refers rows r p u → New rows u v

  -- a field's number keeps what is right
  place-keeps : (p : Column) (numbers : List ℕ) (v : ℕ) → length numbers ≤ 1024 → Given p v → (t : ℕ) → RightAt rows numbers t → RightAt rows (placed_in numbers (is_reference (K.field_meant (entry_of s p))) (number_of rows r p) v) t
  unfolding Refers
  place-keeps p numbers v q h t g = go (knows p)
    where
      go : Known p → RightAt rows (placed_in numbers (is_reference (K.field_meant (entry_of s p))) (number_of rows r p) v) t
      go (known u x y w) =
          subst (λ (j : Field). RightAt rows (placed_in numbers (is_reference j) (number_of rows r p) v) t) (sym y)
          (keep-field (field_of u p) (number_of rows r p) numbers v q (λ o b. h o (u, x, b)) w t g)

  -- and is right for the row that it refers to
  place-new : (p : Column) (numbers : List ℕ) (v : ℕ) → row_count rows ≤ length numbers → Given p v → (t : ℕ) → Refers rows r p t → RightAt rows (placed_in numbers (is_reference (K.field_meant (entry_of s p))) (number_of rows r p) v) t
  unfolding Refers
  place-new p numbers v q h t w =
      let x = refers-is rows r t (field_of w.0 p) (number_of rows r p) w.2 in
      let y = meant k s w.0 (e ∙ ap shape_of i ∙ w.1) p in
      let n = x.2 in
      subst (λ (b : Bool). RightAt rows (placed_in numbers b (number_of rows r p) v) t) (sym x.0 ∙ ap is_reference y)
      (subst (λ (z : ℤ). RightAt rows (set numbers (natural_of z) v) t) (sym x.1) (set_new rows numbers v t (h t w) (omega arith)))

  -- the numbers of all three fields
  abbrev placed : Column → List ℕ → ℕ → List ℕ
  placed p numbers v = placed_in numbers (is_reference (K.field_meant (entry_of s p))) (number_of rows r p) v

  placed-length : (p : Column) (numbers : List ℕ) (v : ℕ) → length (placed p numbers v) ≡ length numbers
  placed-length p numbers v = go (is_reference (K.field_meant (entry_of s p)))
    where
      go : (b : Bool) → length (placed_in numbers b (number_of rows r p) v) ≡ length numbers
      go true = length-set numbers (natural_of (number_of rows r p)) v
      go false = refl

  pub numbered : (numbers : List ℕ) (va vb vc : ℕ) → row_count rows ≤ length numbers → length numbers ≤ 1024 → RightAt rows numbers r
      → va ≡ get_or numbers r 0 + 1 → vb ≡ va + form_size (item_of_row rows r of-a) → vc ≡ vb + form_size (item_of_row rows r of-b)
      → Numbered rows r numbers (placed of_c (placed of-b (placed of-a numbers va) vb) vc)
  unfolding RightAt
  numbered numbers va vb vc q h g x y z =
      record { long = ec ∙ eb ∙ ea; kept = λ t i. kc t (kb t (ka t i)); given = new }
    where
      na : List ℕ
      na = placed of-a numbers va

      nb : List ℕ
      nb = placed of-b na vb

      ea : length na ≡ length numbers
      ea = placed-length of-a numbers va

      eb : length nb ≡ length na
      eb = placed-length of-b na vb

      ec : length (placed of_c nb vc) ≡ length nb
      ec = placed-length of_c nb vc

      la : Given of-a va
      la u w = let c = at-child of-a g w in subst (New rows u) (omega arith) c

      lb : Given of-b vb
      lb u w = let c = at-child of-b g w in subst (New rows u) (omega arith) c

      lc : Given of_c vc
      lc u w = let c = at-child of_c g w in subst (New rows u) (omega arith) c

      ka : (t : ℕ) → RightAt rows numbers t → RightAt rows na t
      ka = place-keeps of-a numbers va h la

      kb : (t : ℕ) → RightAt rows na t → RightAt rows nb t
      kb = place-keeps of-b na vb (omega (arith, ea)) lb

      kc : (t : ℕ) → RightAt rows nb t → RightAt rows (placed of_c nb vc) t
      kc = place-keeps of_c nb vc (omega (arith, ea, eb)) lc

      new : (p : Column) (t : ℕ) → Refers rows r p t → RightAt rows (placed of_c nb vc) t
      new of-a t w = kc t (kb t (place-new of-a numbers va q la t w))
      new of-b t w = kc t (place-new of-b na vb (omega (arith, ea)) lb t w)
      new of_c t w = place-new of_c nb vc (omega (arith, ea, eb)) lc t w

  -- and they are those that the row gives
  field-same : (p : Column) → is_reference (K.field_meant (entry_of s p)) ≡ is_reference (field_of (shape_for (kind_at rows r)) p)
  field-same p = go (knows p)
    where
      go : Known p → is_reference (K.field_meant (entry_of s p)) ≡ is_reference (field_of (shape_for (kind_at rows r)) p)
      go (known u x y h) = ap is_reference y ∙ ap (λ (o : Option M.Shape). is_reference (field_of (or_plain o) p)) (sym x)

  placed_same : (p : Column) {numbers numbers' : List ℕ} {v v' : ℕ} → numbers ≡ numbers' → v ≡ v' → placed p numbers v ≡ numbered_field rows r p v' numbers'
  placed_same p e f = λ j. placed_in (e j) (field-same p j) (number_of rows r p) (f j)

  pub numbered-row : (numbers : List ℕ) (va vb vc : ℕ) → va ≡ get_or numbers r 0 + 1 → vb ≡ va + form_size (item_of_row rows r of-a) → vc ≡ vb + form_size (item_of_row rows r of-b)
      → placed of_c (placed of-b (placed of-a numbers va) vb) vc ≡ numbered_row rows r numbers
  unfolding numbered_row
  numbered-row numbers va vb vc x y z =
      let a : va ≡ child_row rows r of-a (get_or numbers r 0) = omega arith in
      let b : vb ≡ child_row rows r of-b (get_or numbers r 0) = omega arith in
      let c : vc ≡ child_row rows r of_c (get_or numbers r 0) = omega arith in
      placed_same of_c (placed_same of-b (placed_same of-a {numbers = numbers} {numbers' = numbers} refl a) b) c

  -- which all fit
  pub number-room : (numbers : List ℕ) → RightAt rows numbers r → get_or numbers r 0 + 1 + form_size (item_of_row rows r of-a) + form_size (item_of_row rows r of-b) ≤ 1024
  unfolding RightAt
  number-room numbers g =
      let w = number-within rows sound.tree r (get_or numbers r 0) l (stands rows r (get_or numbers r 0) g) in
      let q = fields-sum rows r l in
      let n = sound.few in
      omega arith
