-- The form of a table in which stage 5 finds nothing has a row for each row after the declarations: sizes summed over rows, and over references.
use mathlib.Core.Path.{◌≡◌, refl, sym, ap, ap₂, ◌∙◌, subst}
use mathlib.Core.Logic.{◌⊎◌, inl, inr}
use mathlib.Core.Bool.{Bool}
use mathlib.Core.List.{List, [], ◌∷◌, ◌++◌}
use mathlib.Core.Option.{Option, none, some, some-injective}
use Prim.Native.Nat.{ℕ, zero, suc, ◌+◌, ◌-◌, ◌*◌, ◌≤◌, ◌<◌}
use native.Mathlib.Decide.{dec_lt}
use native.Mathlib.Omega.{arith}
use lib.IntN.{ℤ, pos}
use lib.Dec.{ltb, eqb}
use Rattle.meaning.specs.Basics.{if_else}
use Rattle.meaning.specs.Rows.{row_count, field_at, kind_at}
use Rattle.meaning.specs.Declarations.{declarations, root, sum_below}
use Rattle.meaning.specs.Kinds.{Field, unused, literal_value, within, elements, capacity, operator, variable, channel, reference, link, Shape, shapes, shape_in, shape_of}
use Rattle.meaning.specs.Verdict.{tree_fault, target_of, target, targets_by, targets, targets_below, occurrences}
use Rattle.meaning.specs.References.{Column, of-a, of-b, of_c, field_of, number_of, IsTarget, IsOf, Refers}
use Rattle.meaning.specs.Faults.{Leads, WellPlaced, Placed}
use Rattle.meaning.proofs.Decides.{Decides, holding, failing, decides-lt, decides_eq}
use Rattle.meaning.proofs.ReferenceCounts.{decides-target, bounds, Never, count-all, never-zero, once-one}
use Rattle.meaning.proofs.OneTreeLaw.{declared, declares-only}
use Rattle.base_top_down.specs.Forms.{Form, absent, is_reference, or_plain, referred, item_of, form_at, form_size, form_of}
use Rattle.base_top_down.specs.Laid.{SizeIsCount, SameCount}
use Rattle.base_top_down.proofs.Flat.{above, form_at-at, form_at-past}
use Rattle.base_top_down.proofs.Again.{declarations-le, top_down-count}
use Rattle.base_top_down.proofs.Stages.{well-placed, no-targets-below}

-- Sums --------------------------------------------------------------------------------------------------------------------------

-- the sum of g over a list
sum_over : (ℕ → ℕ) → List ℕ → ℕ
sum_over g [] = 0
sum_over g (u ∷ us) = g u + sum_over g us

sum_over-append : (g : ℕ → ℕ) (l m : List ℕ) → sum_over g (l ++ m) ≡ sum_over g l + sum_over g m
unfolding sum_over
sum_over-append g [] m = omega arith
sum_over-append g (u ∷ l) m = let h = sum_over-append g l m in omega arith

-- of one more occurrence of u
pick : (g h : ℕ → ℕ) (u n : ℕ) → sum_below (λ t. (if_else (eqb t u) 1 0 + h t) * g t) n ≡ if_else (ltb u n) (g u) 0 + sum_below (λ t. h t * g t) n
unfolding sum_below
pick g h u zero = go (decides-lt u 0)
  where
    go : {b : Bool} → Decides (u < 0) b → 0 ≡ if_else b (g u) 0 + 0
    go (holding l) = absurd (omega arith)
    go (failing l) = refl
pick g h u (suc n) = go (decides_eq n u) (decides-lt u n) (decides-lt u (suc n)) (pick g h u n)
  where
    go : {x y z : Bool} → Decides (n ≡ u) x → Decides (u < n) y → Decides (u < suc n) z
        → sum_below (λ t. (if_else (eqb t u) 1 0 + h t) * g t) n ≡ if_else y (g u) 0 + sum_below (λ t. h t * g t) n
        → sum_below (λ t. (if_else (eqb t u) 1 0 + h t) * g t) n + (if_else x 1 0 + h n) * g n ≡ if_else z (g u) 0 + (sum_below (λ t. h t * g t) n + h n * g n)
    go (holding a) (holding b) c e = absurd (omega arith)
    go (holding a) (failing b) (holding c) e = let i = ap g a in omega arith
    go (holding a) (failing b) (failing c) e = absurd (omega arith)
    go (failing a) (holding b) (holding c) e = omega arith
    go (failing a) (holding b) (failing c) e = absurd (omega arith)
    go (failing a) (failing b) (holding c) e = absurd (omega arith)
    go (failing a) (failing b) (failing c) e = omega arith

no-sum : (g : ℕ → ℕ) (n : ℕ) → sum_below (λ t. 0 * g t) n ≡ 0
unfolding sum_below
no-sum g zero = refl
no-sum g (suc n) = let h = no-sum g n in omega arith

-- over a list, and over all numbers by how often each is in it
weighed : (g : ℕ → ℕ) (n : ℕ) → ((t : ℕ) → n ≤ t → g t ≡ 0) → (l : List ℕ) → sum_over g l ≡ sum_below (λ t. occurrences t l * g t) n
unfolding sum_over occurrences
weighed g n z [] = sym (no-sum g n)
weighed g n z (u ∷ us) = ap₂ (λ (x y : ℕ). x + y) (go (decides-lt u n)) (weighed g n z us) ∙ sym (pick g (λ t. occurrences t us) u n)
  where
    go : {b : Bool} → Decides (u < n) b → g u ≡ if_else b (g u) 0
    go (holding l) = refl
    go (failing l) = z u (omega arith)

-- Sizes -------------------------------------------------------------------------------------------------------------------------

module _ (rows : List ℤ) where
  abbrev size : ℕ → ℕ
  size t = form_size (form_at rows t)

  size-past : (t : ℕ) → row_count rows ≤ t → size t ≡ 0
  unfolding form_size
  size-past t h = ap form_size (form_at-past rows t h)

  module _ (r : ℕ) where
    abbrev at : ℕ → Form
    at t = if_else (ltb r t) (form_at rows t) absent

    child-size : (kinds : List ℕ) (z : ℤ) → (t : ℕ) × (z ≡ pos t) × IsTarget rows r kinds t → form_size (referred at z) ≡ sum_over size (target_of rows r kinds z)
    unfolding sum_over
    child-size kinds z h = subst (λ (y : ℤ). form_size (referred at y) ≡ sum_over size (target_of rows r kinds y)) (sym h.1) (go (decides-target rows r kinds h.0))
      where
        go : {b : Bool} → Decides (IsTarget rows r kinds h.0) b → form_size (at h.0) ≡ sum_over size (if_else b (h.0 ∷ []) [])
        go (holding i) = let e = ap form_size (above rows r h.0 h.2.0) in omega arith
        go (failing i) = absurd (i h.2)

    field-size : (f : Field) (z : ℤ) → Leads rows r f z → form_size (item_of at (is_reference f) z) ≡ sum_over size (target rows r f z)
    unfolding is_reference Leads target sum_over form_size
    field-size unused z h = refl
    field-size literal_value z h = refl
    field-size (within lo hi) z h = refl
    field-size elements z h = refl
    field-size capacity z h = refl
    field-size operator z h = refl
    field-size variable z h = refl
    field-size (channel roles) z h = refl
    field-size (reference kinds) z h = child-size kinds z h
    field-size (link kinds) z (inl e) = subst (λ (y : ℤ). form_size (referred at y) ≡ sum_over size (target_of rows r kinds y)) (sym e) refl
    field-size (link kinds) z (inr h) = child-size kinds z h

    item-size : Field → ℕ → ℕ
    item-size f j = form_size (item_of at (is_reference f) (field_at rows r j))

    row-size : r < row_count rows → ((s : Shape) → IsOf rows r s → (p : Column) → Leads rows r (field_of s p) (number_of rows r p)) → size r ≡ suc (sum_over size (targets rows r))
    unfolding form_size item-size is_reference sum_over
    row-size l h = ap form_size (form_at-at rows r l) ∙ go (shape_of (kind_at rows r)) refl
      where
        go : (o : Option Shape) → shape_of (kind_at rows r) ≡ o → suc (item-size (or_plain o).a 1 + item-size (or_plain o).b 2 + item-size (or_plain o).c 3) ≡ suc (sum_over size (targets_by rows r o))
        go none e = refl
        go (some s) e =
            let a = field-size s.a (field_at rows r 1) (h s e of-a) in
            let b = field-size s.b (field_at rows r 2) (h s e of-b) in
            let c = field-size s.c (field_at rows r 3) (h s e of_c) in
            let ta = target rows r s.a (field_at rows r 1) in
            let tb = target rows r s.b (field_at rows r 2) in
            let tc = target rows r s.c (field_at rows r 3) in
            let p = sum_over-append size (ta ++ tb) tc in
            let q = sum_over-append size ta tb in
            omega arith

  -- the references of a declaration, of which there are none, lead to where they may
  leads-by : (r : ℕ) (s : Shape) (p : Column) (k : ℕ) (u : Shape) → kind_at rows r ≡ k → shape_of k ≡ some u → IsOf rows r s → Leads rows r (field_of u p) (number_of rows r p) → Leads rows r (field_of s p) (number_of rows r p)
  leads-by r s p k u e j i h = subst (λ (w : Shape). Leads rows r (field_of w p) (number_of rows r p)) (some-injective u s (sym j ∙ ap shape_of (sym e) ∙ i)) h

  declared-leads : (r : ℕ) → (kind_at rows r ≡ 1) ⊎ (kind_at rows r ≡ 2) → (s : Shape) → IsOf rows r s → (p : Column) → Leads rows r (field_of s p) (number_of rows r p)
  unfolding shape_of shape_in shapes Leads
  declared-leads r (inl e) s i of-a = leads-by r s of-a 1 _ e refl i tt
  declared-leads r (inl e) s i of-b = leads-by r s of-b 1 _ e refl i tt
  declared-leads r (inl e) s i of_c = leads-by r s of_c 1 _ e refl i tt
  declared-leads r (inr e) s i of-a = leads-by r s of-a 2 _ e refl i tt
  declared-leads r (inr e) s i of-b = leads-by r s of-b 2 _ e refl i tt
  declared-leads r (inr e) s i of_c = leads-by r s of_c 2 _ e refl i tt

  module _ (fine : tree_fault rows ≡ none) where
    abbrev D : ℕ
    D = declarations rows

    pub root-there : D < row_count rows
    unfolding WellPlaced
    root-there =
        let l = declarations-le rows in
        let n = (well-placed rows fine (row_count rows) (omega arith)).0 refl in
        omega arith

    placed : (r : ℕ) → D ≤ r → r < row_count rows → Placed rows r
    unfolding WellPlaced
    placed r h l = (well-placed rows fine r (omega arith)).1 (h, l)

    leads-all : (r : ℕ) → r < row_count rows → (s : Shape) → IsOf rows r s → (p : Column) → Leads rows r (field_of s p) (number_of rows r p)
    unfolding Placed
    leads-all r l = go (dec_lt r D)
      where
        go : Dec (r < D) → (s : Shape) → IsOf rows r s → (p : Column) → Leads rows r (field_of s p) (number_of rows r p)
        go (yes h) = declared-leads r (declared rows r h)
        go (no h) = (placed r (omega arith) l).0

    -- each row counts itself, and the sizes of what it refers to
    summed : (n : ℕ) → n ≤ row_count rows → sum_below size n ≡ n + sum_over size (targets_below rows n)
    unfolding sum_below targets_below sum_over
    summed zero h = refl
    summed (suc n) h =
        let e = summed n (omega arith) in
        let r = row-size n h (leads-all n h) in
        let a = sum_over-append size (targets_below rows n) (targets rows n) in
        omega arith

    -- how often a row is referred to
    times : ℕ → ℕ
    times t = occurrences t (targets_below rows (row_count rows))

    times_none : (t : ℕ) → t ≤ D → times t ≡ 0
    unfolding times Never Placed Refers
    times_none t h = (never-zero rows t (count-all rows t)).1 (go (dec_lt t D))
      where
        go : Dec (t < D) → (q : ℕ) (o : Column) → ¬ Refers rows q o t
        go (yes l) q o w = let b = bounds rows t q (field_of w.0 o) (number_of rows q o) w.2 in declares-only rows q o t (declared rows q (omega arith)) w
        go (no l) q o w = (placed t (omega arith) (let r = root-there in omega arith)).2 (omega arith) q o w

    times-once : (t : ℕ) → D < t → t < row_count rows → times t ≡ 1
    unfolding times Placed
    times-once t h l = (once-one rows t (count-all rows t)).1 ((placed t (omega arith) l).3 (λ e. omega arith))

    before : (n : ℕ) → n ≤ suc D → sum_below (λ t. times t * size t) n ≡ 0
    unfolding sum_below
    before zero h = refl
    before (suc n) h = let e = before n (omega arith) in let z = ap (λ (x : ℕ). x * size n) (times_none n (omega arith)) in omega arith

    abbrev weight : ℕ → ℕ
    weight n = sum_below (λ t. times t * size t) n

    next : (f : ℕ → ℕ) (n : ℕ) → sum_below f (suc n) ≡ sum_below f n + f n
    unfolding sum_below
    next f n = refl

    after : (n : ℕ) → D < n → n ≤ row_count rows → weight n + sum_below size (suc D) ≡ sum_below size n
    after zero h l = absurd (omega arith)
    after (suc n) h l = go (dec_lt D n) (λ i. after n i (omega arith))
      where
        go : Dec (D < n) → (D < n → weight n + sum_below size (suc D) ≡ sum_below size n) → weight (suc n) + sum_below size (suc D) ≡ sum_below size (suc n)
        go (yes i) f =
            let e = f i in
            let u = next (λ t. times t * size t) n in
            let v = next size n in
            let w = ap (λ (x : ℕ). x * size n) (times-once n i l) in
            omega arith
        go (no i) f =
            let e : D ≡ n = omega arith in
            let b = before (suc D) (omega arith) in
            subst (λ (x : ℕ). weight (suc x) + sum_below size (suc D) ≡ sum_below size (suc x)) e (omega arith)

    pub size_is : form_size (form_of rows) ≡ row_count rows - D
    unfolding form_of root times sum_over
    size_is =
        let r = root-there in
        let n = row_count rows in
        let s = summed n (omega arith) in
        let d = summed D (omega arith) in
        let z : sum_over size (targets_below rows D) ≡ 0 = ap (sum_over size) (no-targets-below rows D (omega arith)) in
        let w = weighed size n size-past (targets_below rows n) in
        let a = after n r (omega arith) in
        let u = next size D in
        omega arith

pub size-is-count : SizeIsCount
unfolding SizeIsCount
size-is-count rows e = size_is rows e

pub same_count : SameCount
unfolding SameCount
same_count rows e = let c = top_down-count rows in let s = size_is rows e in let l = declarations-le rows in omega arith
